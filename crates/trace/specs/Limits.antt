-- How many blocks a trace may have, and how much of a longer input is worth keeping (document 01, runs, blocks and refusal numbers).
use Rattle.std.specs.Prelude.{ℕ, ◌+◌, ◌-◌, ◌*◌, ◌/◌, ◌%◌, ltb}
use Rattle.choice.specs.Pick.{pick}
use Rattle.run.specs.Runs.{most_cycles}
use Rattle.trace.specs.Layout.{block_bytes, block_words}

-- the blocks that n words take, and the most that a trace has: 49 with three words per record
abbrev pub blocks_for : ℕ → ℕ
blocks_for n = (n + (block_words - 1)) / block_words

abbrev pub most_blocks : ℕ → ℕ
most_blocks w = blocks_for (w * most_cycles)

-- the bytes of one block more than a trace may have
abbrev pub too_long : ℕ → ℕ
too_long w = (most_blocks w + 1) * block_bytes

-- how many of the first bytes of an input of n bytes are kept to answer as of all of it. From `too_long` on it is refused in any case, with
-- 11 or 2 by the remainder (document 01, the reader's order of checks)
unfoldable pub kept_length : ℕ → ℕ → ℕ
kept_length w n = pick (ltb n (too_long w)) n (too_long w + n % block_bytes)
