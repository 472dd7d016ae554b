-- For the law of the reader's refusals: why it refuses with a number at an index (document 01, runs, blocks and refusal numbers).
use Rattle.std.specs.Prelude.{◌≡◌, List, ℕ, ◌+◌, ◌-◌, ◌*◌, ◌/◌, ◌<◌, length}
use Rattle.choice.specs.Checks.{refusal}
use Rattle.trace.specs.Layout.{block_bytes, part}
use Rattle.trace.specs.Blocks.{block_refusal}
use Rattle.trace.specs.Reading.{trace_blocks, record_count, whole_checks, end_checks}

-- the blocks of a trace, and block j
abbrev pub block_count : List ℕ → ℕ
block_count t = length t / block_bytes

abbrev pub block_at : List ℕ → ℕ → List ℕ
block_at t j = part (j * block_bytes) (j * block_bytes + block_bytes) t

-- what the checks give: those of the length, those of block j, and those of the end
abbrev pub whole_number : ℕ → List ℕ → ℕ
whole_number w t = refusal (whole_checks w (length t))

abbrev pub block_number : ℕ → List ℕ → ℕ → ℕ
block_number w t j = block_refusal w j (block_count t - j - 1) (block_at t j)

abbrev pub end_number : ℕ → List ℕ → ℕ → ℕ
end_number w t room = refusal (end_checks w (record_count (trace_blocks t)) room)

-- the reader refuses with k, which is not 0, at i: by the length; by block i, the first that is not sound; or, with all blocks sound, at the end
pub data Refuses (w : ℕ) (t : List ℕ) (room k i : ℕ) : Type 0 where
  by_length : whole_number w t ≡ k → i ≡ 0 → Refuses w t room k i
  by_block : whole_number w t ≡ 0 → i < block_count t → ((j : ℕ) → j < i → block_number w t j ≡ 0) → block_number w t i ≡ k → Refuses w t room k i
  by_end : whole_number w t ≡ 0 → ((j : ℕ) → j < block_count t → block_number w t j ≡ 0) → end_number w t room ≡ k → i ≡ 0 → Refuses w t room k i
