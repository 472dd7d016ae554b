-- The reader: a trace into cycle words (document 01, runs, blocks and refusal numbers).
use Rattle.std.specs.Prelude.{ℕ, zero, suc, ◌+◌, ◌*◌, ◌/◌, ◌%◌, not, List, [], ◌∷◌, map, length, take, drop, eqb, ltb, Result}
use Rattle.refusals.specs.declared.Refused.{Refused}
use Rattle.choice.specs.Pick.{pick}
use Rattle.choice.specs.Checks.{Check, check, refusal}
use Rattle.choice.specs.Tells.{Placed, accepted_whole, refused_at}
use Rattle.run.specs.Runs.{most_cycles}
use Rattle.trace.specs.Limits.{most_blocks}
use Rattle.trace.specs.Layout.{words_per_record, block_bytes, joined}
use Rattle.trace.specs.Blocks.{count_of, block_refusal, record_words}
use Rattle.trace.specs.Answers.{or_refused, Fills}

-- the first m blocks of a trace
abbrev pub blocks_of : ℕ → List ℕ → List (List ℕ)
blocks_of zero trace = []
blocks_of (suc m) trace = take block_bytes trace ∷ blocks_of m (drop block_bytes trace)

abbrev pub trace_blocks : List ℕ → List (List ℕ)
trace_blocks trace = blocks_of (length trace / block_bytes) trace

-- the refusal number of each block, 0 where it is sound; the first of them is block k
abbrev pub block_refusals : ℕ → ℕ → List (List ℕ) → List ℕ
block_refusals w k [] = []
block_refusals w k (block ∷ blocks) = block_refusal w k (length blocks) block ∷ block_refusals w (k + 1) blocks

-- the first block that is refused, from block i on, or the rest
abbrev pub after_blocks : ℕ → List ℕ → Placed ℕ → Placed ℕ
after_blocks i [] rest = rest
after_blocks i (number ∷ numbers) rest = pick (eqb number 0) (after_blocks (i + 1) numbers rest) (refused_at number i)

-- the records of all blocks: how many, and their words
abbrev pub record_count : List (List ℕ) → ℕ
record_count [] = 0
record_count (block ∷ blocks) = count_of block + record_count blocks

abbrev pub all_record_words : ℕ → List (List ℕ) → List ℕ
all_record_words w blocks = joined (map (record_words w) blocks)

-- the cycle words that are given out are those of the records
abbrev pub read_words : ℕ → List ℕ → List ℕ
read_words w trace = all_record_words w (trace_blocks trace)

-- the refusals of a whole trace, before its blocks are looked at and after
abbrev pub whole_checks : ℕ → ℕ → List Check
whole_checks w bytes = check 11 (not (eqb (bytes % block_bytes) 0)) ∷ check 2 (ltb (most_blocks w) (bytes / block_bytes)) ∷ []

abbrev pub end_checks : ℕ → ℕ → ℕ → List Check
end_checks w records room = check 2 (ltb most_cycles records) ∷ check 3 (ltb room (w * records)) ∷ []

-- the answer once all blocks are sound
abbrev pub read_end : ℕ → ℕ → ℕ → Placed ℕ
read_end w records room = or_refused (refusal (end_checks w records room)) (accepted_whole (w * records))

unfoldable pub read_of : ℕ → List ℕ → ℕ → Placed ℕ
read_of w trace room =
    or_refused (refusal (whole_checks w (length trace)))
    (after_blocks 0 (block_refusals w 0 (trace_blocks trace)) (read_end w (record_count (trace_blocks trace)) room))

-- what the reader promises: a trace, its answer, and the lent cycle words before and after
abbrev pub Reads : List ℕ → Result ℕ Refused → List ℕ → List ℕ → Type 0
Reads trace r before after = Fills (read_of words_per_record trace (length before)) (read_words words_per_record trace) r before after
