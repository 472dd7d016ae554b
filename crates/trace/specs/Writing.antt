-- The writer: cycle words into a trace (document 01, runs, blocks and refusal numbers).
use Rattle.std.specs.Prelude.{ℕ, zero, suc, ◌+◌, ◌*◌, ◌/◌, ◌%◌, not, List, [], ◌∷◌, length, take, drop, eqb, ltb, Result}
use Rattle.refusals.specs.declared.Refused.{Refused}
use Rattle.choice.specs.Checks.{Check, check, refusal}
use Rattle.choice.specs.Tells.{Placed, accepted_whole}
use Rattle.trace.specs.Layout.{words_per_record, block_bytes, block_words, joined}
use Rattle.trace.specs.Blocks.{block_of}
use Rattle.trace.specs.Answers.{or_refused, Fills}
use Rattle.run.specs.Runs.{most_cycles}
use Rattle.trace.specs.Limits.{blocks_for}

-- m blocks from number k on: 252 words each, and what is left in the last
abbrev pub blocks_from : ℕ → ℕ → ℕ → List ℕ → List (List ℕ)
blocks_from w zero k words = []
blocks_from w (suc m) k words = block_of w k (take block_words words) ∷ blocks_from w m (k + 1) (drop block_words words)

-- the words of the records are the cycle words
abbrev pub trace_of : ℕ → List ℕ → List ℕ
trace_of w words = joined (blocks_from w (blocks_for (length words)) 0 words)

-- n cycle words, into room for bytes
abbrev pub write_checks : ℕ → ℕ → ℕ → List Check
write_checks w n room =
    check 1 (not (eqb (n % w) 0)) ∷ check 2 (ltb most_cycles (n / w)) ∷ check 3 (ltb room (blocks_for n * block_bytes)) ∷ []

unfoldable pub write_of : ℕ → ℕ → ℕ → Placed ℕ
write_of w n room = or_refused (refusal (write_checks w n room)) (accepted_whole (blocks_for n * block_bytes))

-- what the writer promises: cycle words, its answer, and the lent trace before and after
abbrev pub Writes : List ℕ → Result ℕ Refused → List ℕ → List ℕ → Type 0
Writes words r before after = Fills (write_of words_per_record (length words) (length before)) (trace_of words_per_record words) r before after
