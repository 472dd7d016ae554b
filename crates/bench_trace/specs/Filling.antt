-- The reader, told by the number of words that it fills and by the lent words alone.
use Rattle.std.specs.Prelude.{◌≡◌, List, ℕ, length}
use Rattle.std.proofs.Math.Option.{none, some}
use Rattle.choice.specs.Tells.{Placed}
use Rattle.trace.specs.Layout.{words_per_record}
use Rattle.trace.specs.Answers.{leaves}
use Rattle.trace.specs.Reading.{read_of, read_words}

-- the words that an answer says are filled: none where it refuses
abbrev pub filled_of : Placed ℕ → ℕ
filled_of answer = elim answer.told.value [ some n ↦ n | none ↦ 0 ]

-- a trace, the number of words, and the lent cycle words before and after
pub record FillsFrom (trace : List ℕ) (r : ℕ) (before after : List ℕ) : Type 0 where
  pub filled : r ≡ filled_of (read_of words_per_record trace (length before))
  pub written : after ≡ leaves (read_of words_per_record trace (length before)) (read_words words_per_record trace) before
