-- What the calls answer: how many bytes were filled, or a refusal; the word or the data of a line, or a refusal with its column.
use Rattle.std.specs.Prelude.{ℕ, List, ◌++◌, ltb, length, drop, Result, Ok, Err}
use Rattle.std.proofs.Math.Option.{none, some}
use Rattle.choice.specs.Pick.{pick}
use Rattle.choice.specs.Tells.{Tells, accepted, refused, Placed, accepted_whole, refused_at}
use Rattle.refusals.specs.declared.Refusal.{Refusal}
use Rattle.refusals.specs.declared.Refused.{Refused}
use Rattle.refusals.specs.Numbers.{number_of}
use Rattle.listing.specs.Lines.{line_of}
use Rattle.listing.specs.Data.{data_line}

abbrev pub printed_tells : Result ℕ Refusal → Tells ℕ
printed_tells (Ok n) = accepted n
printed_tells (Err k) = refused (number_of k)

abbrev pub read_tells : Result ℕ Refused → Placed ℕ
read_tells (Ok w) = accepted_whole w
read_tells (Err e) = refused_at (number_of e.refusal) e.index

-- what a call tells, and the lent bytes after it
pub record Outcome : Type 0 where
  pub told : Tells ℕ
  pub bytes : List ℕ

abbrev pub outcome : Tells ℕ → List ℕ → Outcome
outcome t s = record { told = t; bytes = s }

-- a line at the front of the bytes; 3 where there are fewer bytes than the line has, and they are left alone
abbrev pub fill : List ℕ → List ℕ → Outcome
fill line before =
    pick (ltb (length before) (length line)) (outcome (refused 3) before)
    (outcome (accepted (length line)) (line ++ drop (length line) before))

abbrev pub fill_by : Tells (List ℕ) → List ℕ → Outcome
fill_by t before = elim t.value [ some line ↦ fill line before | none ↦ outcome (refused t.number) before ]

-- the line of a word; a refused word has its number, and the bytes are left alone
unfoldable pub print_into : ℕ → List ℕ → Outcome
print_into w before = fill_by (line_of w) before

-- the line of immediate data
unfoldable pub data_into : ℕ → List ℕ → Outcome
data_into d before = fill (data_line d) before
