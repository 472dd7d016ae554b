-- What reader and writer answer, and what they leave in lent output (document 01, runs, blocks and refusal numbers).
use Rattle.std.specs.Prelude.{◌≡◌, ℕ, List, ◌++◌, drop, eqb, Result, Ok, Err}
use Rattle.std.proofs.Math.Option.{none, some}
use Rattle.choice.specs.Pick.{pick}
use Rattle.choice.specs.Tells.{Placed, accepted_whole, refused_at}
use Rattle.refusals.specs.declared.Refused.{Refused}
use Rattle.refusals.specs.Numbers.{number_of}

-- a number that the checks of the whole gave, with index 0; the rest where they gave none
abbrev pub or_refused : ℕ → Placed ℕ → Placed ℕ
or_refused k rest = pick (eqb k 0) rest (refused_at k 0)

-- what an answer tells: how much is filled, in words by the reader and in bytes by the writer; or the refusal with its block
abbrev pub filled_tells : Result ℕ Refused → Placed ℕ
filled_tells (Ok n) = accepted_whole n
filled_tells (Err r) = refused_at (number_of r.refusal) r.index

-- lent output after an answer: what was made, and then as it was; a refusal leaves it alone
abbrev pub leaves : Placed ℕ → List ℕ → List ℕ → List ℕ
leaves answer made before = elim answer.told.value [ some n ↦ made ++ drop n before | none ↦ before ]

-- a call's answer and its lent output afterwards
pub record Fills (answer : Placed ℕ) (made : List ℕ) (r : Result ℕ Refused) (before after : List ℕ) : Type 0 where
  pub told : filled_tells r ≡ answer
  pub written : after ≡ leaves answer made before
