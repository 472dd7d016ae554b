-- What an answer tells, whatever type the code gives it: the number of its refusal or, where it has none, its value.
use Rattle.std.specs.Prelude.{ℕ, eqb}
use Rattle.std.proofs.Math.Option.{Option, none, some}
use Rattle.choice.specs.Pick.{pick}

-- document 01's number of the refusal, 0 where the input was accepted
pub record Tells (A : Type 0) : Type 0 where
  pub number : ℕ
  pub value : Option A

abbrev pub accepted : {A : Type 0} → A → Tells A
accepted x = record { number = 0; value = some x }

-- a refusal tells just its number
abbrev pub refused : {A : Type 0} → ℕ → Tells A
refused k = record { number = k; value = none }

-- a number that the checks gave, with the value that stands if they gave none
abbrev pub tells : {A : Type 0} → ℕ → A → Tells A
tells k x = pick (eqb k 0) (accepted x) (refused k)

-- what an answer tells whose refusal may name a place: the index of a cycle or of a block, or the column of an item; 0 where there is none
pub record Placed (A : Type 0) : Type 0 where
  pub told : Tells A
  pub index : ℕ

abbrev pub accepted_whole : {A : Type 0} → A → Placed A
accepted_whole x = record { told = accepted x; index = 0 }

abbrev pub refused_at : {A : Type 0} → ℕ → ℕ → Placed A
refused_at k i = record { told = refused k; index = i }
