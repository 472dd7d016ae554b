-- For the contract of a private part: what the judgement of a block tells.
use Rattle.std.specs.Prelude.{ℕ, Result, Ok, Err}
use Rattle.refusals.specs.declared.Refusal.{Refusal}
use Rattle.refusals.specs.Numbers.{number_of}

-- its refusal's number, or 0 if it is sound
abbrev pub number_told : Result (Unit {0}) Refusal → ℕ
number_told (Ok sound) = 0
number_told (Err k) = number_of k
