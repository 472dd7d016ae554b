-- The order of checks as data: a list of numbers with their conditions, of which the first that holds is given.
use Rattle.std.specs.Prelude.{ℕ, Bool, true, false, List, [], ◌∷◌, eqb}

-- a number of document 01's table of refusals, not 0 where its condition holds, and whether it does
pub record Check : Type 0 where
  pub number : ℕ
  pub holds : Bool

abbrev pub check : ℕ → Bool → Check
check k b = record { number = k; holds = b }

-- the number of the first check that holds, 0 where none does
abbrev pub refusal : List Check → ℕ
refusal [] = 0
refusal (x ∷ xs) = elim x.holds [ true ↦ x.number | false ↦ refusal xs ]

-- no check of the list holds
abbrev pub clear : List Check → Bool
clear [] = true
clear (x ∷ xs) = elim x.holds [ true ↦ false | false ↦ clear xs ]

-- no check of the list has this number
abbrev pub without : ℕ → List Check → Bool
without k [] = true
without k (x ∷ xs) = elim (eqb x.number k) [ true ↦ false | false ↦ without k xs ]
