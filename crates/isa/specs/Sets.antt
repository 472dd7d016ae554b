-- Sets of field values, for the lists of document 01's instruction list: bit k of a set says whether k is in it.
use Rattle.std.specs.Prelude.{ℕ, ◌+◌, ◌-◌, ◌/◌, ◌%◌, ◌^◌, Bool, List, [], ◌∷◌, eqb}

-- the values of a list, in which each stands once
abbrev pub these : List ℕ → ℕ
these [] = 0
these (k ∷ ks) = 2 ^ k + these ks

-- 0 to k
abbrev pub upto : ℕ → ℕ
upto k = 2 ^ (k + 1) - 1

abbrev pub has : ℕ → ℕ → Bool
has s k = eqb (s / 2 ^ k % 2) 1
