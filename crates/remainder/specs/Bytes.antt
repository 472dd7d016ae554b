-- Bytes as messages: for the check of a trace block (document 01, blocks), and for two outside vectors.
use Rattle.std.specs.Prelude.{Bool, List, [], ◌∷◌, ◌++◌, ℕ, zero, suc, ◌/◌, ◌%◌, eqb}
use Rattle.alu.specs.Width.{bit}

-- the low n bits of a number, the highest of them first: the order of the check
abbrev pub high_first : ℕ → ℕ → List Bool
high_first zero x = []
high_first (suc n) x = eqb (bit n x) 1 ∷ high_first n x

-- the lowest first: the order of the customary mirrored checks, which no document asks for
abbrev pub low_first : ℕ → ℕ → List Bool
low_first zero x = []
low_first (suc n) x = eqb (x % 2) 1 ∷ low_first n (x / 2)

-- the bits of some bytes, eight for each, in such an order
abbrev pub bits_of : (ℕ → ℕ → List Bool) → List ℕ → List Bool
bits_of order [] = []
bits_of order (byte ∷ bytes) = order 8 byte ++ bits_of order bytes
