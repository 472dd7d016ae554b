-- For the contracts of private parts alone: what the code's own answers about a width have to be, the number that the definitions name, and bounds
-- by which sums fit. Nobody needs this file to know what an operation does.
use Rattle.std.specs.Prelude.{◌≡◌, ℕ, ◌^◌, ◌≤◌}
use Rattle.alu.specs.declared.Mode.{Mode}
use Rattle.alu.specs.Width.{width_of}

-- the width in bits
pub record IsWidth (mode : Mode) (r : ℕ) : Type 0 where
  pub is : r ≡ width_of mode
  pub positive : 1 ≤ r
  pub room : r ≤ 16

-- 2 to the n
pub record IsPower (n r : ℕ) : Type 0 where
  pub is : r ≡ 2 ^ n
  pub positive : 1 ≤ r
  pub room : r ≤ 65536
