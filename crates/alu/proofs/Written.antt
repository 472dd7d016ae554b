-- A destination after write-back: its part at the width is the result's, its part above stays.
use mathlib.Core.Path.{◌≡◌, ap₂, ◌∙◌}
use Prim.Native.Nat.{ℕ, ◌+◌, ◌*◌, ◌/◌, ◌^◌, ◌<◌}
use native.Mathlib.Nat.{div-eq_of_lt, mod-eq_of_lt}
use native.Mathlib.Omega.{arith}
use Rattle.alu.specs.declared.Mode.{Mode}
use lib.Pow.{high, low as low_part}
use Rattle.alu.specs.Width.{width_of, low, write_back}
use Rattle.alu.proofs.Fits.{low_lt, kept_fits, width_at_most_16}

pub written_low : (w old result : ℕ) → low w (write_back w old result) ≡ low w result
unfolding write_back
written_low w old result = low_part (old / 2 ^ w) w (low_lt w result)

pub written_high : (w old result : ℕ) → write_back w old result / 2 ^ w ≡ old / 2 ^ w
unfolding write_back
written_high w old result = high (old / 2 ^ w) w (low_lt w result)

pub written_lt : (mode : Mode) (old result : ℕ) → old < 65536 → write_back (width_of mode) old result < 65536
unfolding write_back
written_lt mode old result h = kept_fits (width_of mode) old (low (width_of mode) result) (width_at_most_16 mode) h (low_lt (width_of mode) result)

-- a word of the width is written over another whole
pub written_over : (w old result : ℕ) → old < 2 ^ w → result < 2 ^ w → write_back w old result ≡ result
unfolding write_back
written_over w old result h k = ap₂ (λ (high low : ℕ). high * 2 ^ w + low) (div-eq_of_lt h) (mod-eq_of_lt k) ∙ omega arith
