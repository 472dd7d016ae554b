-- What the code computes fits the word that it is put into.
use mathlib.Core.Path.{◌≡◌, sym, ap, ◌∙◌, subst}
use Prim.Native.Nat.{ℕ, ◌+◌, ◌-◌, ◌*◌, ◌/◌, ◌^◌, ◌≤◌, ◌<◌}
use native.Mathlib.Nat.{mod-lt}
use native.Mathlib.Omega.{arith}
use lib.Arith.{digits_lt}
use lib.Pow.{pow_pos, pow-add, shr_lt, ones_sub-lt}
use lib.Count.{count_leading_zeros, leading_length, leading_unique}
use lib.Dec.{lit≤, lit<}
use Rattle.alu.specs.declared.Mode.{Mode}
use Rattle.alu.specs.declared.Mode.TheVariants.{Byte, Word}
use Rattle.alu.specs.Width.{width_of, low, complement}
use Rattle.alu.specs.Bounds.{IsWidth}

pub width_at_most_16 : (mode : Mode) → width_of mode ≤ 16
width_at_most_16 Byte = lit≤ tt
width_at_most_16 Word = lit≤ tt

pub width_positive : (mode : Mode) → 0 < width_of mode
width_positive Byte = lit< tt
width_positive Word = lit< tt

pub low_lt : (w x : ℕ) → low w x < 2 ^ w
low_lt w x = mod-lt x (pow_pos w)

pub complement_lt : (w x : ℕ) → complement w x < 2 ^ w
unfolding complement
complement_lt w x = ones_sub-lt w (low w x)

-- an upper part that stays, and any part below it
pub kept_fits : (w old part : ℕ) → w ≤ 16 → old < 65536 → part < 2 ^ w → old / 2 ^ w * 2 ^ w + part < 65536
kept_fits w old part l h p =
    let e : (16 - w) + w ≡ 16 = omega arith in
    subst (λ (x : ℕ). old / 2 ^ w * 2 ^ w + part < x) (sym (pow-add 2 (16 - w) w) ∙ ap (λ (x : ℕ). 2 ^ x) e)
    (digits_lt (shr_lt (16 - w) w (subst (λ (x : ℕ). old < 2 ^ x) (sym e) h)) p)

-- zeros above a narrow number, counted in 16 bits
pub zeros_narrow : (w a : ℕ) → w ≤ 16 → a < 2 ^ w → count_leading_zeros w a + (16 - w) ≡ count_leading_zeros 16 a
zeros_narrow w a l h =
    let t = leading_length w a h in
    let e : count_leading_zeros w a + t.0 ≡ w = t.1 in
    leading_unique 16 a (count_leading_zeros w a + (16 - w)) t.0 (omega arith) t.2 t.3

-- the same as the code counts them
pub zeros_counted : (mode : Mode) (x part width : ℕ) → IsWidth mode width → part ≡ low (width_of mode) x
    → (16 ≤ count_leading_zeros 16 part + 1 + width) × (count_leading_zeros 16 part + 1 + width - 16 ≡ count_leading_zeros width part + 1)
zeros_counted mode x part width w e =
    let l : part < 2 ^ width = rw (e, w.is) (low_lt (width_of mode) x) in
    let z = zeros_narrow width part w.room l in
    let r = w.room in
    omega arith
