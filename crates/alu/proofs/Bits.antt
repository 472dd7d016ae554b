-- Single bits of a number, and of numbers put together.
use mathlib.Core.Path.{◌≡◌, refl, sym, ap, ◌∙◌}
use Prim.Native.Nat.{ℕ, zero, suc, ◌+◌, ◌-◌, ◌*◌, ◌/◌, ◌%◌, ◌^◌, ◌<◌}
use native.Mathlib.Nat.{mod-lt, div-eq_of_lt, zero-lt-suc, not-suc-le-zero, le_of_suc-le-suc}
use native.Mathlib.Omega.{arith}
use lib.Pow.{pow_pos, pow-add, shr_lt, shr-shr, split, high, low as low_part, field, mod-mod-pow}
use lib.Bits.{bit_and, bit_or, bit_xor, and_shr, or_shr, xor_shr, and_mod, or_mod, xor_mod}
use Rattle.alu.specs.Width.{bit, low, complement}

-- 0 and 1 are all the bits
pub bit_cases : (P : ℕ → Type 0) → P 0 → P 1 → (x : ℕ) → x < 2 → P x
bit_cases P p q zero h = p
bit_cases P p q (suc zero) h = q
bit_cases P p q (suc (suc x)) h = absurd (not-suc-le-zero (le_of_suc-le-suc (le_of_suc-le-suc h)))

pub bits : (P : ℕ → ℕ → Type 0) → P 0 0 → P 0 1 → P 1 0 → P 1 1 → (x y : ℕ) → x < 2 → y < 2 → P x y
bits P a b c d x y h l = bit_cases (λ (x : ℕ). P x y) (bit_cases (P 0) a b y l) (bit_cases (P 1) c d y l) x h

pub bit_lt : (i x : ℕ) → bit i x < 2
bit_lt i x = mod-lt (x / 2 ^ i) (zero-lt-suc 1)

pub bit_and_lem : (i a b : ℕ) → bit i (bit_and a b) ≡ bit_and (bit i a) (bit i b)
bit_and_lem i a b = ap (λ (x : ℕ). x % 2) (and_shr a b i) ∙ and_mod (a / 2 ^ i) (b / 2 ^ i) 1

pub bit_or_lem : (i a b : ℕ) → bit i (bit_or a b) ≡ bit_or (bit i a) (bit i b)
bit_or_lem i a b = ap (λ (x : ℕ). x % 2) (or_shr a b i) ∙ or_mod (a / 2 ^ i) (b / 2 ^ i) 1

pub bit_xor_lem : (i a b : ℕ) → bit i (bit_xor a b) ≡ bit_xor (bit i a) (bit i b)
bit_xor_lem i a b = ap (λ (x : ℕ). x % 2) (xor_shr a b i) ∙ xor_mod (a / 2 ^ i) (b / 2 ^ i) 1

-- a part keeps the bits below its width
pub bit_low : (w i x : ℕ) → i < w → bit i (low w x) ≡ bit i x
bit_low w i x h =
    let e : (w - i) + i ≡ w = omega arith in
    let f : (w - i - 1) + 1 ≡ w - i = omega arith in
    ap (λ (m : ℕ). x % 2 ^ m / 2 ^ i % 2) (sym e) ∙ ap (λ (y : ℕ). y % 2) (field x (w - i) i)
    ∙ ap (λ (m : ℕ). x / 2 ^ i % 2 ^ m % 2) (sym f) ∙ mod-mod-pow (x / 2 ^ i) (w - i - 1) 1

pub bit_shr : (j i x : ℕ) → bit i (x / 2 ^ j) ≡ bit (j + i) x
bit_shr j i x = ap (λ (y : ℕ). y % 2) (shr-shr x j i)

-- above all of a number's bits there is none
pub bit_above : (i x : ℕ) → x < 2 ^ i → bit i x ≡ 0
bit_above i x h = ap (λ (y : ℕ). y % 2) (div-eq_of_lt h)

-- two parts, one above the other
pub bit_lower : (k i hi lo : ℕ) → i < k → lo < 2 ^ k → bit i (hi * 2 ^ k + lo) ≡ bit i lo
bit_lower k i hi lo h l = sym (bit_low k i (hi * 2 ^ k + lo) h) ∙ ap (bit i) (low_part hi k l)

pub bit_upper : (k i hi lo : ℕ) → lo < 2 ^ k → bit (k + i) (hi * 2 ^ k + lo) ≡ bit i hi
bit_upper k i hi lo l = sym (bit_shr k i (hi * 2 ^ k + lo)) ∙ ap (bit i) (high hi k l)

-- the weight of the top bit is half the size
pub pow_half : (w : ℕ) → 0 < w → 2 ^ w ≡ 2 * 2 ^ (w - 1)
pow_half w h = let e : 1 + (w - 1) ≡ w = omega arith in ap (λ (m : ℕ). 2 ^ m) (sym e) ∙ pow-add 2 1 (w - 1)

pub bit_of_bit : (x : ℕ) → x < 2 → bit 0 x ≡ x
bit_of_bit = bit_cases (λ (x : ℕ). bit 0 x ≡ x) refl refl

pub bit_zero : (x : ℕ) → bit 0 x ≡ x % 2
bit_zero x = omega arith

-- a complement turns each bit over: above place i stands what is left of all ones, and so at place i
module _ (w i x : ℕ) (h : i < w) where
  above : ℕ
  above = low w x / 2 ^ i

  powers : 2 ^ (w - i) * 2 ^ i ≡ 2 ^ w
  powers = let e : (w - i) + i ≡ w = omega arith in sym (pow-add 2 (w - i) i) ∙ ap (λ (m : ℕ). 2 ^ m) e

  above_lt : above < 2 ^ (w - i)
  unfolding above
  above_lt = let e : (w - i) + i ≡ w = omega arith in shr_lt (w - i) i (rw e (mod-lt x (pow_pos w)))

  parted : (rest : ℕ) → rest + 1 + above ≡ 2 ^ (w - i) → complement w x ≡ rest * 2 ^ i + (2 ^ i - 1 - low w x % 2 ^ i)
  unfolding above complement
  parted rest e =
      omega (arith, ap (λ (y : ℕ). y * 2 ^ i) e, powers, split (low w x) i, mod-lt (low w x) (pow_pos i))

  pub bit_complement : bit i (complement w x) ≡ 1 - bit i x
  unfolding above
  bit_complement =
      let e : 2 ^ (w - i) ≡ 2 * 2 ^ (w - i - 1) = pow_half (w - i) (omega arith) in
      let p : (2 ^ (w - i) - 1 - above) + 1 + above ≡ 2 ^ (w - i) = omega (arith, above_lt) in
      let q : (2 ^ (w - i) - 1 - above) % 2 ≡ 1 - above % 2 = omega (arith, above_lt) in
      ap (bit i) (parted (2 ^ (w - i) - 1 - above) p)
      ∙ ap (λ (y : ℕ). y % 2) (high (2 ^ (w - i) - 1 - above) i (omega (arith, pow_pos i)))
      ∙ q ∙ ap (λ (y : ℕ). 1 - y) (bit_low w i x h)
