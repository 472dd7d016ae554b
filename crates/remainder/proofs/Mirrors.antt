-- The mirror: its bits, its mirror, and that CRCR is CRCF in it.
-- The laws, in this order: `mirror_bit`, `mirror_again`.
use mathlib.Core.Path.{◌≡◌, refl, sym, ap, ap₂, subst, ◌∙◌}
use mathlib.Core.Logic.{⊎_elim}
use Prim.Native.Nat.{ℕ, zero, suc, ◌+◌, ◌-◌, ◌*◌, ◌/◌, ◌%◌, ◌^◌, ◌<◌, ◌≤◌}
use native.Mathlib.Nat.{mod-lt, mod-eq_of_lt, zero-lt-suc, pow-suc, eq-or-lt_of_le}
use native.Mathlib.Numerals.{add-one}
use native.Mathlib.Omega.{arith}
use lib.Arith.{digits_lt, digits_div, digits_mod}
use lib.Pow.{pow_pos, field, mod-mod-pow, shr_lt, shr-shr, split}
use lib.Bits.{bit_xor, xor_shr, xor_mod, xor_block}
use Rattle.alu.specs.Width.{bit}
use Rattle.alu.specs.Flags.{stored_link, plain, linked, with_sign}
use Rattle.alu.specs.Operations.{gated, moved_up, moved_down, crc_step, crc_forward, crc_reverse}
use Rattle.alu.proofs.Bits.{bit_cases, bit_lt, bit_shr, bit_lower, bit_upper}
use Rattle.alu.proofs.Linear.{fed, fed_lt, step_is}
use Rattle.remainder.specs.Remainder.{mirror}

pub mirror_lt : (k x : ℕ) → mirror k x < 2 ^ k
unfolding mirror
mirror_lt zero x = pow_pos 0
mirror_lt (suc k) x =
    let e : 2 * 2 ^ k ≡ 2 ^ suc k = omega (arith, pow-suc 2 k) in
    subst (λ (size : ℕ). x % 2 * 2 ^ k + mirror k (x / 2) < size) e (digits_lt (mod-lt x (zero-lt-suc 1)) (mirror_lt k (x / 2)))

-- bit by bit
pub mirror_bit : (k i x : ℕ) → i < k → bit i (mirror k x) ≡ bit (k - 1 - i) x
unfolding mirror
mirror_bit zero i x h = absurd (omega arith)
mirror_bit (suc k) i x h =
    let upto : i ≤ k = omega arith in
    ⊎_elim highest (λ l. lower l (mirror_bit k i (x / 2) l)) (eq-or-lt_of_le upto)
  where
    highest : i ≡ k → bit i (x % 2 * 2 ^ k + mirror k (x / 2)) ≡ bit (suc k - 1 - i) x
    highest e =
        let up : i ≡ k + 0 = omega arith in
        let down : 0 ≡ suc k - 1 - i = omega arith in
        let last : bit 0 (x % 2) ≡ bit 0 x = omega arith in
        ap (λ (j : ℕ). bit j (x % 2 * 2 ^ k + mirror k (x / 2))) up ∙ bit_upper k 0 (x % 2) (mirror k (x / 2)) (mirror_lt k (x / 2)) ∙ last
        ∙ ap (λ (j : ℕ). bit j x) down

    lower : i < k → bit i (mirror k (x / 2)) ≡ bit (k - 1 - i) (x / 2) → bit i (x % 2 * 2 ^ k + mirror k (x / 2)) ≡ bit (suc k - 1 - i) x
    lower l e =
        let one : 1 + (k - 1 - i) ≡ suc k - 1 - i = omega arith in
        bit_lower k i (x % 2) (mirror k (x / 2)) l (mirror_lt k (x / 2)) ∙ e ∙ bit_shr 1 (k - 1 - i) x ∙ ap (λ (j : ℕ). bit j x) one

-- a word's top bit is its mirror's last
mirror_top : (k x : ℕ) → mirror (suc k) x ≡ mirror k x * 2 + bit k x
unfolding mirror
mirror_top zero x = omega arith
mirror_top (suc k) x =
    let e : 1 + k ≡ suc k = omega arith in
    ap (λ (y : ℕ). x % 2 * 2 ^ suc k + y) (mirror_top k (x / 2))
    ∙ ap₂ (λ (size y : ℕ). x % 2 * size + (mirror k (x / 2) * 2 + y % 2)) (pow-suc 2 k) (shr-shr x 1 k ∙ ap (λ (i : ℕ). x / 2 ^ i) e)
    ∙ omega arith

-- only the low k bits count
mirror_low : (k x : ℕ) → mirror k (x % 2 ^ k) ≡ mirror k x
unfolding mirror
mirror_low zero x = refl
mirror_low (suc k) x =
    ap₂ (λ (last rest : ℕ). last * 2 ^ k + rest)
    (ap (λ (i : ℕ). x % 2 ^ i % 2) (sym (add-one k)) ∙ mod-mod-pow x k 1)
    (ap (λ (i : ℕ). mirror k (x % 2 ^ i / 2)) (sym (add-one k)) ∙ ap (mirror k) (field x k 1) ∙ mirror_low k (x / 2))

pub mirror_again : (k x : ℕ) → x < 2 ^ k → mirror k (mirror k x) ≡ x
unfolding mirror
mirror_again zero x h = omega arith
mirror_again (suc k) x h =
    let top : bit k x ≡ x / 2 ^ k = mod-eq_of_lt (shr_lt 1 k (let e : 1 + k ≡ suc k = omega arith in rw e h)) in
    ap (λ (y : ℕ). y % 2 * 2 ^ k + mirror k (y / 2)) (mirror_top k x)
    ∙ ap₂ (λ (last rest : ℕ). last * 2 ^ k + mirror k rest) (digits_mod (mirror k x) (bit_lt k x)) (digits_div (mirror k x) (bit_lt k x))
    ∙ ap₂ (λ (last rest : ℕ). last * 2 ^ k + rest) top (ap (mirror k) (sym (mirror_low k x)) ∙ mirror_again k (x % 2 ^ k) (mod-lt x (pow_pos k)))
    ∙ split x k

-- A step in the mirror, at any width.

mirror_xor : (k x y : ℕ) → mirror k (bit_xor x y) ≡ bit_xor (mirror k x) (mirror k y)
unfolding mirror
mirror_xor zero x y = refl
mirror_xor (suc k) x y =
    ap₂ (λ (last rest : ℕ). last * 2 ^ k + rest) (xor_mod x y 1) (ap (mirror k) (xor_shr x y 1) ∙ mirror_xor k (x / 2) (y / 2))
    ∙ sym (xor_block k (x % 2) (y % 2) (mirror k (x / 2)) (mirror k (y / 2)) (mirror_lt k (x / 2)) (mirror_lt k (y / 2)))

mirror_up : (k x : ℕ) → mirror (suc k) (x * 2 + 0) ≡ mirror k x
unfolding mirror
mirror_up k x =
    let last : (x * 2 + 0) % 2 ≡ 0 = omega arith in
    let rest : (x * 2 + 0) / 2 ≡ x = omega arith in
    ap₂ (λ (l r : ℕ). l * 2 ^ k + mirror k r) last rest ∙ omega arith

mirror_zero : (k : ℕ) → mirror k 0 ≡ 0
unfolding mirror
mirror_zero zero = refl
mirror_zero (suc k) = omega (arith, mirror_zero k)

mirror_gated : (k p f : ℕ) → f < 2 → mirror k (gated f p) ≡ gated f (mirror k p)
mirror_gated k p = bit_cases (λ (f : ℕ). mirror k (gated f p) ≡ gated f (mirror k p)) (mirror_zero k) refl

module _ (k p a status : ℕ) where
  abbrev width : ℕ
  width = suc k

  abbrev moved : ℕ
  moved = moved_up width a 0

  -- the mirrored register moved down is the register moved up, mirrored; and the bit that leaves is the same
  down_is : moved_down width (mirror width a) 0 ≡ mirror width moved
  unfolding moved_up moved_down
  down_is =
      let e : 0 + mirror width a ≡ mirror k a * 2 + bit k a = omega (arith, mirror_top k a) in
      ap (λ (x : ℕ). x / 2) e ∙ digits_div (mirror k a) (bit_lt k a) ∙ sym (mirror_low width (a * 2 + 0) ∙ mirror_up k a)

  out_is : mirror width a % 2 ≡ bit (width - 1) a
  out_is =
      let top : k ≡ width - 1 = omega arith in
      ap (λ (x : ℕ). x % 2) (mirror_top k a) ∙ digits_mod (mirror k a) (bit_lt k a) ∙ ap (λ (i : ℕ). bit i a) top

  pub mirrored_step : (crc_reverse width (mirror width a) (mirror width p) status).result ≡ mirror width (crc_forward width a p status).result
  unfolding plain linked with_sign crc_step crc_reverse
  mirrored_step =
      ap₂ (λ (m out : ℕ). bit_xor m (gated (bit_xor (stored_link status) out) (mirror width p))) down_is out_is
      ∙ ap (bit_xor (mirror width moved)) (sym (mirror_gated width p (fed width p a status) (fed_lt width p a status)))
      ∙ sym (mirror_xor width moved (gated (fed width p a status) p))
      ∙ ap (mirror width) (sym (step_is width p a status))
