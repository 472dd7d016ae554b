-- Multiples of a divisor of degree 16, and that no two numbers are its remainder.
-- The law: `one_remainder`.
use mathlib.Core.Path.{◌≡◌, refl, sym, ap, ap₂, ◌∙◌}
use mathlib.Core.Bool.{Bool, true, false}
use mathlib.Core.List.{List, [], ◌∷◌, ◌++◌}
use Prim.Native.Nat.{ℕ, zero, suc, ◌+◌, ◌*◌, ◌^◌, ◌<◌}
use native.Mathlib.Nat.{lt_of_lt_of_le, pow-suc}
use native.Mathlib.Numerals.{add-one}
use native.Mathlib.Omega.{arith}
use lib.Pow.{pow_pos, pow_mono, shl_lt}
use lib.Bits.{bit_xor, xor_lt, xor_zero_l, xor_zero_r}
use lib.ListN.{length, replicate, length-append, length-replicate}
use Rattle.choice.specs.Pick.{pick}
use Rattle.alu.specs.Width.{bit}
use Rattle.alu.proofs.Bits.{bit_xor_lem, bit_above, bit_upper}
use Rattle.alu.proofs.Xors.{xor_assoc, xor_shl, xor_cancel}
use Rattle.remainder.specs.Remainder.{digit, divisor, product, Remainder}

-- one bit more doubles 2 ^ length
pub longer : (bits : List Bool) (b : Bool) → 2 ^ length (bits ++ b ∷ []) ≡ 2 ^ length bits * 2
longer bits b = ap (λ (n : ℕ). 2 ^ n) (length-append bits (b ∷ []) ∙ add-one (length bits)) ∙ pow-suc 2 (length bits)

-- one bit more of a quotient: the product times x, plus the divisor if the bit is 1
pub product_next : (p : ℕ) (bits : List Bool) (b : Bool) → product p (bits ++ b ∷ []) ≡ bit_xor (product p bits * 2) (pick b p 0)
product_next p [] true = omega (arith, xor_zero_r (p * 1), xor_zero_l p)
product_next p [] false = refl
product_next p (c ∷ bits) b =
    ap₂ bit_xor (moved c) (product_next p bits b)
    ∙ sym (xor_assoc (first * 2) (product p bits * 2) (pick b p 0))
    ∙ ap (λ (x : ℕ). bit_xor x (pick b p 0)) (xor_shl first (product p bits) 1)
  where
    first : ℕ
    first = pick c (p * 2 ^ length bits) 0

    moved : (c : Bool) → pick c (p * 2 ^ length (bits ++ b ∷ [])) 0 ≡ pick c (p * 2 ^ length bits) 0 * 2
    moved true = ap (λ (size : ℕ). p * size) (longer bits b) ∙ omega arith
    moved false = refl

digit_one : (b c : Bool) → digit b ≡ digit c → b ≡ c
digit_one true true e = refl
digit_one true false e = absurd (omega arith)
digit_one false true e = absurd (omega arith)
digit_one false false e = refl

module _ (p : ℕ) (hp : p < 2 ^ 16) where
  abbrev by : ℕ
  by = divisor p

  -- a multiple and what is left, together
  abbrev made : List Bool → ℕ → ℕ
  made bits r = bit_xor (product by bits) r

  -- degrees
  single_lt : (b : Bool) (n : ℕ) → pick b (by * 2 ^ n) 0 < 2 ^ (17 + n)
  single_lt true n = shl_lt 17 n (omega arith)
  single_lt false n = pow_pos (17 + n)

  product_lt : (bits : List Bool) → product by bits < 2 ^ (16 + length bits)
  product_lt [] = pow_pos 16
  product_lt (b ∷ bits) =
      let n = length bits in
      let e : 16 + suc n ≡ 17 + n = omega arith in
      rw e (xor_lt (17 + n) (pick b (by * 2 ^ n) 0) (product by bits) (single_lt b n) (lt_of_lt_of_le (product_lt bits) (pow_mono (omega arith))))

  made_lt : (bits : List Bool) (r : ℕ) → r < 2 ^ 16 → made bits r < 2 ^ (16 + length bits)
  made_lt bits r h = xor_lt (16 + length bits) (product by bits) r (product_lt bits) (lt_of_lt_of_le h (pow_mono {i = 16} (omega arith)))

  -- the highest coefficient is the quotient's first bit
  first_top : (b : Bool) (n : ℕ) → bit (16 + n) (pick b (by * 2 ^ n) 0) ≡ digit b
  first_top true n =
      let e : 16 + n ≡ n + 16 = omega arith in
      let z : by * 2 ^ n ≡ by * 2 ^ n + 0 = omega arith in
      let top : bit 16 by ≡ 1 = omega arith in
      ap₂ bit e z ∙ bit_upper n 16 by 0 (pow_pos n) ∙ top
  first_top false n = bit_above (16 + n) 0 (pow_pos (16 + n))

  made_first : (b : Bool) (bits : List Bool) (r : ℕ) → made (b ∷ bits) r ≡ bit_xor (pick b (by * 2 ^ length bits) 0) (made bits r)
  made_first b bits r = xor_assoc (pick b (by * 2 ^ length bits) 0) (product by bits) r

  made_top : (b : Bool) (bits : List Bool) (r : ℕ) → r < 2 ^ 16 → bit (16 + length bits) (made (b ∷ bits) r) ≡ digit b
  made_top b bits r h =
      let n = length bits in
      ap (bit (16 + n)) (made_first b bits r)
      ∙ bit_xor_lem (16 + n) (pick b (by * 2 ^ n) 0) (made bits r)
      ∙ ap₂ bit_xor (first_top b n) (bit_above (16 + n) (made bits r) (made_lt bits r h))
      ∙ xor_zero_r (digit b)

  -- two quotients of one length that make the same number leave the same remainder
  same_made : (qs ts : List Bool) (r s : ℕ) → length qs ≡ length ts → r < 2 ^ 16 → s < 2 ^ 16 → made qs r ≡ made ts s → r ≡ s
  same_made [] [] r s l hr hs e = e
  same_made [] (t ∷ ts) r s l hr hs e = absurd (omega arith)
  same_made (q ∷ qs) [] r s l hr hs e = absurd (omega arith)
  same_made (q ∷ qs) (t ∷ ts) r s l hr hs e =
      let n = length qs in
      let m : length ts ≡ n = omega arith in
      let top : digit q ≡ digit t =
      sym (made_top q qs r hr) ∙ ap (bit (16 + n)) e ∙ ap (λ (i : ℕ). bit (16 + i) (made (t ∷ ts) s)) (sym m) ∙ made_top t ts s hs in
      let first : pick t (by * 2 ^ length ts) 0 ≡ pick q (by * 2 ^ n) 0 =
      ap₂ (λ (b : Bool) (i : ℕ). pick b (by * 2 ^ i) 0) (sym (digit_one q t top)) m in
      same_made qs ts r s (sym m) hr hs
      (xor_cancel (pick q (by * 2 ^ n) 0) (made qs r) (made ts s)
      (sym (made_first q qs r) ∙ e ∙ made_first t ts s ∙ ap (λ (x : ℕ). bit_xor x (made ts s)) first))

  -- zeros before a quotient change nothing
  zeros_first : (n : ℕ) (bits : List Bool) → product by (replicate n false ++ bits) ≡ product by bits
  zeros_first zero bits = refl
  zeros_first (suc n) bits = zeros_first n bits

  zeros_long : (n : ℕ) (bits : List Bool) → length (replicate n false ++ bits) ≡ n + length bits
  zeros_long n bits = length-append (replicate n false) bits ∙ ap (λ (k : ℕ). k + length bits) (length-replicate n false)

  pub one_remainder : (n r s : ℕ) → Remainder (divisor p) n r → Remainder (divisor p) n s → r ≡ s
  one_remainder n r s a b =
      let qs = a.quotient in
      let ts = b.quotient in
      same_made (replicate (length ts) false ++ qs) (replicate (length qs) false ++ ts) r s
      (omega (arith, zeros_long (length ts) qs, zeros_long (length qs) ts)) a.small b.small
      (ap (λ (x : ℕ). bit_xor x r) (zeros_first (length ts) qs) ∙ a.makes ∙ sym b.makes
      ∙ ap (λ (x : ℕ). bit_xor x s) (sym (zeros_first (length qs) ts)))
