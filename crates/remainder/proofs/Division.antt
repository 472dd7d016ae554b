-- A step of CRCF is a step of the division. One more bit multiplies the dividend by x and adds the bit times x^16; where that brings x^16 into the
-- remainder, the divisor is subtracted.
use mathlib.Core.Path.{◌≡◌, sym, ap, ap₂, ◌∙◌}
use mathlib.Core.Bool.{Bool, true, false}
use mathlib.Core.List.{List, [], ◌∷◌, ◌++◌}
use Prim.Native.Nat.{ℕ, ◌+◌, ◌*◌, ◌%◌, ◌^◌, ◌<◌}
use native.Mathlib.Omega.{arith}
use lib.Dec.{eqb}
use lib.Pow.{pow_pos}
use lib.Bits.{bit_xor, xor_lt, xor_comm, xor_block, xor_shifted, xor_zero_l, xor_zero_r}
use lib.ListN.{length}
use Rattle.choice.specs.Pick.{pick}
use Rattle.alu.specs.Width.{bit}
use Rattle.alu.specs.Flags.{stored_link}
use Rattle.alu.specs.Operations.{gated, moved_up, crc_forward}
use Rattle.alu.proofs.Bits.{bit_cases}
use Rattle.alu.proofs.Shapes.{gated_lt, moved_up_lt}
use Rattle.alu.proofs.Xors.{xor_assoc, xor_shl, xor_front}
use Rattle.alu.proofs.Linear.{fed, fed_lt, step_is}
use Rattle.remainder.specs.Remainder.{digit, message_polynomial, dividend, divisor, product, Remainder}
use Rattle.remainder.proofs.Multiples.{longer, product_next}

digit_lt : (b : Bool) → digit b < 2
digit_lt true = omega arith
digit_lt false = omega arith

-- A bit more of the message.

polynomial_next : (bits : List Bool) (b : Bool) → message_polynomial (bits ++ b ∷ []) ≡ message_polynomial bits * 2 + digit b
polynomial_next [] b = omega arith
polynomial_next (c ∷ bits) b =
    ap₂ (λ (size v : ℕ). digit c * size + v) (longer bits b) (polynomial_next bits b) ∙ omega arith

dividend_next : (start : ℕ) (bits : List Bool) (b : Bool) → dividend start (bits ++ b ∷ []) ≡ bit_xor (dividend start bits * 2) (digit b * 2 ^ 16)
dividend_next start bits b =
    ap₂ bit_xor start_part message_part
    ∙ sym (xor_assoc (start * 2 ^ m * 2) (v * 2 ^ 16 * 2) (digit b * 2 ^ 16))
    ∙ ap (λ (x : ℕ). bit_xor x (digit b * 2 ^ 16)) (xor_shl (start * 2 ^ m) (v * 2 ^ 16) 1)
  where
    m : ℕ
    m = length bits

    v : ℕ
    v = message_polynomial bits

    start_part : start * 2 ^ length (bits ++ b ∷ []) ≡ start * 2 ^ m * 2
    start_part = ap (λ (size : ℕ). start * size) (longer bits b) ∙ omega arith

    message_part : message_polynomial (bits ++ b ∷ []) * 2 ^ 16 ≡ bit_xor (v * 2 ^ 16 * 2) (digit b * 2 ^ 16)
    message_part =
        let e : v * 2 * 2 ^ 16 ≡ v * 2 ^ 16 * 2 = omega arith in
        ap (λ (x : ℕ). x * 2 ^ 16) (polynomial_next bits b ∙ sym (xor_shifted v 1 (digit b) (digit_lt b)))
        ∙ sym (xor_shl (v * 2) (digit b) 16)
        ∙ ap (λ (x : ℕ). bit_xor x (digit b * 2 ^ 16)) e

-- A step on a register a, with p in ACC and a bit in LINK.
module _ (p a status : ℕ) (hp : p < 2 ^ 16) (ha : a < 2 ^ 16) where
  abbrev link : ℕ
  link = stored_link status

  -- the coefficient of x^16 in a * x + link * x^16
  abbrev lead : ℕ
  lead = fed 16 p a status

  abbrev moved : ℕ
  moved = moved_up 16 a 0

  abbrev next : ℕ
  next = (crc_forward 16 a p status).result

  moved_lt : moved < 2 ^ 16
  moved_lt = moved_up_lt 16 a 0

  pub next_lt : next < 2 ^ 16
  next_lt = rw (step_is 16 p a status) (xor_lt 16 moved (gated lead p) moved_lt (gated_lt 16 lead p hp))

  -- x times the register and the bit: what would stand at x^16, and the register moved up
  times_x : bit_xor (a * 2) (link * 2 ^ 16) ≡ lead * 2 ^ 16 + moved
  unfolding moved_up
  times_x =
      let up : a * 2 ≡ bit 15 a * 2 ^ 16 + (a * 2 + 0) % 2 ^ 16 = omega arith in
      let over : link * 2 ^ 16 ≡ link * 2 ^ 16 + 0 = omega arith in
      ap₂ bit_xor up over
      ∙ xor_block 16 (bit 15 a) link ((a * 2 + 0) % 2 ^ 16) 0 moved_lt (pow_pos 16)
      ∙ ap₂ (λ (x y : ℕ). x * 2 ^ 16 + y) (xor_comm (bit 15 a) link) (xor_zero_r ((a * 2 + 0) % 2 ^ 16))

  -- subtracting the divisor removes x^16
  taken_off : (f : ℕ) → f < 2 → bit_xor (pick (eqb f 1) (divisor p) 0) (bit_xor moved (gated f p)) ≡ f * 2 ^ 16 + moved
  taken_off = bit_cases (λ (f : ℕ). bit_xor (pick (eqb f 1) (divisor p) 0) (bit_xor moved (gated f p)) ≡ f * 2 ^ 16 + moved) none once
    where
      none : bit_xor 0 (bit_xor moved 0) ≡ 0 * 2 ^ 16 + moved
      none = xor_zero_l (bit_xor moved 0) ∙ xor_zero_r moved ∙ omega arith

      once : bit_xor (divisor p) (bit_xor moved p) ≡ 1 * 2 ^ 16 + moved
      once =
          let top : 2 ^ 16 + p ≡ 1 * 2 ^ 16 + p = omega arith in
          let low : bit_xor moved p ≡ 0 * 2 ^ 16 + bit_xor moved p = omega arith in
          ap₂ bit_xor top low
          ∙ xor_block 16 1 0 p (bit_xor moved p) hp (xor_lt 16 moved p moved_lt hp)
          ∙ ap (λ (x : ℕ). 1 * 2 ^ 16 + x) (xor_front p moved)

  pub step_divides : bit_xor (a * 2) (link * 2 ^ 16) ≡ bit_xor (pick (eqb lead 1) (divisor p) 0) next
  step_divides =
      times_x
      ∙ sym (taken_off lead (fed_lt 16 p a status))
      ∙ ap (bit_xor (pick (eqb lead 1) (divisor p) 0)) (sym (step_is 16 p a status))

-- the empty message leaves the start
pub no_bits : (p start : ℕ) → start < 2 ^ 16 → Remainder (divisor p) (dividend start []) start
no_bits p start h = record {
  quotient = [];
  makes = let e : start ≡ start * 1 = omega arith in xor_zero_l start ∙ e ∙ sym (xor_zero_r (start * 1));
  small = h;
}

-- with a bit in LINK, a step leads from the remainder of a message to that of the message with the bit
pub one_bit : (p start : ℕ) (bits : List Bool) (b : Bool) (a status : ℕ) → p < 2 ^ 16 → stored_link status ≡ digit b
    → Remainder (divisor p) (dividend start bits) a → Remainder (divisor p) (dividend start (bits ++ b ∷ [])) (crc_forward 16 a p status).result
one_bit p start bits b a status hp link r =
    let q : Bool = eqb (fed 16 p a status) 1 in
    let next = (crc_forward 16 a p status).result in
    let whole : ℕ = product (divisor p) r.quotient in
    record {
      quotient = r.quotient ++ q ∷ [];
      makes =
          ap (λ (x : ℕ). bit_xor x next) (product_next (divisor p) r.quotient q)
          ∙ xor_assoc (whole * 2) (pick q (divisor p) 0) next
          ∙ ap (bit_xor (whole * 2)) (sym (step_divides p a status hp r.small) ∙ ap (λ (x : ℕ). bit_xor (a * 2) (x * 2 ^ 16)) link)
          ∙ sym (xor_assoc (whole * 2) (a * 2) (digit b * 2 ^ 16))
          ∙ ap (λ (x : ℕ). bit_xor x (digit b * 2 ^ 16)) (xor_shl whole a 1 ∙ ap (λ (x : ℕ). x * 2) r.makes)
          ∙ sym (dividend_next start bits b);
      small = next_lt p a status hp r.small;
    }
