-- The sums in the terms of whole numbers (specs/Sums): what C and OVR say of them. `sum_at_width`, first, is the one fact that byte and word
-- arithmetic share; `sums_meet`, `enough` and `same_leaves_one` stand at the end.
use mathlib.Core.Path.{◌≡◌, sym, ap, ap₂, ◌∙◌}
use mathlib.Core.Logic.{◌↔◌}
use Prim.Native.Nat.{ℕ, ◌+◌, ◌-◌, ◌*◌, ◌/◌, ◌%◌, ◌^◌, ◌≤◌, ◌<◌}
use native.Mathlib.Nat.{mod-lt, mod-eq_of_lt, div-add-mod, div-add-mod', le_refl}
use native.Mathlib.Omega.{arith}
use lib.Dec.{lit<}
use lib.Bits.{bit_xor}
use lib.Pow.{pow_pos, pow-add, pow-lt, shr_lt}
use Rattle.alu.specs.declared.Outcome.{Outcome}
use Rattle.alu.specs.declared.TwoOperandKind.{TwoOperandKind}
use Rattle.alu.specs.declared.TwoOperandKind.TheVariants.{SMinusR, SMinusRWithCarry, RMinusS, RMinusSWithCarry, RPlusS, RPlusSWithCarry, And, Nand, Xor, Nor, Or, Xnor}
use Rattle.alu.specs.declared.OneOperandKind.{OneOperandKind}
use Rattle.alu.specs.declared.OneOperandKind.TheVariants.{Move, Complement, Increment, Negate}
use Rattle.alu.specs.declared.BitKind.{BitKind}
use Rattle.alu.specs.declared.BitKind.TheVariants.{SetBit, ResetBit, TestBit, LoadBit, LoadBitComplement, AddBit, SubtractBit}
use Rattle.alu.specs.declared.Operation.{Operation}
use Rattle.alu.specs.declared.Operation.TheVariants.{TwoOperand, OneOperand, Bit, Shift, Rotate, Merge, Compare, Prioritize, CrcForward, CrcReverse}
use Rattle.alu.specs.Width.{bit, low, complement}
use Rattle.alu.specs.Flags.{stored_c}
use Rattle.alu.specs.Operations.{carry_into, plus, minus, two_operand, one_operand, power, bit_operation, outcome_of}
use Rattle.alu.specs.Sums.{InRange, Added, Taken, two_operand_terms, one_operand_terms, bit_terms, terms_of, Meets}
use Rattle.alu.proofs.Fits.{low_lt, complement_lt}
use Rattle.alu.proofs.Bits.{bit_cases, bits, bit_lt, bit_complement, pow_half}
use Rattle.alu.proofs.Changes.{plus_carry, plus_overflow}

-- The sum.

module _ (w a b k : ℕ) (ha : a < 2 ^ w) (hb : b < 2 ^ w) (hk : k < 2) where
  carry_is : carry_into w a b k ≡ (a + b + k) / 2 ^ w
  carry_is =
      ap₂ (λ (x y : ℕ). (x + y + k) / 2 ^ w % 2) (mod-eq_of_lt ha) (mod-eq_of_lt hb)
      ∙ mod-eq_of_lt (shr_lt 1 w (omega (arith, pow-add 2 1 w)))

  -- the result and the carry out are the whole sum
  pub sum_at_width : low w (a + b + k) + 2 ^ w * carry_into w a b k ≡ a + b + k
  sum_at_width = omega (arith, ap (λ (x : ℕ). 2 ^ w * x) carry_is, div-add-mod (a + b + k) (2 ^ w))

-- both modes by that fact
pub byte_sum : (a b k : ℕ) → a < 2 ^ 8 → b < 2 ^ 8 → k < 2 → low 8 (a + b + k) + 2 ^ 8 * carry_into 8 a b k ≡ a + b + k
byte_sum = sum_at_width 8

pub word_sum : (a b k : ℕ) → a < 2 ^ 16 → b < 2 ^ 16 → k < 2 → low 16 (a + b + k) + 2 ^ 16 * carry_into 16 a b k ≡ a + b + k
word_sum = sum_at_width 16

-- The two carries and the signed range.

-- a number below 2 ^ w is its top bit and the rest
top_split : (w x : ℕ) → 0 < w → x < 2 ^ w → bit (w - 1) x * 2 ^ (w - 1) + x % 2 ^ (w - 1) ≡ x
top_split w x wide h =
    let l : x / 2 ^ (w - 1) < 2 = shr_lt 1 (w - 1) (omega (arith, pow-add 2 1 (w - 1), pow_half w wide)) in
    ap (λ (y : ℕ). y * 2 ^ (w - 1) + x % 2 ^ (w - 1)) (mod-eq_of_lt l) ∙ div-add-mod' x (2 ^ (w - 1))

-- by cases on the top bits of both operands and on both carries; h is the weight of the top bit and e the sum's rest below it
module _ (h e y : ℕ) (he : e < h) (hy : y < 2 * h) where
  abbrev Claim : ℕ → ℕ → ℕ → ℕ → Type 0
  Claim ta tb c d =
      y + 2 * h * c ≡ (ta + tb + d) * h + e
      → (bit_xor c d ≡ 0)
      ↔ ((ta * (2 * h) + tb * (2 * h) ≤ (ta + tb + d) * h + e + h) × ((ta + tb + d) * h + e < ta * (2 * h) + tb * (2 * h) + h))

  two_carries : (ta tb c d : ℕ) → ta < 2 → tb < 2 → c < 2 → d < 2 → Claim ta tb c d
  two_carries ta tb c d la lb lc ld =
      bits (λ (ta tb : ℕ). Claim ta tb c d)
      (bits (Claim 0 0) (λ p. omega arith) (λ p. omega arith) (λ p. omega arith) (λ p. omega arith) c d lc ld)
      (bits (Claim 0 1) (λ p. omega arith) (λ p. omega arith) (λ p. omega arith) (λ p. omega arith) c d lc ld)
      (bits (Claim 1 0) (λ p. omega arith) (λ p. omega arith) (λ p. omega arith) (λ p. omega arith) c d lc ld)
      (bits (Claim 1 1) (λ p. omega arith) (λ p. omega arith) (λ p. omega arith) (λ p. omega arith) c d lc ld)
      ta tb la lb

module _ (w : ℕ) (wide : 0 < w) (a b k status : ℕ) (ha : a < 2 ^ w) (hb : b < 2 ^ w) (hk : k < 2) where
  below : ℕ
  below = low (w - 1) a + low (w - 1) b + k

  below_lt : below < 2 ^ w
  unfolding below
  below_lt = omega (arith, pow_half w wide, low_lt (w - 1) a, low_lt (w - 1) b)

  -- the sum by its top bits, the carry into the top, and the rest
  parts : (bit (w - 1) a + bit (w - 1) b + carry_into (w - 1) a b k) * 2 ^ (w - 1) + below % 2 ^ (w - 1) ≡ a + b + k
  unfolding below
  parts = omega (arith, top_split w a wide ha, top_split w b wide hb, top_split w below wide below_lt)

  pub plus_added : Added w a b k (plus w a b k status)
  unfolding plus below
  plus_added = record {
    total = rw (plus_carry w a b k status) (sum_at_width w a b k ha hb hk);
    in_range =
        let c = carry_into w a b k in
        let d = carry_into (w - 1) a b k in
        let p : low w (a + b + k) + 2 * 2 ^ (w - 1) * c ≡ (bit (w - 1) a + bit (w - 1) b + d) * 2 ^ (w - 1) + below % 2 ^ (w - 1) =
        omega (arith, ap (λ (x : ℕ). x * c) (pow_half w wide), sum_at_width w a b k ha hb hk, parts) in
        let y-lt : low w (a + b + k) < 2 * 2 ^ (w - 1) = omega (arith, pow_half w wide, low_lt w (a + b + k)) in
        rw (plus_overflow w a b k status)
        (rw (parts, sym (pow_half w wide)) at
        (two_carries (2 ^ (w - 1)) (below % 2 ^ (w - 1)) (low w (a + b + k)) (low_lt (w - 1) below) y-lt
        (bit (w - 1) a) (bit (w - 1) b) c d (bit_lt (w - 1) a) (bit_lt (w - 1) b) (bit_lt w (low w a + low w b + k)) (bit_lt (w - 1) below) p));
  }

-- The difference: the complement is what is left to 2 ^ w, less 1.

module _ (w : ℕ) (wide : 0 < w) (a b k status : ℕ) (ha : a < 2 ^ w) (hb : b < 2 ^ w) (hk : k < 2) where
  complement_is : complement w b + b + 1 ≡ 2 ^ w
  unfolding complement
  complement_is = rw (mod-eq_of_lt hb) (omega arith)

  added : Added w a (complement w b) k (plus w a (complement w b) k status)
  added = plus_added w wide a (complement w b) k status ha (complement_lt w b) hk

  borrow : (y c : ℕ) → y < 2 ^ w → c < 2 → y + 2 ^ w * c + b + 1 ≡ a + k + 2 ^ w → (c ≡ 1) ↔ (b < a + k)
  borrow y c hy =
      bit_cases (λ (c : ℕ). y + 2 ^ w * c + b + 1 ≡ a + k + 2 ^ w → (c ≡ 1) ↔ (b < a + k)) (λ e. omega arith) (λ e. omega arith) c

  -- both numbers moved by the complement
  shifted : (ta tb : ℕ) → ta < 2 → tb < 2
      → InRange w (a + complement w b + k) (ta * 2 ^ w + (1 - tb) * 2 ^ w) ↔ InRange w (a + k + tb * 2 ^ w) (b + 1 + ta * 2 ^ w)
  shifted = bits
      (λ (ta tb : ℕ). InRange w (a + complement w b + k) (ta * 2 ^ w + (1 - tb) * 2 ^ w) ↔ InRange w (a + k + tb * 2 ^ w) (b + 1 + ta * 2 ^ w))
      (omega (arith, complement_is)) (omega (arith, complement_is)) (omega (arith, complement_is)) (omega (arith, complement_is))

  pub minus_taken : Taken w a b k (minus w a b k status)
  unfolding minus plus
  minus_taken =
      let o = plus w a (complement w b) k status in
      let whole : o.result + 2 ^ w * stored_c o.status + b + 1 ≡ a + k + 2 ^ w = omega (arith, added.total, complement_is) in
      let turned = rw (bit_complement w (w - 1) b (omega arith)) at added.in_range in
      let same = shifted (bit (w - 1) a) (bit (w - 1) b) (bit_lt (w - 1) a) (bit_lt (w - 1) b) in
      record {
        by_complement = added.total;
        total = whole;
        unborrowed = borrow o.result (stored_c o.status) (low_lt w (a + complement w b + k)) (bit_lt 1 o.status) whole;
        in_range = ((λ z. same.0 (turned.0 z)), (λ z. turned.1 (same.1 z)));
      }

-- Over all operations.

module _ (w : ℕ) (wide : 0 < w) (status : ℕ) where
  two_operand_meets : (kind : TwoOperandKind) (r s : ℕ) → r < 2 ^ w → s < 2 ^ w
      → Meets w (two_operand_terms kind r s (stored_c status)) (two_operand w kind r s status)
  unfolding two_operand
  two_operand_meets SMinusR r s h l = minus_taken w wide s r 1 status l h (lit< tt)
  two_operand_meets SMinusRWithCarry r s h l = minus_taken w wide s r (stored_c status) status l h (bit_lt 1 status)
  two_operand_meets RMinusS r s h l = minus_taken w wide r s 1 status h l (lit< tt)
  two_operand_meets RMinusSWithCarry r s h l = minus_taken w wide r s (stored_c status) status h l (bit_lt 1 status)
  two_operand_meets RPlusS r s h l = plus_added w wide r s 0 status h l (lit< tt)
  two_operand_meets RPlusSWithCarry r s h l = plus_added w wide r s (stored_c status) status h l (bit_lt 1 status)
  two_operand_meets And r s h l = tt
  two_operand_meets Nand r s h l = tt
  two_operand_meets Xor r s h l = tt
  two_operand_meets Nor r s h l = tt
  two_operand_meets Or r s h l = tt
  two_operand_meets Xnor r s h l = tt

  one_operand_meets : (kind : OneOperandKind) (a : ℕ) → a < 2 ^ w → Meets w (one_operand_terms kind a) (one_operand w kind a status)
  unfolding one_operand
  one_operand_meets Move a h = tt
  one_operand_meets Complement a h = tt
  one_operand_meets Increment a h = plus_added w wide a 0 1 status h (pow_pos w) (lit< tt)
  one_operand_meets Negate a h = minus_taken w wide 0 a 1 status (pow_pos w) h (lit< tt)

  bit_meets : (kind : BitKind) (n a : ℕ) → a < 2 ^ w → Meets w (bit_terms kind a (power w n)) (bit_operation w kind n a status)
  unfolding bit_operation
  bit_meets SetBit n a h = tt
  bit_meets ResetBit n a h = tt
  bit_meets TestBit n a h = tt
  bit_meets LoadBit n a h = tt
  bit_meets LoadBitComplement n a h = tt
  bit_meets AddBit n a h = plus_added w wide a (power w n) 0 status h (pow-lt (mod-lt n wide)) (lit< tt)
  bit_meets SubtractBit n a h = minus_taken w wide a (power w n) 1 status h (pow-lt (mod-lt n wide)) (lit< tt)

  -- every sum and difference has the result, C and OVR of its whole numbers
  pub sums_meet : (operation : Operation) → Meets w (terms_of w operation status) (outcome_of w operation status)
  unfolding outcome_of
  sums_meet (TwoOperand kind r s) = two_operand_meets kind (low w r) (low w s) (low_lt w r) (low_lt w s)
  sums_meet (OneOperand kind source) = one_operand_meets kind (low w source) (low_lt w source)
  sums_meet (Bit kind n source) = bit_meets kind n (low w source) (low_lt w source)
  sums_meet (Shift kind source) = tt
  sums_meet (Rotate n source) = tt
  sums_meet (Merge n u r mask) = tt
  sums_meet (Compare n u r mask) = tt
  sums_meet (Prioritize source mask) = tt
  sums_meet (CrcForward register acc) = tt
  sums_meet (CrcReverse register acc) = tt

-- with a carry in of 1: C is 1 exactly where no more is taken than there is
pub enough : {w a b : ℕ} {o : Outcome} → Taken w a b 1 o → (stored_c o.status ≡ 1) ↔ (b ≤ a)
enough t = ((λ z. let h = t.unborrowed.0 z in omega arith), (λ h. t.unborrowed.1 (omega arith)))

-- so x - x leaves C 1
pub same_leaves_one : (w : ℕ) → 0 < w → (x status : ℕ) → stored_c (outcome_of w (TwoOperand RMinusS x x) status).status ≡ 1
same_leaves_one w wide x status = (enough (sums_meet w wide status (TwoOperand RMinusS x x))).1 (le_refl (low w x))
