-- Y bit by bit, as the data sheet's Y columns have it: the logic, the bit operations, shifts, rotates, merge, compare and the steps of a check.
-- What is said stands in specs/Columns; `columns` and then `link_after_shift`, `link_after_forward` and `link_after_reverse` stand at the end.
use mathlib.Core.Path.{◌≡◌, refl, sym, ap, ap₂, ◌∙◌}
use mathlib.Core.Bool.{Bool, true, false}
use Prim.Native.Nat.{ℕ, zero, suc, ◌+◌, ◌-◌, ◌*◌, ◌/◌, ◌%◌, ◌^◌, ◌≤◌, ◌<◌, zero-le, suc-le-suc}
use native.Mathlib.Nat.{mod-lt, mod-eq_of_lt, add-mod_right, div-eq_of_lt, pow-suc, lt_of_le_of_lt}
use native.Mathlib.Omega.{arith}
use borrow.Author.Tests.{ltb-true, ltb-false, eqb-true, eqb-false}
use lib.Dec.{eqb, ltb, eqb-zero-suc, eqb-suc-zero, eqb-suc-suc, lit<}
use lib.Bits.{bit_and, bit_or, bit_xor, xor_lt}
use lib.Pow.{pow_pos, pow-lt, shr_lt}
use Rattle.choice.specs.Pick.{pick}
use Rattle.alu.specs.declared.TwoOperandKind.{TwoOperandKind}
use Rattle.alu.specs.declared.TwoOperandKind.TheVariants.{SMinusR, SMinusRWithCarry, RMinusS, RMinusSWithCarry, RPlusS, RPlusSWithCarry, And, Nand, Xor, Nor, Or, Xnor}
use Rattle.alu.specs.declared.OneOperandKind.{OneOperandKind}
use Rattle.alu.specs.declared.OneOperandKind.TheVariants.{Move, Complement, Increment, Negate}
use Rattle.alu.specs.declared.BitKind.{BitKind}
use Rattle.alu.specs.declared.BitKind.TheVariants.{SetBit, ResetBit, TestBit, LoadBit, LoadBitComplement, AddBit, SubtractBit}
use Rattle.alu.specs.declared.ShiftKind.{ShiftKind}
use Rattle.alu.specs.declared.ShiftKind.TheVariants.{UpWithZero, UpWithOne, UpWithLink, DownWithZero, DownWithOne, DownWithLink, DownWithC, DownWithNXorOvr}
use Rattle.alu.specs.declared.Operation.{Operation}
use Rattle.alu.specs.declared.Operation.TheVariants.{TwoOperand, OneOperand, Bit, Shift, Rotate, Merge, Compare, Prioritize, CrcForward, CrcReverse}
use Rattle.alu.specs.Width.{bit, low, complement}
use Rattle.alu.specs.Flags.{stored_c, stored_n, stored_ovr, stored_link, with_sign, plain, linked}
use Rattle.alu.specs.Operations.{two_operand, one_operand, power, bit_operation, gated, moved_up, moved_down, shift_up, shift_down, shift, rotated, rotate, merge, compare, crc_step, crc_forward, crc_reverse, outcome_of}
use Rattle.alu.specs.Columns.{from_below, from_above, turned, TwoOperandColumn, OneOperandColumn, BitColumn, shift_column, Column, leaving, reduced}
use Rattle.alu.proofs.Fits.{low_lt}
use Rattle.alu.proofs.Changes.{linked_link}
use Rattle.alu.proofs.Bits.{bit_cases, bits, bit_lt, bit_and_lem, bit_or_lem, bit_xor_lem, bit_low, bit_shr, bit_lower, bit_upper, bit_of_bit, bit_zero, bit_complement}

-- Numbers below 2 ^ w, moved.

next_bit : (i x : ℕ) → bit (suc i) x ≡ bit i (x / 2)
next_bit i x = let e : suc i ≡ 1 + i = omega arith in ap (λ (j : ℕ). bit j x) e ∙ sym (bit_shr 1 i x)

bit_power : (i m : ℕ) → bit i (2 ^ m) ≡ pick (eqb i m) 1 0
bit_power zero zero = refl
bit_power zero (suc m) = rw (eqb-zero-suc m) (omega (arith, pow-suc 2 m))
bit_power (suc i) zero =
    rw (eqb-suc-zero i) (ap (λ (y : ℕ). y % 2) (div-eq_of_lt (pow-lt {i = 0} (suc-le-suc zero-le))))
bit_power (suc i) (suc m) =
    let e : 2 ^ suc m / 2 ≡ 2 ^ m = omega (arith, pow-suc 2 m) in
    next_bit i (2 ^ suc m) ∙ ap (bit i) e ∙ bit_power i m ∙ rw (eqb-suc-suc i m)

up_column : (w i x coming : ℕ) → i < w → coming < 2 → bit i (moved_up w x coming) ≡ from_below coming x i
unfolding moved_up
up_column w zero x coming h l = bit_low w 0 (x * 2 + coming) h ∙ bit_lower 1 0 x coming (lit< tt) l ∙ bit_of_bit coming l
up_column w (suc i) x coming h l =
    let e : suc i ≡ 1 + i = omega arith in
    bit_low w (suc i) (x * 2 + coming) h ∙ ap (λ (j : ℕ). bit j (x * 2 + coming)) e ∙ bit_upper 1 i x coming l

gated_is : (f x : ℕ) → f < 2 → gated f x ≡ f * x
gated_is f x = bit_cases (λ (f : ℕ). gated f x ≡ f * x) (omega arith) (omega arith) f

module _ (w i x coming : ℕ) (h : i < w) (hx : x < 2 ^ w) (l : coming < 2) where
  down_bit : bit i (moved_down w x coming) ≡ bit (1 + i) (coming * 2 ^ w + x)
  unfolding moved_down
  down_bit = bit_shr 1 i (gated coming (2 ^ w) + x) ∙ ap (λ (g : ℕ). bit (1 + i) (g + x)) (gated_is coming (2 ^ w) l)

  down_by : (top : Bool) → eqb (1 + i) w ≡ top → bit (1 + i) (coming * 2 ^ w + x) ≡ pick top coming (bit (1 + i) x)
  down_by true e =
      let t : 1 + i ≡ w + 0 = omega (arith, eqb-true (1 + i) w e) in
      ap (λ (j : ℕ). bit j (coming * 2 ^ w + x)) t ∙ bit_upper w 0 coming x hx ∙ bit_of_bit coming l
  down_by false e = bit_lower w (1 + i) coming x (omega (arith, eqb-false (1 + i) w e)) hx

  down_column : bit i (moved_down w x coming) ≡ from_above w coming x i
  down_column = down_bit ∙ down_by (eqb (1 + i) w) refl

module _ (w n i x : ℕ) (h : i < w) (hx : x < 2 ^ w) where
  places_lt : n % w < w
  places_lt = mod-lt n (lt_of_le_of_lt zero-le h)

  left_lt : x / 2 ^ (w - n % w) < 2 ^ (n % w)
  left_lt =
      let p = places_lt in
      let whole : n % w + (w - n % w) ≡ w = omega arith in
      shr_lt (n % w) (w - n % w) (rw whole hx)

  turn_by : (wraps : Bool) → ltb i (n % w) ≡ wraps → bit i (x * 2 ^ (n % w) + x / 2 ^ (w - n % w)) ≡ turned w n x i
  turn_by true e =
      let l : i < n % w = ltb-true i (n % w) e in
      let p = places_lt in
      bit_lower (n % w) i x (x / 2 ^ (w - n % w)) l left_lt
      ∙ bit_shr (w - n % w) i x
      ∙ ap (λ (j : ℕ). bit j x) (sym (mod-eq_of_lt (omega arith) ∙ omega arith))
  turn_by false e =
      let l : n % w ≤ i = ltb-false i (n % w) e in
      let p = places_lt in
      let there : n % w + (i - n % w) ≡ i = omega arith in
      let back : i + (w - n % w) ≡ (i - n % w) + w = omega arith in
      ap (λ (j : ℕ). bit j (x * 2 ^ (n % w) + x / 2 ^ (w - n % w))) (sym there)
      ∙ bit_upper (n % w) (i - n % w) x (x / 2 ^ (w - n % w)) left_lt
      ∙ ap (λ (j : ℕ). bit j x) (sym (ap (λ (m : ℕ). m % w) back ∙ add-mod_right (i - n % w) w ∙ mod-eq_of_lt (omega arith)))

  turn_column : bit i (rotated w n x) ≡ turned w n x i
  unfolding rotated
  turn_column = bit_low w i (x * 2 ^ (n % w) + x / 2 ^ (w - n % w)) h ∙ turn_by (ltb i (n % w)) refl

-- Single bits put together.

merged : (u r mask : ℕ) → u < 2 → r < 2 → mask < 2 → bit_or (bit_and u mask) (bit_and r (1 - mask)) ≡ pick (eqb mask 1) u r
merged u r mask hu hr =
    bit_cases (λ (mask : ℕ). bit_or (bit_and u mask) (bit_and r (1 - mask)) ≡ pick (eqb mask 1) u r)
    (bits (λ (u r : ℕ). bit_or (bit_and u 0) (bit_and r 1) ≡ r) refl refl refl refl u r hu hr)
    (bits (λ (u r : ℕ). bit_or (bit_and u 1) (bit_and r 0) ≡ u) refl refl refl refl u r hu hr) mask

unmasked : (d mask : ℕ) → d < 2 → mask < 2 → bit_and d (1 - mask) ≡ pick (eqb mask 1) 0 d
unmasked = bits (λ (d mask : ℕ). bit_and d (1 - mask) ≡ pick (eqb mask 1) 0 d) refl refl refl refl

set_here : (here : Bool) (x : ℕ) → x < 2 → bit_or x (pick here 1 0) ≡ pick here 1 x
set_here true = bit_cases (λ (x : ℕ). bit_or x 1 ≡ 1) refl refl
set_here false = bit_cases (λ (x : ℕ). bit_or x 0 ≡ x) refl refl

reset_here : (here : Bool) (x : ℕ) → x < 2 → bit_and x (1 - pick here 1 0) ≡ pick here 0 x
reset_here true = bit_cases (λ (x : ℕ). bit_and x 0 ≡ 0) refl refl
reset_here false = bit_cases (λ (x : ℕ). bit_and x 1 ≡ x) refl refl

test_here : (here : Bool) (x : ℕ) → x < 2 → bit_and x (pick here 1 0) ≡ pick here x 0
test_here true = bit_cases (λ (x : ℕ). bit_and x 1 ≡ x) refl refl
test_here false = bit_cases (λ (x : ℕ). bit_and x 0 ≡ 0) refl refl

load_here : (here : Bool) → 1 - pick here 1 0 ≡ pick here 0 1
load_here true = refl
load_here false = refl

gated_bit : (i f x : ℕ) → f < 2 → bit i (gated f x) ≡ bit_and f (bit i x)
gated_bit i f x l =
    bit_cases (λ (f : ℕ). bit i (gated f x) ≡ bit_and f (bit i x)) (bit_of_zero i)
    (sym (bit_cases (λ (y : ℕ). bit_and 1 y ≡ y) refl refl (bit i x) (bit_lt i x))) f l
  where
    bit_of_zero : (i : ℕ) → bit i 0 ≡ 0
    bit_of_zero i = ap (λ (y : ℕ). y % 2) (div-eq_of_lt (pow_pos i))

-- The columns.

module _ (w i : ℕ) (h : i < w) where
  turned_bit : (y : ℕ) → bit i (complement w y) ≡ 1 - bit i y
  turned_bit y = bit_complement w i y h

  two_operand_column : (kind : TwoOperandKind) (r s status : ℕ)
      → TwoOperandColumn kind (bit i r) (bit i s) (bit i (two_operand w kind r s status).result)
  unfolding two_operand plain with_sign
  two_operand_column SMinusR r s status = tt
  two_operand_column SMinusRWithCarry r s status = tt
  two_operand_column RMinusS r s status = tt
  two_operand_column RMinusSWithCarry r s status = tt
  two_operand_column RPlusS r s status = tt
  two_operand_column RPlusSWithCarry r s status = tt
  two_operand_column And r s status = bit_and_lem i r s
  two_operand_column Nand r s status = turned_bit (bit_and r s) ∙ ap (λ (y : ℕ). 1 - y) (bit_and_lem i r s)
  two_operand_column Xor r s status = bit_xor_lem i r s
  two_operand_column Nor r s status = turned_bit (bit_or r s) ∙ ap (λ (y : ℕ). 1 - y) (bit_or_lem i r s)
  two_operand_column Or r s status = bit_or_lem i r s
  two_operand_column Xnor r s status = turned_bit (bit_xor r s) ∙ ap (λ (y : ℕ). 1 - y) (bit_xor_lem i r s)

  one_operand_column : (kind : OneOperandKind) (x status : ℕ) → OneOperandColumn kind (bit i x) (bit i (one_operand w kind x status).result)
  unfolding one_operand plain with_sign
  one_operand_column Move x status = refl
  one_operand_column Complement x status = turned_bit x
  one_operand_column Increment x status = tt
  one_operand_column Negate x status = tt

  bit_column : (kind : BitKind) (n x status : ℕ) → BitColumn kind (eqb i (n % w)) (bit i x) (bit i (bit_operation w kind n x status).result)
  unfolding bit_operation plain with_sign
  bit_column SetBit n x status =
      bit_or_lem i x (power w n) ∙ ap (bit_or (bit i x)) (bit_power i (n % w)) ∙ set_here (eqb i (n % w)) (bit i x) (bit_lt i x)
  bit_column ResetBit n x status =
      bit_and_lem i x (complement w (power w n)) ∙ ap (bit_and (bit i x)) (turned_bit (power w n) ∙ ap (λ (y : ℕ). 1 - y) (bit_power i (n % w)))
      ∙ reset_here (eqb i (n % w)) (bit i x) (bit_lt i x)
  bit_column TestBit n x status =
      bit_and_lem i x (power w n) ∙ ap (bit_and (bit i x)) (bit_power i (n % w)) ∙ test_here (eqb i (n % w)) (bit i x) (bit_lt i x)
  bit_column LoadBit n x status = bit_power i (n % w)
  bit_column LoadBitComplement n x status =
      turned_bit (power w n) ∙ ap (λ (y : ℕ). 1 - y) (bit_power i (n % w)) ∙ load_here (eqb i (n % w))
  bit_column AddBit n x status = tt
  bit_column SubtractBit n x status = tt

  up_result : (x coming status : ℕ) → coming < 2 → bit i (shift_up w x coming status).result ≡ from_below coming x i
  unfolding shift_up linked plain with_sign
  up_result x coming status l = up_column w i x coming h l

  down_result : (x coming status : ℕ) → x < 2 ^ w → coming < 2 → bit i (shift_down w x coming status).result ≡ from_above w coming x i
  unfolding shift_down linked plain with_sign
  down_result x coming status hx l = down_column w i x coming h hx l

  shift_column_lem : (kind : ShiftKind) (x status : ℕ) → x < 2 ^ w → bit i (shift w kind x status).result ≡ shift_column kind w status x i
  unfolding shift
  shift_column_lem UpWithZero x status hx = up_result x 0 status (lit< tt)
  shift_column_lem UpWithOne x status hx = up_result x 1 status (lit< tt)
  shift_column_lem UpWithLink x status hx = up_result x (stored_link status) status (bit_lt 4 status)
  shift_column_lem DownWithZero x status hx = down_result x 0 status hx (lit< tt)
  shift_column_lem DownWithOne x status hx = down_result x 1 status hx (lit< tt)
  shift_column_lem DownWithLink x status hx = down_result x (stored_link status) status hx (bit_lt 4 status)
  shift_column_lem DownWithC x status hx = down_result x (stored_c status) status hx (bit_lt 1 status)
  shift_column_lem DownWithNXorOvr x status hx =
      down_result x (bit_xor (stored_n status) (stored_ovr status)) status hx
      (xor_lt 1 (stored_n status) (stored_ovr status) (bit_lt 2 status) (bit_lt 3 status))

  turned_lt : (n u : ℕ) → turned w n u i < 2
  turned_lt n u = bit_lt ((i + (w - n % w)) % w) u

  merge_column : (n u r mask : ℕ) → u < 2 ^ w
      → bit i (bit_or (bit_and (rotated w n u) mask) (bit_and r (complement w mask))) ≡ pick (eqb (bit i mask) 1) (turned w n u i) (bit i r)
  merge_column n u r mask hu =
      bit_or_lem i (bit_and (rotated w n u) mask) (bit_and r (complement w mask))
      ∙ ap₂ bit_or
      (bit_and_lem i (rotated w n u) mask ∙ ap (λ (y : ℕ). bit_and y (bit i mask)) (turn_column w n i u h hu))
      (bit_and_lem i r (complement w mask) ∙ ap (bit_and (bit i r)) (turned_bit mask))
      ∙ merged (turned w n u i) (bit i r) (bit i mask) (turned_lt n u) (bit_lt i r) (bit_lt i mask)

  compare_column : (n u r mask : ℕ) → u < 2 ^ w
      → bit i (bit_and (bit_xor r (rotated w n u)) (complement w mask)) ≡ pick (eqb (bit i mask) 1) 0 (bit_xor (bit i r) (turned w n u i))
  compare_column n u r mask hu =
      bit_and_lem i (bit_xor r (rotated w n u)) (complement w mask)
      ∙ ap₂ bit_and (bit_xor_lem i r (rotated w n u) ∙ ap (bit_xor (bit i r)) (turn_column w n i u h hu)) (turned_bit mask)
      ∙ unmasked (bit_xor (bit i r) (turned w n u i)) (bit i mask) (xor_lt 1 (bit i r) (turned w n u i) (bit_lt i r) (turned_lt n u)) (bit_lt i mask)

  step_column : (moved out acc status : ℕ) → out < 2
      → bit i (crc_step w moved out acc status).result ≡ bit_xor (bit i moved) (bit_and (bit_xor (stored_link status) out) (bit i acc))
  unfolding crc_step linked plain with_sign
  step_column moved out acc status l =
      let f = bit_xor (stored_link status) out in
      bit_xor_lem i moved (gated f acc) ∙ ap (bit_xor (bit i moved)) (gated_bit i f acc (xor_lt 1 (stored_link status) out (bit_lt 4 status) l))

  -- bit i of every result, from the operands' parts at the width
  pub columns : (operation : Operation) (status : ℕ) → Column w (reduced w operation) status i (bit i (outcome_of w operation status).result)
  unfolding outcome_of rotate merge compare crc_forward crc_reverse linked plain with_sign
  columns (TwoOperand kind r s) status = two_operand_column kind (low w r) (low w s) status
  columns (OneOperand kind source) status = one_operand_column kind (low w source) status
  columns (Bit kind n source) status = bit_column kind n (low w source) status
  columns (Shift kind source) status = shift_column_lem kind (low w source) status (low_lt w source)
  columns (Rotate n source) status = turn_column w n i (low w source) h (low_lt w source)
  columns (Merge n u r mask) status = merge_column n (low w u) (low w r) (low w mask) (low_lt w u)
  columns (Compare n u r mask) status = compare_column n (low w u) (low w r) (low w mask) (low_lt w u)
  columns (Prioritize source mask) status = tt
  columns (CrcForward register acc) status =
      let x = low w register in
      step_column (moved_up w x 0) (bit (w - 1) x) (low w acc) status (bit_lt (w - 1) x)
      ∙ ap (λ (y : ℕ). bit_xor y (bit_and (bit_xor (stored_link status) (bit (w - 1) x)) (bit i (low w acc)))) (up_column w i x 0 h (lit< tt))
  columns (CrcReverse register acc) status =
      let x = low w register in
      step_column (moved_down w x 0) (x % 2) (low w acc) status (mod-lt x (lit< tt))
      ∙ ap₂ (λ (y out : ℕ). bit_xor y (bit_and (bit_xor (stored_link status) out) (bit i (low w acc))))
      (down_column w i x 0 h (low_lt w register) (lit< tt)) (sym (bit_zero x))

-- LINK after a move.

module _ (w status : ℕ) where
  link_takes : (out y : ℕ) → out < 2 → stored_link (linked out (plain w y status)).status ≡ out
  link_takes out y h = linked_link out (plain w y status) ∙ mod-eq_of_lt h

  link_takes_lowest : (x y : ℕ) → stored_link (linked (x % 2) (plain w y status)).status ≡ bit 0 x
  link_takes_lowest x y = link_takes (x % 2) y (mod-lt x (lit< tt)) ∙ sym (bit_zero x)

  shift_link : (kind : ShiftKind) (x : ℕ) → stored_link (shift w kind x status).status ≡ leaving kind w x
  unfolding shift shift_up shift_down
  shift_link UpWithZero x = link_takes (bit (w - 1) x) _ (bit_lt (w - 1) x)
  shift_link UpWithOne x = link_takes (bit (w - 1) x) _ (bit_lt (w - 1) x)
  shift_link UpWithLink x = link_takes (bit (w - 1) x) _ (bit_lt (w - 1) x)
  shift_link DownWithZero x = link_takes_lowest x _
  shift_link DownWithOne x = link_takes_lowest x _
  shift_link DownWithLink x = link_takes_lowest x _
  shift_link DownWithC x = link_takes_lowest x _
  shift_link DownWithNXorOvr x = link_takes_lowest x _

  pub link_after_shift : (kind : ShiftKind) (source : ℕ)
      → stored_link (outcome_of w (Shift kind source) status).status ≡ leaving kind w (low w source)
  unfolding outcome_of
  link_after_shift kind source = shift_link kind (low w source)

  pub link_after_forward : (register acc : ℕ)
      → stored_link (outcome_of w (CrcForward register acc) status).status ≡ bit (w - 1) (low w register)
  unfolding outcome_of crc_forward crc_step
  link_after_forward register acc = link_takes (bit (w - 1) (low w register)) _ (bit_lt (w - 1) (low w register))

  pub link_after_reverse : (register acc : ℕ)
      → stored_link (outcome_of w (CrcReverse register acc) status).status ≡ bit 0 (low w register)
  unfolding outcome_of crc_reverse crc_step
  link_after_reverse register acc = link_takes_lowest (low w register) _
