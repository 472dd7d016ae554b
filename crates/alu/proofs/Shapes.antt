-- Four shapes are all that an outcome can have, and an operation's kind tells which: the one walk over all operations from which
-- bounds and what changes in the status follow.
use Prim.Native.Nat.{ℕ, zero, suc, ◌+◌, ◌-◌, ◌*◌, ◌/◌, ◌%◌, ◌^◌, ◌≤◌, ◌<◌, zero-le, suc-le-suc}
use native.Mathlib.Nat.{mod-lt, le_refl, pow-suc}
use native.Mathlib.Omega.{arith}
use lib.Dec.{eqb-suc-zero}
use lib.Pow.{pow_pos, pow-lt}
use lib.Bits.{bit_and, bit_or, bit_xor, and_lt, or_lt, xor_lt}
use lib.Count.{leading_top}
use Rattle.alu.specs.declared.Outcome.{Outcome}
use Rattle.alu.specs.declared.TwoOperandKind.{TwoOperandKind}
use Rattle.alu.specs.declared.TwoOperandKind.TheVariants.{SMinusR, SMinusRWithCarry, RMinusS, RMinusSWithCarry, RPlusS, RPlusSWithCarry, And, Nand, Xor, Nor, Or, Xnor}
use Rattle.alu.specs.declared.OneOperandKind.{OneOperandKind}
use Rattle.alu.specs.declared.OneOperandKind.TheVariants.{Move, Complement, Increment, Negate}
use Rattle.alu.specs.declared.BitKind.{BitKind}
use Rattle.alu.specs.declared.BitKind.TheVariants.{SetBit, ResetBit, TestBit, LoadBit, LoadBitComplement, AddBit, SubtractBit}
use Rattle.alu.specs.declared.ShiftKind.{ShiftKind}
use Rattle.alu.specs.declared.ShiftKind.TheVariants.{UpWithZero, UpWithOne, UpWithLink, DownWithZero, DownWithOne, DownWithLink, DownWithC, DownWithNXorOvr}
use Rattle.alu.specs.declared.Operation.{Operation}
use Rattle.alu.specs.declared.Operation.TheVariants.{TwoOperand, OneOperand, Bit, Shift, Rotate, Merge, Compare, Prioritize, CrcForward, CrcReverse}
use Rattle.alu.specs.Width.{bit, low, complement}
use Rattle.alu.specs.Flags.{stored_c, stored_n, stored_ovr, stored_link, with_sign, plain, linked}
use Rattle.alu.specs.Operations.{plus, minus, xnor_sign, two_operand, one_operand, power, bit_operation, gated, moved_up, moved_down, shift_up, shift_down, shift, rotated, rotate, merge, compare, priority, prioritize, crc_step, crc_forward, crc_reverse, outcome_of}
use Rattle.alu.specs.Kinds.{Kind, two_operand_kind, one_operand_kind, bit_kind, kind_of, Sum, Plain, Unsigned, Moved}
use Rattle.alu.proofs.Fits.{low_lt, complement_lt}

pub data Shape (w status : ℕ) : Kind → Outcome → Type 0 where
  summed : (a b k : ℕ) → Shape w status Sum (plus w a b k status)
  bare : (y : ℕ) → y < 2 ^ w → Shape w status Plain (plain w y status)
  unsigned : (y : ℕ) → y < 2 ^ w → Shape w status Unsigned (with_sign w (xnor_sign w y) y status)
  moved : (out y : ℕ) → y < 2 ^ w → Shape w status Moved (linked out (plain w y status))

-- Every operation has the shape of its kind.

below_power : (w : ℕ) → w < 2 ^ w
below_power zero = suc-le-suc zero-le
below_power (suc w) = let h : w < 2 ^ w = below_power w in omega (arith, pow-suc 2 w)

priority_lt : (w x : ℕ) → x < 2 ^ w → priority w x < 2 ^ w
unfolding priority
priority_lt w zero l = pow_pos w
priority_lt w (suc x) l =
    let t = leading_top w (suc x) (suc-le-suc zero-le) l in
    rw (eqb-suc-zero x) (omega (arith, below_power w, t.1))

gated_le : (f x : ℕ) → gated f x ≤ x
gated_le zero x = zero-le
gated_le (suc f) x = rw (eqb-suc-zero f) (le_refl x)

pub gated_lt : (w f x : ℕ) → x < 2 ^ w → gated f x < 2 ^ w
gated_lt w f x h = omega (arith, gated_le f x)

pub moved_up_lt : (w a coming : ℕ) → moved_up w a coming < 2 ^ w
unfolding moved_up
moved_up_lt w a coming = low_lt w (a * 2 + coming)

moved_down_lt : (w a coming : ℕ) → a < 2 ^ w → moved_down w a coming < 2 ^ w
unfolding moved_down
moved_down_lt w a coming h = omega (arith, gated_le coming (2 ^ w))

rotated_lt : (w n a : ℕ) → rotated w n a < 2 ^ w
unfolding rotated
rotated_lt w n a = low_lt w (a * 2 ^ (n % w) + a / 2 ^ (w - n % w))

module _ (w : ℕ) (wide : 0 < w) where
  power_lt : (n : ℕ) → power w n < 2 ^ w
  power_lt n = pow-lt (mod-lt n wide)

  two_operand_shape : (kind : TwoOperandKind) (r s status : ℕ) → r < 2 ^ w → s < 2 ^ w
      → Shape w status (two_operand_kind kind) (two_operand w kind r s status)
  unfolding two_operand minus
  two_operand_shape SMinusR r s status h l = summed s (complement w r) 1
  two_operand_shape SMinusRWithCarry r s status h l = summed s (complement w r) (stored_c status)
  two_operand_shape RMinusS r s status h l = summed r (complement w s) 1
  two_operand_shape RMinusSWithCarry r s status h l = summed r (complement w s) (stored_c status)
  two_operand_shape RPlusS r s status h l = summed r s 0
  two_operand_shape RPlusSWithCarry r s status h l = summed r s (stored_c status)
  two_operand_shape And r s status h l = bare (bit_and r s) (and_lt w r s h l)
  two_operand_shape Nand r s status h l = bare (complement w (bit_and r s)) (complement_lt w (bit_and r s))
  two_operand_shape Xor r s status h l = bare (bit_xor r s) (xor_lt w r s h l)
  two_operand_shape Nor r s status h l = bare (complement w (bit_or r s)) (complement_lt w (bit_or r s))
  two_operand_shape Or r s status h l = bare (bit_or r s) (or_lt w r s h l)
  two_operand_shape Xnor r s status h l = unsigned (complement w (bit_xor r s)) (complement_lt w (bit_xor r s))

  one_operand_shape : (kind : OneOperandKind) (a status : ℕ) → a < 2 ^ w → Shape w status (one_operand_kind kind) (one_operand w kind a status)
  unfolding one_operand minus
  one_operand_shape Move a status h = bare a h
  one_operand_shape Complement a status h = bare (complement w a) (complement_lt w a)
  one_operand_shape Increment a status h = summed a 0 1
  one_operand_shape Negate a status h = summed 0 (complement w a) 1

  bit_shape : (kind : BitKind) (n a status : ℕ) → a < 2 ^ w → Shape w status (bit_kind kind) (bit_operation w kind n a status)
  unfolding bit_operation minus
  bit_shape SetBit n a status h = bare (bit_or a (power w n)) (or_lt w a (power w n) h (power_lt n))
  bit_shape ResetBit n a status h = bare (bit_and a (complement w (power w n))) (and_lt w a (complement w (power w n)) h (complement_lt w (power w n)))
  bit_shape TestBit n a status h = bare (bit_and a (power w n)) (and_lt w a (power w n) h (power_lt n))
  bit_shape LoadBit n a status h = bare (power w n) (power_lt n)
  bit_shape LoadBitComplement n a status h = bare (complement w (power w n)) (complement_lt w (power w n))
  bit_shape AddBit n a status h = summed a (power w n) 0
  bit_shape SubtractBit n a status h = summed a (complement w (power w n)) 1

  up_shape : (a coming status : ℕ) → Shape w status Moved (shift_up w a coming status)
  unfolding shift_up
  up_shape a coming status = moved (bit (w - 1) a) (moved_up w a coming) (moved_up_lt w a coming)

  down_shape : (a coming status : ℕ) → a < 2 ^ w → Shape w status Moved (shift_down w a coming status)
  unfolding shift_down
  down_shape a coming status h = moved (a % 2) (moved_down w a coming) (moved_down_lt w a coming h)

  shift_shape : (kind : ShiftKind) (a status : ℕ) → a < 2 ^ w → Shape w status Moved (shift w kind a status)
  unfolding shift
  shift_shape UpWithZero a status h = up_shape a 0 status
  shift_shape UpWithOne a status h = up_shape a 1 status
  shift_shape UpWithLink a status h = up_shape a (stored_link status) status
  shift_shape DownWithZero a status h = down_shape a 0 status h
  shift_shape DownWithOne a status h = down_shape a 1 status h
  shift_shape DownWithLink a status h = down_shape a (stored_link status) status h
  shift_shape DownWithC a status h = down_shape a (stored_c status) status h
  shift_shape DownWithNXorOvr a status h = down_shape a (bit_xor (stored_n status) (stored_ovr status)) status h

  step_shape : (y out acc status : ℕ) → y < 2 ^ w → acc < 2 ^ w → Shape w status Moved (crc_step w y out acc status)
  unfolding crc_step
  step_shape y out acc status h l =
      let f = bit_xor (stored_link status) out in
      moved out (bit_xor y (gated f acc)) (xor_lt w y (gated f acc) h (gated_lt w f acc l))

  pub shape : (operation : Operation) (status : ℕ) → Shape w status (kind_of operation) (outcome_of w operation status)
  unfolding outcome_of rotate merge compare prioritize crc_forward crc_reverse
  shape (TwoOperand kind r s) status = two_operand_shape kind (low w r) (low w s) status (low_lt w r) (low_lt w s)
  shape (OneOperand kind source) status = one_operand_shape kind (low w source) status (low_lt w source)
  shape (Bit kind n source) status = bit_shape kind n (low w source) status (low_lt w source)
  shape (Shift kind source) status = shift_shape kind (low w source) status (low_lt w source)
  shape (Rotate n source) status = bare (rotated w n (low w source)) (rotated_lt w n (low w source))
  shape (Merge n u r mask) status =
      bare _ (or_lt w _ _ (and_lt w _ _ (rotated_lt w n (low w u)) (low_lt w mask)) (and_lt w _ _ (low_lt w r) (complement_lt w (low w mask))))
  shape (Compare n u r mask) status =
      bare _ (and_lt w _ _ (xor_lt w _ _ (low_lt w r) (rotated_lt w n (low w u))) (complement_lt w (low w mask)))
  shape (Prioritize source mask) status =
      bare _ (priority_lt w _ (and_lt w _ _ (low_lt w source) (complement_lt w (low w mask))))
  shape (CrcForward register acc) status =
      step_shape (moved_up w (low w register) 0) (bit (w - 1) (low w register)) (low w acc) status
      (moved_up_lt w (low w register) 0) (low_lt w acc)
  shape (CrcReverse register acc) status =
      step_shape (moved_down w (low w register) 0) (low w register % 2) (low w acc) status
      (moved_down_lt w (low w register) 0 (low_lt w register)) (low_lt w acc)
