-- What each operation does at a width w (document 01, "What the instructions do"). Operands here are below 2 ^ w:
-- `outcome_of`, at the end, is every operation on any words, of which it takes the low parts.
use Rattle.std.specs.Prelude.{ℕ, ◌+◌, ◌-◌, ◌*◌, ◌/◌, ◌%◌, ◌^◌, eqb}
use Rattle.std.specs.Int.Bits.{bit_and, bit_or, bit_xor}
use Rattle.std.specs.Int.Count.{count_leading_zeros}
use Rattle.choice.specs.Pick.{pick}
use Rattle.alu.specs.declared.Outcome.{Outcome}
use Rattle.alu.specs.declared.TwoOperandKind.{TwoOperandKind}
use Rattle.alu.specs.declared.TwoOperandKind.TheVariants.{SMinusR, SMinusRWithCarry, RMinusS, RMinusSWithCarry, RPlusS, RPlusSWithCarry, And, Nand, Xor, Nor, Or, Xnor}
use Rattle.alu.specs.declared.OneOperandKind.{OneOperandKind}
use Rattle.alu.specs.declared.OneOperandKind.TheVariants.{Move, Complement, Increment, Negate}
use Rattle.alu.specs.declared.BitKind.{BitKind}
use Rattle.alu.specs.declared.BitKind.TheVariants.{SetBit, ResetBit, TestBit, LoadBit, LoadBitComplement, AddBit, SubtractBit}
use Rattle.alu.specs.declared.ShiftKind.{ShiftKind}
use Rattle.alu.specs.declared.ShiftKind.TheVariants.{UpWithZero, UpWithOne, UpWithLink, DownWithZero, DownWithOne, DownWithLink, DownWithC, DownWithNXorOvr}
use Rattle.alu.specs.declared.Operation.{Operation}
use Rattle.alu.specs.declared.Operation.TheVariants.{TwoOperand, OneOperand, Bit, Shift, Rotate, Merge, Compare, Prioritize, CrcForward, CrcReverse}
use Rattle.alu.specs.Width.{bit, low, complement}
use Rattle.alu.specs.Flags.{stored_c, stored_n, stored_ovr, stored_link, zero_flag, sign_flag, flagged, with_sign, plain, linked}

-- the carry into place i of a + b + k, from the parts below i. Into place w it is the carry out of the width
abbrev pub carry_into : ℕ → ℕ → ℕ → ℕ → ℕ
carry_into i a b k = bit i (low i a + low i b + k)

-- a + b and a carry in: C the carry out, OVR the xor of the last two carries (document 01, operations 0 to 11)
unfoldable pub plus : ℕ → ℕ → ℕ → ℕ → ℕ → Outcome
plus w a b k status = record {
  result = low w (a + b + k);
  status = flagged (zero_flag w (a + b + k)) (carry_into w a b k) (sign_flag w (a + b + k))
      (bit_xor (carry_into w a b k) (carry_into (w - 1) a b k)) status;
}

-- a - b: the complement of b is added, and a carry in, which is 1 or the stored C (document 01, operations 0 to 11)
unfoldable pub minus : ℕ → ℕ → ℕ → ℕ → ℕ → Outcome
minus w a b k status = plus w a (complement w b) k status

-- N after XNOR is 0, as the status table prints (document 01, operations 0 to 11)
unfoldable pub xnor_sign : ℕ → ℕ → ℕ
xnor_sign w result = 0

-- document 01, operations 0 to 11
unfoldable pub two_operand : ℕ → TwoOperandKind → ℕ → ℕ → ℕ → Outcome
two_operand w SMinusR r s status = minus w s r 1 status
two_operand w SMinusRWithCarry r s status = minus w s r (stored_c status) status
two_operand w RMinusS r s status = minus w r s 1 status
two_operand w RMinusSWithCarry r s status = minus w r s (stored_c status) status
two_operand w RPlusS r s status = plus w r s 0 status
two_operand w RPlusSWithCarry r s status = plus w r s (stored_c status) status
two_operand w And r s status = plain w (bit_and r s) status
two_operand w Nand r s status = plain w (complement w (bit_and r s)) status
two_operand w Xor r s status = plain w (bit_xor r s) status
two_operand w Nor r s status = plain w (complement w (bit_or r s)) status
two_operand w Or r s status = plain w (bit_or r s) status
two_operand w Xnor r s status = with_sign w (xnor_sign w (complement w (bit_xor r s))) (complement w (bit_xor r s)) status

-- MOVE, COMP, INC, NEG (document 01, SOR); INC and NEG carry like the sums
unfoldable pub one_operand : ℕ → OneOperandKind → ℕ → ℕ → Outcome
one_operand w Move source status = plain w source status
one_operand w Complement source status = plain w (complement w source) status
one_operand w Increment source status = plus w source 0 1 status
one_operand w Negate source status = minus w 0 source 1 status

-- 2^n, the bit n alone; n counts modulo the width
abbrev pub power : ℕ → ℕ → ℕ
power w n = 2 ^ (n % w)

-- set, reset and test bit n, load 2^n or its complement, add and subtract 2^n (document 01, BOR2, BOR1 and BONR)
unfoldable pub bit_operation : ℕ → BitKind → ℕ → ℕ → ℕ → Outcome
bit_operation w SetBit n source status = plain w (bit_or source (power w n)) status
bit_operation w ResetBit n source status = plain w (bit_and source (complement w (power w n))) status
bit_operation w TestBit n source status = plain w (bit_and source (power w n)) status
bit_operation w LoadBit n source status = plain w (power w n) status
bit_operation w LoadBitComplement n source status = plain w (complement w (power w n)) status
bit_operation w AddBit n source status = plus w source (power w n) 0 status
bit_operation w SubtractBit n source status = minus w source (power w n) 1 status

-- x where the bit f is 1, else 0
abbrev pub gated : ℕ → ℕ → ℕ
gated f x = pick (eqb f 0) 0 x

-- one place up or down, a bit coming in at the free end (document 01, shifts)
unfoldable pub moved_up : ℕ → ℕ → ℕ → ℕ
moved_up w source coming = low w (source * 2 + coming)

unfoldable pub moved_down : ℕ → ℕ → ℕ → ℕ
moved_down w source coming = (gated coming (2 ^ w) + source) / 2

-- a shift: LINK takes the bit that leaves, top or bottom (document 01, shifts)
unfoldable pub shift_up : ℕ → ℕ → ℕ → ℕ → Outcome
shift_up w source coming status = linked (bit (w - 1) source) (plain w (moved_up w source coming) status)

unfoldable pub shift_down : ℕ → ℕ → ℕ → ℕ → Outcome
shift_down w source coming status = linked (source % 2) (plain w (moved_down w source coming) status)

-- what comes in is 0, 1 or an old value of the status (document 01, shifts)
unfoldable pub shift : ℕ → ShiftKind → ℕ → ℕ → Outcome
shift w UpWithZero source status = shift_up w source 0 status
shift w UpWithOne source status = shift_up w source 1 status
shift w UpWithLink source status = shift_up w source (stored_link status) status
shift w DownWithZero source status = shift_down w source 0 status
shift w DownWithOne source status = shift_down w source 1 status
shift w DownWithLink source status = shift_down w source (stored_link status) status
shift w DownWithC source status = shift_down w source (stored_c status) status
shift w DownWithNXorOvr source status = shift_down w source (bit_xor (stored_n status) (stored_ovr status)) status

-- n places up, modulo the width: what leaves at the top comes in below (document 01, rotates)
unfoldable pub rotated : ℕ → ℕ → ℕ → ℕ
rotated w n source = low w (source * 2 ^ (n % w) + source / 2 ^ (w - n % w))

unfoldable pub rotate : ℕ → ℕ → ℕ → ℕ → Outcome
rotate w n source status = plain w (rotated w n source) status

-- rotated U where the mask is 1, else R (document 01, merge)
unfoldable pub merge : ℕ → ℕ → ℕ → ℕ → ℕ → ℕ → Outcome
merge w n u r mask status = plain w (bit_or (bit_and (rotated w n u) mask) (bit_and r (complement w mask))) status

-- where R and rotated U differ and the mask is 0 (document 01, compare)
unfoldable pub compare : ℕ → ℕ → ℕ → ℕ → ℕ → ℕ → Outcome
compare w n u r mask status = plain w (bit_and (bit_xor r (rotated w n u)) (complement w mask)) status

-- 0 if no bit is set; else the place of the highest one, 1 for the top of the width and counting down (document 01, prioritize)
unfoldable pub priority : ℕ → ℕ → ℕ
priority w x = pick (eqb x 0) 0 (count_leading_zeros w x + 1)

unfoldable pub prioritize : ℕ → ℕ → ℕ → ℕ → Outcome
prioritize w source mask status = plain w (priority w (bit_and source (complement w mask))) status

-- a step of a check, on the register already moved: ACC is put over it where LINK and the bit that left differ; LINK takes that bit
-- (document 01, CRCF)
unfoldable pub crc_step : ℕ → ℕ → ℕ → ℕ → ℕ → Outcome
crc_step w moved out acc status = linked out (plain w (bit_xor moved (gated (bit_xor (stored_link status) out) acc)) status)

-- CRCF moves up, with 0 coming in, and CRCR mirrors it (document 01, CRCF); the list has both in word mode only, where w is 16
unfoldable pub crc_forward : ℕ → ℕ → ℕ → ℕ → Outcome
crc_forward w register acc status = crc_step w (moved_up w register 0) (bit (w - 1) register) acc status

unfoldable pub crc_reverse : ℕ → ℕ → ℕ → ℕ → Outcome
crc_reverse w register acc status = crc_step w (moved_down w register 0) (register % 2) acc status

-- every operation with its operands, any words: the result, and the whole status after it. Only low parts are seen
unfoldable pub outcome_of : ℕ → Operation → ℕ → Outcome
outcome_of w (TwoOperand kind r s) status = two_operand w kind (low w r) (low w s) status
outcome_of w (OneOperand kind source) status = one_operand w kind (low w source) status
outcome_of w (Bit kind n source) status = bit_operation w kind n (low w source) status
outcome_of w (Shift kind source) status = shift w kind (low w source) status
outcome_of w (Rotate n source) status = rotate w n (low w source) status
outcome_of w (Merge n u r mask) status = merge w n (low w u) (low w r) (low w mask) status
outcome_of w (Compare n u r mask) status = compare w n (low w u) (low w r) (low w mask) status
outcome_of w (Prioritize source mask) status = prioritize w (low w source) (low w mask) status
outcome_of w (CrcForward register acc) status = crc_forward w (low w register) (low w acc) status
outcome_of w (CrcReverse register acc) status = crc_reverse w (low w register) (low w acc) status
