-- For laws: Y bit by bit, as the data sheet's Y columns have it, and an operation on the parts of its operands at the width.
use Rattle.std.specs.Prelude.{◌≡◌, Bool, ℕ, zero, suc, ◌+◌, ◌-◌, ◌%◌, eqb}
use Rattle.std.specs.Int.Bits.{bit_and, bit_or, bit_xor}
use Rattle.choice.specs.Pick.{pick}
use Rattle.alu.specs.declared.TwoOperandKind.{TwoOperandKind}
use Rattle.alu.specs.declared.TwoOperandKind.TheVariants.{SMinusR, SMinusRWithCarry, RMinusS, RMinusSWithCarry, RPlusS, RPlusSWithCarry, And, Nand, Xor, Nor, Or, Xnor}
use Rattle.alu.specs.declared.OneOperandKind.{OneOperandKind}
use Rattle.alu.specs.declared.OneOperandKind.TheVariants.{Move, Complement, Increment, Negate}
use Rattle.alu.specs.declared.BitKind.{BitKind}
use Rattle.alu.specs.declared.BitKind.TheVariants.{SetBit, ResetBit, TestBit, LoadBit, LoadBitComplement, AddBit, SubtractBit}
use Rattle.alu.specs.declared.ShiftKind.{ShiftKind}
use Rattle.alu.specs.declared.ShiftKind.TheVariants.{UpWithZero, UpWithOne, UpWithLink, DownWithZero, DownWithOne, DownWithLink, DownWithC, DownWithNXorOvr}
use Rattle.alu.specs.declared.Operation.{Operation}
use Rattle.alu.specs.declared.Operation.TheVariants.{TwoOperand, OneOperand, Bit, Shift, Rotate, Merge, Compare, Prioritize, CrcForward, CrcReverse}
use Rattle.alu.specs.Width.{bit, low}
use Rattle.alu.specs.Flags.{stored_c, stored_n, stored_ovr, stored_link}

-- one place up: the bit below, and at place 0 what comes in
abbrev pub from_below : ℕ → ℕ → ℕ → ℕ
from_below coming x zero = coming
from_below coming x (suc i) = bit i x

-- one place down: the bit above, and at the top what comes in
abbrev pub from_above : ℕ → ℕ → ℕ → ℕ → ℕ
from_above w coming x i = pick (eqb (1 + i) w) coming (bit (1 + i) x)

-- n places up: the bit n places below, modulo the width
abbrev pub turned : ℕ → ℕ → ℕ → ℕ → ℕ
turned w n x i = bit ((i + (w - n % w)) % w) x

abbrev pub TwoOperandColumn : TwoOperandKind → ℕ → ℕ → ℕ → Type 0
TwoOperandColumn SMinusR r s y = Unit
TwoOperandColumn SMinusRWithCarry r s y = Unit
TwoOperandColumn RMinusS r s y = Unit
TwoOperandColumn RMinusSWithCarry r s y = Unit
TwoOperandColumn RPlusS r s y = Unit
TwoOperandColumn RPlusSWithCarry r s y = Unit
TwoOperandColumn And r s y = y ≡ bit_and r s
TwoOperandColumn Nand r s y = y ≡ 1 - bit_and r s
TwoOperandColumn Xor r s y = y ≡ bit_xor r s
TwoOperandColumn Nor r s y = y ≡ 1 - bit_or r s
TwoOperandColumn Or r s y = y ≡ bit_or r s
TwoOperandColumn Xnor r s y = y ≡ 1 - bit_xor r s

abbrev pub OneOperandColumn : OneOperandKind → ℕ → ℕ → Type 0
OneOperandColumn Move x y = y ≡ x
OneOperandColumn Complement x y = y ≡ 1 - x
OneOperandColumn Increment x y = Unit
OneOperandColumn Negate x y = Unit

-- here is whether this is place n
abbrev pub BitColumn : BitKind → Bool → ℕ → ℕ → Type 0
BitColumn SetBit here x y = y ≡ pick here 1 x
BitColumn ResetBit here x y = y ≡ pick here 0 x
BitColumn TestBit here x y = y ≡ pick here x 0
BitColumn LoadBit here x y = y ≡ pick here 1 0
BitColumn LoadBitComplement here x y = y ≡ pick here 0 1
BitColumn AddBit here x y = Unit
BitColumn SubtractBit here x y = Unit

abbrev pub shift_column : ShiftKind → ℕ → ℕ → ℕ → ℕ → ℕ
shift_column UpWithZero w status x i = from_below 0 x i
shift_column UpWithOne w status x i = from_below 1 x i
shift_column UpWithLink w status x i = from_below (stored_link status) x i
shift_column DownWithZero w status x i = from_above w 0 x i
shift_column DownWithOne w status x i = from_above w 1 x i
shift_column DownWithLink w status x i = from_above w (stored_link status) x i
shift_column DownWithC w status x i = from_above w (stored_c status) x i
shift_column DownWithNXorOvr w status x i = from_above w (bit_xor (stored_n status) (stored_ovr status)) x i

-- y is bit i of Y; sums and prioritize have laws of their own
abbrev pub Column : ℕ → Operation → ℕ → ℕ → ℕ → Type 0
Column w (TwoOperand kind r s) status i y = TwoOperandColumn kind (bit i r) (bit i s) y
Column w (OneOperand kind source) status i y = OneOperandColumn kind (bit i source) y
Column w (Bit kind n source) status i y = BitColumn kind (eqb i (n % w)) (bit i source) y
Column w (Shift kind source) status i y = y ≡ shift_column kind w status source i
Column w (Rotate n source) status i y = y ≡ turned w n source i
Column w (Merge n u r mask) status i y = y ≡ pick (eqb (bit i mask) 1) (turned w n u i) (bit i r)
Column w (Compare n u r mask) status i y = y ≡ pick (eqb (bit i mask) 1) 0 (bit_xor (bit i r) (turned w n u i))
Column w (Prioritize source mask) status i y = Unit
Column w (CrcForward register acc) status i y =
    y ≡ bit_xor (from_below 0 register i) (bit_and (bit_xor (stored_link status) (bit (w - 1) register)) (bit i acc))
Column w (CrcReverse register acc) status i y =
    y ≡ bit_xor (from_above w 0 register i) (bit_and (bit_xor (stored_link status) (bit 0 register)) (bit i acc))

-- the bit that leaves a shift
abbrev pub leaving : ShiftKind → ℕ → ℕ → ℕ
leaving UpWithZero w x = bit (w - 1) x
leaving UpWithOne w x = bit (w - 1) x
leaving UpWithLink w x = bit (w - 1) x
leaving DownWithZero w x = bit 0 x
leaving DownWithOne w x = bit 0 x
leaving DownWithLink w x = bit 0 x
leaving DownWithC w x = bit 0 x
leaving DownWithNXorOvr w x = bit 0 x

-- the same operation on the operands' parts at the width
abbrev pub reduced : ℕ → Operation → Operation
reduced w (TwoOperand kind r s) = TwoOperand kind (low w r) (low w s)
reduced w (OneOperand kind source) = OneOperand kind (low w source)
reduced w (Bit kind n source) = Bit kind n (low w source)
reduced w (Shift kind source) = Shift kind (low w source)
reduced w (Rotate n source) = Rotate n (low w source)
reduced w (Merge n u r mask) = Merge n (low w u) (low w r) (low w mask)
reduced w (Compare n u r mask) = Compare n (low w u) (low w r) (low w mask)
reduced w (Prioritize source mask) = Prioritize (low w source) (low w mask)
reduced w (CrcForward register acc) = CrcForward (low w register) (low w acc)
reduced w (CrcReverse register acc) = CrcReverse (low w register) (low w acc)
