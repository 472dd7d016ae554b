-- For laws: the kind of each operation, by which the flags that it changes are told.
use Rattle.std.specs.Prelude.{Bool, true, false}
use Rattle.alu.specs.declared.TwoOperandKind.{TwoOperandKind}
use Rattle.alu.specs.declared.TwoOperandKind.TheVariants.{SMinusR, SMinusRWithCarry, RMinusS, RMinusSWithCarry, RPlusS, RPlusSWithCarry, And, Nand, Xor, Nor, Or, Xnor}
use Rattle.alu.specs.declared.OneOperandKind.{OneOperandKind}
use Rattle.alu.specs.declared.OneOperandKind.TheVariants.{Move, Complement, Increment, Negate}
use Rattle.alu.specs.declared.BitKind.{BitKind}
use Rattle.alu.specs.declared.BitKind.TheVariants.{SetBit, ResetBit, TestBit, LoadBit, LoadBitComplement, AddBit, SubtractBit}
use Rattle.alu.specs.declared.Operation.{Operation}
use Rattle.alu.specs.declared.Operation.TheVariants.{TwoOperand, OneOperand, Bit, Shift, Rotate, Merge, Compare, Prioritize, CrcForward, CrcReverse}

-- a sum has a carry; a plain result none; XNOR's result is plain but for its sign; a moved one has a bit for LINK
pub data Kind : Type 0 where
  Sum : Kind
  Plain : Kind
  Unsigned : Kind
  Moved : Kind

abbrev pub two_operand_kind : TwoOperandKind → Kind
two_operand_kind SMinusR = Sum
two_operand_kind SMinusRWithCarry = Sum
two_operand_kind RMinusS = Sum
two_operand_kind RMinusSWithCarry = Sum
two_operand_kind RPlusS = Sum
two_operand_kind RPlusSWithCarry = Sum
two_operand_kind And = Plain
two_operand_kind Nand = Plain
two_operand_kind Xor = Plain
two_operand_kind Nor = Plain
two_operand_kind Or = Plain
two_operand_kind Xnor = Unsigned

abbrev pub one_operand_kind : OneOperandKind → Kind
one_operand_kind Move = Plain
one_operand_kind Complement = Plain
one_operand_kind Increment = Sum
one_operand_kind Negate = Sum

abbrev pub bit_kind : BitKind → Kind
bit_kind SetBit = Plain
bit_kind ResetBit = Plain
bit_kind TestBit = Plain
bit_kind LoadBit = Plain
bit_kind LoadBitComplement = Plain
bit_kind AddBit = Sum
bit_kind SubtractBit = Sum

abbrev pub kind_of : Operation → Kind
kind_of (TwoOperand kind r s) = two_operand_kind kind
kind_of (OneOperand kind source) = one_operand_kind kind
kind_of (Bit kind n source) = bit_kind kind
kind_of (Shift kind source) = Moved
kind_of (Rotate n source) = Plain
kind_of (Merge n u r mask) = Plain
kind_of (Compare n u r mask) = Plain
kind_of (Prioritize source mask) = Plain
kind_of (CrcForward register acc) = Moved
kind_of (CrcReverse register acc) = Moved

-- whether LINK stays, C and OVR become 0, and N is the top bit of the result (document 01, what the instructions do)
abbrev pub keeps_link : Kind → Bool
keeps_link Sum = true
keeps_link Plain = true
keeps_link Unsigned = true
keeps_link Moved = false

abbrev pub clears_carry : Kind → Bool
clears_carry Sum = false
clears_carry Plain = true
clears_carry Unsigned = true
clears_carry Moved = true

abbrev pub shows_sign : Kind → Bool
shows_sign Sum = true
shows_sign Plain = true
shows_sign Unsigned = false
shows_sign Moved = true
