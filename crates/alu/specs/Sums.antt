-- For laws: sums and differences in the terms of whole numbers, and which operations are such (document 01, what the instructions do).
use Rattle.std.specs.Prelude.{◌≡◌, ◌↔◌, ℕ, ◌+◌, ◌-◌, ◌*◌, ◌^◌, ◌≤◌, ◌<◌}
use Rattle.alu.specs.declared.Outcome.{Outcome}
use Rattle.alu.specs.declared.TwoOperandKind.{TwoOperandKind}
use Rattle.alu.specs.declared.TwoOperandKind.TheVariants.{SMinusR, SMinusRWithCarry, RMinusS, RMinusSWithCarry, RPlusS, RPlusSWithCarry, And, Nand, Xor, Nor, Or, Xnor}
use Rattle.alu.specs.declared.OneOperandKind.{OneOperandKind}
use Rattle.alu.specs.declared.OneOperandKind.TheVariants.{Move, Complement, Increment, Negate}
use Rattle.alu.specs.declared.BitKind.{BitKind}
use Rattle.alu.specs.declared.BitKind.TheVariants.{SetBit, ResetBit, TestBit, LoadBit, LoadBitComplement, AddBit, SubtractBit}
use Rattle.alu.specs.declared.Operation.{Operation}
use Rattle.alu.specs.declared.Operation.TheVariants.{TwoOperand, OneOperand, Bit, Shift, Rotate, Merge, Compare, Prioritize, CrcForward, CrcReverse}
use Rattle.alu.specs.Width.{bit, low, complement}
use Rattle.alu.specs.Flags.{stored_c, stored_ovr}
use Rattle.alu.specs.Operations.{power}

-- above - below, a whole number that may be negative, lies in the signed range of the width: from -2^(w-1) to 2^(w-1) - 1
abbrev pub InRange : ℕ → ℕ → ℕ → Type 0
InRange w above below = (below ≤ above + 2 ^ (w - 1)) × (above < below + 2 ^ (w - 1))

-- what a number counts below zero when it is read as signed: its value is x - negative w x
abbrev pub negative : ℕ → ℕ → ℕ
negative w x = bit (w - 1) x * 2 ^ w

-- a + b + k: the result and C are its value, and OVR says that the signed value is out of range
pub record Added (w a b k : ℕ) (o : Outcome) : Type 0 where
  pub total : o.result + 2 ^ w * stored_c o.status ≡ a + b + k
  pub in_range : (stored_ovr o.status ≡ 0) ↔ InRange w (a + b + k) (negative w a + negative w b)

-- a - b, less 1 where k is 0: C is 1 exactly when nothing is borrowed
pub record Taken (w a b k : ℕ) (o : Outcome) : Type 0 where
  pub by_complement : o.result + 2 ^ w * stored_c o.status ≡ a + complement w b + k
  pub total : o.result + 2 ^ w * stored_c o.status + b + 1 ≡ a + k + 2 ^ w
  pub unborrowed : (stored_c o.status ≡ 1) ↔ (b < a + k)
  pub in_range : (stored_ovr o.status ≡ 0) ↔ InRange w (a + k + negative w b) (b + 1 + negative w a)

-- what an operation adds, or takes from what; most do neither
pub data Terms : Type 0 where
  adds : (a b k : ℕ) → Terms
  takes : (a b k : ℕ) → Terms
  neither : Terms

abbrev pub two_operand_terms : TwoOperandKind → ℕ → ℕ → ℕ → Terms
two_operand_terms SMinusR r s stored = takes s r 1
two_operand_terms SMinusRWithCarry r s stored = takes s r stored
two_operand_terms RMinusS r s stored = takes r s 1
two_operand_terms RMinusSWithCarry r s stored = takes r s stored
two_operand_terms RPlusS r s stored = adds r s 0
two_operand_terms RPlusSWithCarry r s stored = adds r s stored
two_operand_terms And r s stored = neither
two_operand_terms Nand r s stored = neither
two_operand_terms Xor r s stored = neither
two_operand_terms Nor r s stored = neither
two_operand_terms Or r s stored = neither
two_operand_terms Xnor r s stored = neither

abbrev pub one_operand_terms : OneOperandKind → ℕ → Terms
one_operand_terms Move a = neither
one_operand_terms Complement a = neither
one_operand_terms Increment a = adds a 0 1
one_operand_terms Negate a = takes 0 a 1

abbrev pub bit_terms : BitKind → ℕ → ℕ → Terms
bit_terms SetBit a power = neither
bit_terms ResetBit a power = neither
bit_terms TestBit a power = neither
bit_terms LoadBit a power = neither
bit_terms LoadBitComplement a power = neither
bit_terms AddBit a power = adds a power 0
bit_terms SubtractBit a power = takes a power 1

abbrev pub terms_of : ℕ → Operation → ℕ → Terms
terms_of w (TwoOperand kind r s) status = two_operand_terms kind (low w r) (low w s) (stored_c status)
terms_of w (OneOperand kind source) status = one_operand_terms kind (low w source)
terms_of w (Bit kind n source) status = bit_terms kind (low w source) (power w n)
terms_of w (Shift kind source) status = neither
terms_of w (Rotate n source) status = neither
terms_of w (Merge n u r mask) status = neither
terms_of w (Compare n u r mask) status = neither
terms_of w (Prioritize source mask) status = neither
terms_of w (CrcForward register acc) status = neither
terms_of w (CrcReverse register acc) status = neither

abbrev pub Meets : ℕ → Terms → Outcome → Type 0
Meets w (adds a b k) o = Added w a b k o
Meets w (takes a b k) o = Taken w a b k o
Meets w neither o = Unit
