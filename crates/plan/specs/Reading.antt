-- What is read off a plan: whether the instruction has an I operand (document 01, the machine and one cycle) and, for the laws that hold
-- plans to the list, whether it writes RAM, is a bit operation, prioritizes ACC under ACC, and takes a merge's R or a bit operation's source from RAM, ACC
-- or D.
use Rattle.std.specs.Prelude.{Bool, true, false}
use Rattle.choice.specs.Pick.{pick}
use Rattle.plan.specs.declared.Source.{Source}
use Rattle.plan.specs.declared.Source.TheVariants.{Zero, Ram, Acc, Latch, Immediate, LatchZeroExtended, LatchSignExtended}
use Rattle.plan.specs.declared.Destination.{Destination}
use Rattle.plan.specs.declared.Destination.TheVariants.{ToY, ToAcc, ToRam, ToStatus, ToAccAndStatus}
use Rattle.plan.specs.declared.Task.{Task}
use Rattle.plan.specs.declared.Task.TheVariants.{NoOperation, TwoOperand, OneOperand, Bit, Shift, Rotate, Merge, Compare, Prioritize, CrcForward, CrcReverse, SaveStatus, SetStatus, ResetStatus, TestStatus}
use Rattle.plan.specs.declared.Work.{Work}

abbrev pub is_immediate : Source → Bool
is_immediate Zero = false
is_immediate Ram = false
is_immediate Acc = false
is_immediate Latch = false
is_immediate Immediate = true
is_immediate LatchZeroExtended = false
is_immediate LatchSignExtended = false

-- some place of the operands is I
abbrev pub names_i : Work → Bool
names_i w =
    pick (is_immediate w.operands.first) true (pick (is_immediate w.operands.second) true (is_immediate w.operands.mask))

abbrev pub is_ram : Destination → Bool
is_ram ToY = false
is_ram ToAcc = false
is_ram ToRam = true
is_ram ToStatus = false
is_ram ToAccAndStatus = false

abbrev pub writes_ram : Work → Bool
writes_ram w = is_ram w.destination

-- the bit operations (document 01, the instruction list: BOR1, BOR2 and BONR)
abbrev pub is_bit : Task → Bool
is_bit NoOperation = false
is_bit (TwoOperand k) = false
is_bit (OneOperand k) = false
is_bit (Bit k) = true
is_bit (Shift k) = false
is_bit Rotate = false
is_bit Merge = false
is_bit Compare = false
is_bit Prioritize = false
is_bit CrcForward = false
is_bit CrcReverse = false
is_bit SaveStatus = false
is_bit (SetStatus bits) = false
is_bit (ResetStatus bits) = false
is_bit TestStatus = false

abbrev pub is_prioritize : Task → Bool
is_prioritize NoOperation = false
is_prioritize (TwoOperand k) = false
is_prioritize (OneOperand k) = false
is_prioritize (Bit k) = false
is_prioritize (Shift k) = false
is_prioritize Rotate = false
is_prioritize Merge = false
is_prioritize Compare = false
is_prioritize Prioritize = true
is_prioritize CrcForward = false
is_prioritize CrcReverse = false
is_prioritize SaveStatus = false
is_prioritize (SetStatus bits) = false
is_prioritize (ResetStatus bits) = false
is_prioritize TestStatus = false

abbrev pub is_acc : Source → Bool
is_acc Zero = false
is_acc Ram = false
is_acc Acc = true
is_acc Latch = false
is_acc Immediate = false
is_acc LatchZeroExtended = false
is_acc LatchSignExtended = false

-- ACC is a prioritize's source and its mask at once
abbrev pub acc_under_acc : Work → Bool
acc_under_acc w = pick (is_prioritize w.task) (pick (is_acc w.operands.first) (is_acc w.operands.mask) false) false

-- the sources that a merge's R and a bit operation's source are taken from
abbrev pub is_ram_acc_or_latch : Source → Bool
is_ram_acc_or_latch Zero = false
is_ram_acc_or_latch Ram = true
is_ram_acc_or_latch Acc = true
is_ram_acc_or_latch Latch = true
is_ram_acc_or_latch Immediate = false
is_ram_acc_or_latch LatchZeroExtended = false
is_ram_acc_or_latch LatchSignExtended = false
