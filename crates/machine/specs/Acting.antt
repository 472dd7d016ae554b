-- What an instruction does with what it sees (document 01, what the instructions do).
use Rattle.std.specs.Prelude.{ℕ, ◌+◌, ◌-◌, ◌*◌, ◌/◌, ◌%◌}
use Rattle.std.specs.Int.Bits.{bit_and, bit_or}
use Rattle.alu.specs.declared.Mode.{Mode}
use Rattle.alu.specs.declared.Mode.TheVariants.{Byte, Word}
use Rattle.alu.specs.declared.Outcome.{Outcome}
use Rattle.alu.specs.declared.Operation.TheVariants.{TwoOperand as TwoOperandOn, OneOperand as OneOperandOn, Bit as BitOn, Shift as ShiftOn, Rotate as RotateOn, Merge as MergeOn, Compare as CompareOn, Prioritize as PrioritizeOn, CrcForward as CrcForwardOn, CrcReverse as CrcReverseOn}
use Rattle.alu.specs.Width.{width_of}
use Rattle.alu.specs.Operations.{outcome_of}
use Rattle.plan.specs.declared.Task.{Task}
use Rattle.plan.specs.declared.Task.TheVariants.{NoOperation, TwoOperand, OneOperand, Bit, Shift, Rotate, Merge, Compare, Prioritize, CrcForward, CrcReverse, SaveStatus, SetStatus, ResetStatus, TestStatus}
use Rattle.plan.specs.declared.Shown.{Shown}
use Rattle.plan.specs.declared.Shown.TheVariants.{AtWidth, Whole, Nothing}
use Rattle.plan.specs.declared.Destination.{Destination}
use Rattle.plan.specs.declared.Destination.TheVariants.{ToY, ToAcc, ToRam, ToStatus, ToAccAndStatus}
use Rattle.plan.specs.declared.Plan.{Plan}
use Rattle.machine.specs.declared.View.{View}
use Rattle.machine.specs.declared.Effect.{Effect}
use Rattle.machine.specs.Seeing.{operand_of}

-- all ones at the width
abbrev pub width_mask : Mode → ℕ
width_mask Byte = 0x00FF
width_mask Word = 0xFFFF

-- a result, and a status, as they are
abbrev pub outcome : ℕ → ℕ → Outcome
outcome result status = record { result = result; status = status }

-- the result and the status that it would leave. Save status gives the status; set and reset status give all ones and zeros and
-- change the named bits; Test and NOOP change nothing (document 01, what the instructions do)
unfoldable pub outcome_for : Task → Mode → ℕ → ℕ → ℕ → ℕ → ℕ → Outcome
outcome_for NoOperation mode n first second mask status = outcome 0 status
outcome_for (TwoOperand kind) mode n first second mask status = outcome_of (width_of mode) (TwoOperandOn kind first second) status
outcome_for (OneOperand kind) mode n first second mask status = outcome_of (width_of mode) (OneOperandOn kind first) status
outcome_for (Bit kind) mode n first second mask status = outcome_of (width_of mode) (BitOn kind n first) status
outcome_for (Shift kind) mode n first second mask status = outcome_of (width_of mode) (ShiftOn kind first) status
outcome_for Rotate mode n first second mask status = outcome_of (width_of mode) (RotateOn n first) status
outcome_for Merge mode n first second mask status = outcome_of (width_of mode) (MergeOn n first second mask) status
outcome_for Compare mode n first second mask status = outcome_of (width_of mode) (CompareOn n first second mask) status
outcome_for Prioritize mode n first second mask status = outcome_of (width_of mode) (PrioritizeOn first mask) status
outcome_for CrcForward mode n first second mask status = outcome_of (width_of mode) (CrcForwardOn first second) status
outcome_for CrcReverse mode n first second mask status = outcome_of (width_of mode) (CrcReverseOn first second) status
outcome_for SaveStatus mode n first second mask status = outcome status status
outcome_for (SetStatus bits) mode n first second mask status = outcome (width_mask mode) (bit_or status bits)
outcome_for (ResetStatus bits) mode n first second mask status = outcome 0 (bit_and status (255 - bits))
outcome_for TestStatus mode n first second mask status = outcome 0 status

-- what the bus shows of a result, which is below the width: set status shows all ones in byte mode too
abbrev pub bus_of : Task → ℕ → ℕ
bus_of NoOperation y = y
bus_of (TwoOperand kind) y = y
bus_of (OneOperand kind) y = y
bus_of (Bit kind) y = y
bus_of (Shift kind) y = y
bus_of Rotate y = y
bus_of Merge y = y
bus_of Compare y = y
bus_of Prioritize y = y
bus_of CrcForward y = y
bus_of CrcReverse y = y
bus_of SaveStatus y = y
bus_of (SetStatus bits) y = 0xFFFF
bus_of (ResetStatus bits) y = y
bus_of TestStatus y = y

-- the known bits of Y (document 01, the report)
abbrev pub mask_of : Shown → Mode → ℕ
mask_of AtWidth mode = width_mask mode
mask_of Whole mode = 0xFFFF
mask_of Nothing mode = 0

-- status as a destination takes bits 0 to 3 of Y in byte mode, 0 to 7 in word mode, in place of flags
abbrev pub taken_status : Mode → ℕ → ℕ → ℕ
taken_status Byte y old = old / 16 * 16 + y % 16
taken_status Word y old = y % 256

abbrev pub status_for : Destination → Mode → Outcome → ℕ → ℕ
status_for ToY mode o old = o.status
status_for ToAcc mode o old = o.status
status_for ToRam mode o old = o.status
status_for ToStatus mode o old = taken_status mode o.result old
status_for ToAccAndStatus mode o old = taken_status mode o.result old

-- the plan's operation on its operands
abbrev pub performed_of : Plan → View → Outcome
performed_of p v =
    outcome_for p.work.task p.mode p.n
    (operand_of p.work.operands.first v) (operand_of p.work.operands.second v) (operand_of p.work.operands.mask v) v.status

abbrev pub effect_by : Plan → Outcome → ℕ → Effect
effect_by p o old = record {
  result = o.result;
  shown = bus_of p.work.task o.result;
  mask = mask_of p.work.shown p.mode;
  status = status_for p.work.destination p.mode o old;
  destination = p.work.destination;
}

unfoldable pub effect_of : Plan → View → Effect
effect_of p v = effect_by p (performed_of p v) v.status
