-- One cycle as the code goes about it: RAM in place, and the other registers as the core. What a cycle is, is said in Cycles. First come the
-- statements of `core_of`, `machine_from` and `step`; what follows `Steps` only serves the parts of a step.
use Rattle.std.specs.Prelude.{ℕ, ◌≡◌, Bool, true, false, List, [], ◌∷◌, None, Result, Ok, Err}
use Rattle.choice.specs.Pick.{pick}
use Rattle.choice.specs.Tells.{accepted, refused}
use Rattle.alu.specs.declared.Mode.{Mode}
use Rattle.alu.specs.declared.Operation.{Operation}
use Rattle.alu.specs.declared.Operation.TheVariants.{TwoOperand as TwoOperandOn, OneOperand as OneOperandOn, Bit as BitOn, Shift as ShiftOn, Rotate as RotateOn, Merge as MergeOn, Compare as CompareOn, Prioritize as PrioritizeOn, CrcForward as CrcForwardOn, CrcReverse as CrcReverseOn}
use Rattle.alu.specs.Width.{width_of, low, write_back}
use Rattle.refusals.specs.Numbers.{number_of}
use Rattle.isa.specs.declared.Named.{Named}
use Rattle.isa.specs.Words.{named_by}
use Rattle.plan.specs.declared.Chooser.TheVariants.{Pins}
use Rattle.plan.specs.declared.Destination.{Destination}
use Rattle.plan.specs.declared.Destination.TheVariants.{ToY, ToAcc, ToRam, ToStatus, ToAccAndStatus}
use Rattle.plan.specs.declared.Source.{Source}
use Rattle.plan.specs.declared.Source.TheVariants.{Zero, Ram, Acc, Latch, Immediate, LatchZeroExtended, LatchSignExtended}
use Rattle.plan.specs.declared.Task.{Task}
use Rattle.plan.specs.declared.Task.TheVariants.{NoOperation, TwoOperand, OneOperand, Bit, Shift, Rotate, Merge, Compare, Prioritize, CrcForward, CrcReverse, SaveStatus, SetStatus, ResetStatus, TestStatus}
use Rattle.machine.specs.declared.Waiting.{Waiting}
use Rattle.machine.specs.declared.Waiting.TheVariants.{Nothing, Held}
use Rattle.machine.specs.declared.Registers.{Registers}
use Rattle.machine.specs.declared.Core.{Core}
use Rattle.machine.specs.declared.Machine.{Machine}
use Rattle.machine.specs.declared.Words.{Words}
use Rattle.machine.specs.declared.Stepped.{Stepped}
use Rattle.machine.specs.declared.RefusedStep.{RefusedStep}
use Rattle.machine.specs.declared.Verdict.{Verdict}
use Rattle.machine.specs.declared.View.{View}
use Rattle.machine.specs.declared.Effect.{Effect}
use Rattle.machine.specs.Pins.{ien_high}
use Rattle.machine.specs.Judging.{word_about}
use Rattle.machine.specs.Seeing.{zero_extended, sign_extended}
use Rattle.machine.specs.Settling.{latched, with_waiting, ram_after, acc_after, status_after}
use Rattle.machine.specs.Reporting.{ct_of, t_of}
use Rattle.machine.specs.Cycles.{Turned, machine_of, performed_turn, cycle_of}

-- RAM and core together, and the core alone
abbrev pub registers_of : List ℕ → Core → Registers
registers_of ram core = record { ram = ram; acc = core.acc; latch = core.latch; status = core.status; waiting = core.waiting }

abbrev pub machine_from : List ℕ → Core → Machine
machine_from ram core = machine_of (registers_of ram core)

abbrev pub core_of : Registers → Core
core_of r = record { acc = r.acc; latch = r.latch; status = r.status; waiting = r.waiting }

-- what a step tells, with the RAM that it left: the core after it, and the answer
abbrev pub step_tells : List ℕ → Result Stepped RefusedStep → Turned
step_tells ram (Ok s) = record { machine = machine_from ram s.core; answer = accepted s.report }
step_tells ram (Err e) = record { machine = machine_from ram e.core; answer = refused (number_of e.refusal) }

-- the instruction that it names
abbrev pub named_in : Result Stepped RefusedStep → Named
named_in (Ok s) = s.named
named_in (Err e) = e.named

-- A step from RAM and core leaves RAM and answers: what it tells is the cycle, so where it is refused RAM and core are as they were. Besides, so
-- that every field is fixed: it names the instruction of the word which the cycle is about, also where it only begins it, and where it is refused.
pub record Steps (ram : List ℕ) (core : Core) (c : Words) (r : Result Stepped RefusedStep) (after : List ℕ) : Type 0 where
  pub turn : step_tells after r ≡ cycle_of (machine_from ram core) c
  pub named : named_in r ≡ named_by (word_about core.waiting c.lines)

-- D latched, and a word kept waiting
abbrev pub latched_core : Core → ℕ → ℕ → Core
latched_core core input pins = core_of (latched (registers_of [] core) input pins)

abbrev pub waiting_core : Core → Waiting → Core
waiting_core core w = core_of (with_waiting (registers_of [] core) w)

-- what an instruction sees, the word of its register at hand
abbrev pub seen_of : Mode → ℕ → Core → ℕ → View
seen_of mode word core immediate = record {
  ram = low (width_of mode) word;
  acc = low (width_of mode) core.acc;
  latch = low (width_of mode) core.latch;
  immediate = low (width_of mode) immediate;
  status = core.status;
}

-- all that an operand can be, and each source's place there
abbrev pub sources_of : View → List ℕ
sources_of v = 0 ∷ v.ram ∷ v.acc ∷ v.latch ∷ v.immediate ∷ zero_extended v.latch ∷ sign_extended v.latch ∷ []

abbrev pub place_of : Source → ℕ
place_of Zero = 0
place_of Ram = 1
place_of Acc = 2
place_of Latch = 3
place_of Immediate = 4
place_of LatchZeroExtended = 5
place_of LatchSignExtended = 6

-- the operation of a task on its operands. NOOP and the tasks of the status compute nothing, and are not asked for
abbrev pub operation_of : Task → ℕ → ℕ → ℕ → ℕ → Operation
operation_of NoOperation n first second mask = RotateOn n first
operation_of (TwoOperand kind) n first second mask = TwoOperandOn kind first second
operation_of (OneOperand kind) n first second mask = OneOperandOn kind first
operation_of (Bit kind) n first second mask = BitOn kind n first
operation_of (Shift kind) n first second mask = ShiftOn kind first
operation_of Rotate n first second mask = RotateOn n first
operation_of Merge n first second mask = MergeOn n first second mask
operation_of Compare n first second mask = CompareOn n first second mask
operation_of Prioritize n first second mask = PrioritizeOn first mask
operation_of CrcForward n first second mask = CrcForwardOn first second
operation_of CrcReverse n first second mask = CrcReverseOn first second
operation_of SaveStatus n first second mask = RotateOn n first
operation_of (SetStatus bits) n first second mask = RotateOn n first
operation_of (ResetStatus bits) n first second mask = RotateOn n first
operation_of TestStatus n first second mask = RotateOn n first

-- whether RAM, or ACC, is a destination
abbrev pub to_ram : Destination → Bool
to_ram ToY = false
to_ram ToAcc = false
to_ram ToRam = true
to_ram ToStatus = false
to_ram ToAccAndStatus = false

abbrev pub to_acc : Destination → Bool
to_acc ToY = false
to_acc ToAcc = true
to_acc ToRam = false
to_acc ToStatus = false
to_acc ToAccAndStatus = true

-- a word of RAM, or ACC, afterwards, by whether it is the destination
abbrev pub settled_word : Mode → Effect → Bool → ℕ → ℕ → ℕ
settled_word mode e written word pins = pick (ien_high pins) word (pick written (write_back (width_of mode) word e.result) word)

abbrev pub settled_ram : Mode → ℕ → List ℕ → Effect → ℕ → List ℕ
settled_ram mode register ram e pins = pick (ien_high pins) ram (ram_after e.destination mode register e.result ram)

abbrev pub settled_core : Mode → Core → Effect → ℕ → Core
settled_core mode core e pins = record {
  acc = pick (ien_high pins) core.acc (acc_after e.destination mode e.result core.acc);
  latch = core.latch;
  status = status_after core.status e.status pins;
  waiting = Nothing;
}

-- a first immediate cycle's step
abbrev pub waiting_step : Named → Core → Words → Stepped
waiting_step n core c = record {
  core = waiting_core core (Held c.lines);
  named = n;
  report = record { y = 0; mask = 0; ct = ct_of Pins core.status c.pins; t = t_of core.status c.pins; completed = None };
}

-- an instruction's step, with D latched already
pub record Performed (ram : List ℕ) (v : Verdict) (core : Core) (pins : ℕ) (s : Stepped) (after : List ℕ) : Type 0 where
  pub turn : step_tells after (Ok s) ≡ performed_turn v.named v.plan (registers_of ram core) v.immediate pins
  pub named : s.named ≡ v.named
