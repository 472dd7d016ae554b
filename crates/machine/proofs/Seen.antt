-- The operands as the code takes them, by their places in a list, and the operation of a task that computes.
use mathlib.Core.Path.{◌≡◌, refl}
use Prim.Native.Nat.{ℕ}
use lib.ListN.{get_or}
use Rattle.alu.specs.declared.Mode.{Mode}
use Rattle.alu.specs.Width.{width_of}
use Rattle.alu.specs.Operations.{outcome_of}
use Rattle.plan.specs.declared.Task.{Task}
use Rattle.plan.specs.declared.Task.TheVariants.{NoOperation, TwoOperand, OneOperand, Bit, Shift, Rotate, Merge, Compare, Prioritize, CrcForward, CrcReverse, SaveStatus, SetStatus, ResetStatus, TestStatus}
use Rattle.plan.specs.declared.Source.{Source}
use Rattle.plan.specs.declared.Source.TheVariants.{Zero, Ram, Acc, Latch, Immediate, LatchZeroExtended, LatchSignExtended}
use Rattle.machine.specs.declared.View.{View}
use Rattle.machine.specs.Seeing.{operand_of}
use Rattle.machine.specs.Acting.{outcome_for}
use Rattle.machine.specs.Stepping.{sources_of, place_of, operation_of}

pub source_at : (s : Source) (v : View) → get_or (sources_of v) (place_of s) 0 ≡ operand_of s v
source_at Zero v = refl
source_at Ram v = refl
source_at Acc v = refl
source_at Latch v = refl
source_at Immediate v = refl
source_at LatchZeroExtended v = refl
source_at LatchSignExtended v = refl

-- a task that is neither NOOP nor one of the status computes: the outcome is its operation's
pub computed : (task : Task) → (task ≡ NoOperation → ⊥) → (task ≡ SaveStatus → ⊥) → ((bits : ℕ) → task ≡ SetStatus bits → ⊥)
    → ((bits : ℕ) → task ≡ ResetStatus bits → ⊥) → (task ≡ TestStatus → ⊥) → (mode : Mode) (n x y mask status : ℕ)
    → outcome_of (width_of mode) (operation_of task n x y mask) status ≡ outcome_for task mode n x y mask status
unfolding outcome_for
computed NoOperation none save set reset test mode n x y mask status = absurd (none refl)
computed (TwoOperand kind) none save set reset test mode n x y mask status = refl
computed (OneOperand kind) none save set reset test mode n x y mask status = refl
computed (Bit kind) none save set reset test mode n x y mask status = refl
computed (Shift kind) none save set reset test mode n x y mask status = refl
computed Rotate none save set reset test mode n x y mask status = refl
computed Merge none save set reset test mode n x y mask status = refl
computed Compare none save set reset test mode n x y mask status = refl
computed Prioritize none save set reset test mode n x y mask status = refl
computed CrcForward none save set reset test mode n x y mask status = refl
computed CrcReverse none save set reset test mode n x y mask status = refl
computed SaveStatus none save set reset test mode n x y mask status = absurd (save refl)
computed (SetStatus bits) none save set reset test mode n x y mask status = absurd (set bits refl)
computed (ResetStatus bits) none save set reset test mode n x y mask status = absurd (reset bits refl)
computed TestStatus none save set reset test mode n x y mask status = absurd (test refl)
