-- Two different runs that meet demand 3's premises: a byte subtract of immediate data, which would borrow from the upper byte. The one
-- subtracts 7140 from R1, which holds 1210; the other subtracts 1240 from 5610. The upper bytes of the bus inputs and of ACC differ too.
-- The laws, in this order: `premises_met`, `pair_ends`.
use mathlib.Core.Path.{◌≡◌, refl, subst⁻¹}
use mathlib.Core.List.{List, [], ◌∷◌}
use Prim.Native.Nat.{ℕ, zero, suc, ◌<◌}
use native.Mathlib.Omega.{arith}
use lib.ListN.{length, replicate, get_or}
use Rattle.alu.specs.Width.{complement, write_back}
use Rattle.alu.specs.Flags.{flagged, with_sign}
use Rattle.alu.specs.Operations.{plus, minus, two_operand, outcome_of}
use Rattle.isa.specs.Words.{decode_of, takes_immediate}
use Rattle.plan.specs.Plans.{work_of, plan_of}
use Rattle.machine.specs.declared.Waiting.{Waiting}
use Rattle.machine.specs.declared.Waiting.TheVariants.{Nothing, Held}
use Rattle.machine.specs.declared.Machine.{Machine}
use Rattle.machine.specs.Judging.{word_about, judgement_of, may_start}
use Rattle.machine.specs.Seeing.{view_of}
use Rattle.machine.specs.Acting.{outcome_for, effect_of}
use Rattle.machine.specs.Settling.{settled_of}
use Rattle.machine.specs.Reporting.{condition_of}
use Rattle.machine.specs.Cycles.{cycle_of}
use Rattle.run.specs.Splitting.{cycle_at}
use Rattle.run.specs.Courses.{Course, run_from, reports_of}
use Rattle.run.specs.declared.Ran.{Ran}
use Rattle.run.specs.Runs.{run_of, summary_of, Gives}
use Rattle.demands.specs.Isolation.{ByteMark, CyclesAlike, waiting_before, Reached, Premises, Isolated}
use Rattle.demands.proofs.Isolation.{byte_isolation}

-- R1 and ACC are given, the rest is 0
abbrev from : ℕ → ℕ → Machine
from r1 acc = record { registers = record { ram = 0 ∷ r1 ∷ replicate 30 0; acc = acc; latch = 0; status = 0; waiting = Nothing } }

abbrev here : Machine
here = from 0x1210 0xAB05

abbrev there : Machine
there = from 0x5610 0xCD05

-- RAM minus I into R1 in byte mode, D taken from the bus; then the immediate data
abbrev words : ℕ → ℕ → List ℕ
words input immediate = 0x1C41 ∷ input ∷ 0x000C ∷ immediate ∷ 0 ∷ 0 ∷ []

abbrev ours : Course
ours = run_of here (words 0x33AA 0x7140) 2 8

abbrev theirs : Course
theirs = run_of there (words 0x77AA 0x1240) 2 8

-- what the first run does, by computation
waits : waiting_before here ours 1 ≡ Held 0x1C41
unfolding complement write_back flagged with_sign plus minus two_operand outcome_of decode_of takes_immediate work_of plan_of judgement_of may_start view_of outcome_for effect_of settled_of condition_of cycle_of run_from run_of
waits = refl

both_accepted : length ours.steps ≡ 2
unfolding complement write_back flagged with_sign plus minus two_operand outcome_of decode_of takes_immediate work_of plan_of judgement_of may_start view_of outcome_for effect_of settled_of condition_of cycle_of run_from run_of
both_accepted = refl

pub premises_met : Premises here there (words 0x33AA 0x7140) (words 0x77AA 0x1240) 2 8
premises_met = record {
  number = refl;
  starts = record { ram = refl; acc = refl; latch = refl; status = refl; waiting = refl };
  cycles = alike;
  marks = marked;
}
  where
    alike : (i : ℕ) → Reached here (words 0x33AA 0x7140) 2 8 i → CyclesAlike (waiting_before here ours i) (cycle_at (words 0x33AA 0x7140) i) (cycle_at (words 0x77AA 0x1240) i)
    alike zero r = record { lines = refl; input = refl; pins = refl }
    alike (suc zero) r =
        subst⁻¹ (λ (w : Waiting). CyclesAlike w (cycle_at (words 0x33AA 0x7140) 1) (cycle_at (words 0x77AA 0x1240) 1)) waits
        (record { lines = refl; input = refl; pins = refl })
    alike (suc (suc i)) r = absurd (omega (arith, r.given))

    marked : (i : ℕ) → i < length ours.steps → ByteMark (word_about (waiting_before here ours i) (cycle_at (words 0x33AA 0x7140) i).lines)
    marked zero h = refl
    marked (suc zero) h = subst⁻¹ (λ (w : Waiting). ByteMark (word_about w (cycle_at (words 0x33AA 0x7140) 1).lines)) waits refl
    marked (suc (suc i)) h = absurd (omega (arith, h, both_accepted))

-- so demand 3 holds of any answers to them
pub pair_isolated : (r s : Ran) (before before' after after' : List ℕ) → Gives here ours r before after → Gives there theirs s before' after' → Isolated here there r s after after'
pair_isolated = byte_isolation here there (words 0x33AA 0x7140) (words 0x77AA 0x1240) 2 8 premises_met

-- and it says something: both end in the same reports and the same low byte D0 of R1, below different upper bytes that stayed. A borrow
-- would have left 11D0 and 55D0
pub pair_ends : (get_or (summary_of here ours).machine.registers.ram 1 0 ≡ 0x12D0) × (get_or (summary_of there theirs).machine.registers.ram 1 0 ≡ 0x56D0)
    × (reports_of ours.steps ≡ 0 ∷ 0 ∷ 0 ∷ 16 ∷ 0x00D0 ∷ 0x00FF ∷ 0 ∷ 16 ∷ [])
unfolding complement write_back flagged with_sign plus minus two_operand outcome_of decode_of takes_immediate work_of plan_of judgement_of may_start view_of outcome_for effect_of settled_of condition_of cycle_of run_from run_of
pair_ends = (refl, refl, refl)
