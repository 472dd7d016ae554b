-- The steps of a course are the turns of its cycles, one after another: accepted, with their reports, machines and completions; and how the
-- course closes. All this at the end, for `cycle_by_cycle` (Laws).
use mathlib.Core.Path.{◌≡◌, refl, sym, ap, ◌∙◌, subst, subst⁻¹}
use mathlib.Core.List.{List, [], ◌∷◌}
use mathlib.Core.Option.{Option, none, some}
use Prim.Native.Nat.{ℕ, zero, suc, ◌+◌, ◌*◌, ◌≤◌, ◌<◌}
use native.Mathlib.Nat.{zero-add, add-zero, add_assoc}
use native.Mathlib.Omega.{arith}
use lib.ListN.{length, take, drop}
use Rattle.choice.specs.Tells.{Tells, accepted, refused}
use Rattle.machine.specs.declared.Machine.{Machine}
use Rattle.machine.specs.declared.Report.{Report}
use Rattle.machine.specs.Cycles.{Turned, completions}
use Rattle.machine.proofs.Laws.{reported_accepted}
use Rattle.run.specs.Splitting.{cycle_at, cycles_from, words_per_report}
use Rattle.run.specs.Courses.{Step, Finish, done, stopped, Course, turn_then, run_from, machine_after, completed_in, reports_of}
use Rattle.run.specs.Following.{machine_at, turn_at, answer_words, answer_completions, completed_before}

-- an accepted turn
abbrev accepted_turn : Step → Turned
accepted_turn s = record { machine = s.machine; answer = accepted s.report }

-- the steps are the turns from cycle i on
abbrev Turns : Machine → List ℕ → ℕ → List Step → Type 0
Turns m words i [] = Unit {0}
Turns m words i (s ∷ steps) = (turn_at m words i ≡ accepted_turn s) × Turns m words (suc i) steps

-- how a course of n cycles closes after k, for the induction over its cycles: with none left, within the budget; with the budget spent; or at a
-- refused cycle. Of an answer it is `Ends` (specs/Following)
abbrev pub Closes : Machine → List ℕ → ℕ → ℕ → Tells Finish → ℕ → Type 0
Closes m words n budget close k = elim close.value [
  | some f ↦ elim f [ done ↦ (k ≡ n) × (k ≤ budget) | stopped ↦ (k ≡ budget) × (k < n) ]
  | none ↦ (k < n) × (k < budget) × ((turn_at m words k).answer ≡ refused close.number)
]

module _ (m : Machine) (words : List ℕ) where
  -- the run from cycle i on: n cycles, and a budget
  abbrev from : ℕ → ℕ → ℕ → Course
  from i n budget = run_from (machine_at m words i) budget (cycles_from words i n)

  next : (i n budget : ℕ) → run_from (machine_at m words (suc i)) budget (cycles_from words (i + 1) n) ≡ from (suc i) n budget
  next i n budget =
      let e : i + 1 ≡ suc i = omega arith in
      ap (λ (j : ℕ). run_from (machine_at m words (suc i)) budget (cycles_from words j n)) e

  module _ (i : ℕ) where
    abbrev answered : Option Report → Course → Course
    answered v rest = turn_then (record { number = (turn_at m words i).answer.number; value = v }) (turn_at m words i).machine rest

    step_turns : (v : Option Report) (rest : Course) → (turn_at m words i).answer.value ≡ v → Turns m words (suc i) rest.steps
        → Turns m words i (answered v rest).steps
    step_turns (some r) rest e f = (
      ap (λ (a : Tells Report). record { machine = (turn_at m words i).machine; answer = a })
          (reported_accepted (machine_at m words i) (cycle_at words i) r e),
      f,
    )
    step_turns none rest e f = tt

    step_closes : (v : Option Report) (rest : Course) (n budget : ℕ) → (turn_at m words i).answer.value ≡ v
        → Closes m words (suc i + n) (suc i + budget) rest.close (suc i + length rest.steps)
        → Closes m words (i + suc n) (i + suc budget) (answered v rest).close (i + length (answered v rest).steps)
    step_closes (some r) rest n budget e f =
        let x : suc i + n ≡ i + suc n = omega arith in
        let y : suc i + budget ≡ i + suc budget = omega arith in
        let z : suc i + length rest.steps ≡ i + suc (length rest.steps) = omega arith in
        subst (λ (k : ℕ). Closes m words (i + suc n) (i + suc budget) rest.close k) z
        (subst (λ (b : ℕ). Closes m words (i + suc n) b rest.close (suc i + length rest.steps)) y
        (subst (λ (k : ℕ). Closes m words k (suc i + budget) rest.close (suc i + length rest.steps)) x f))
    step_closes none rest n budget e f = (
      omega arith,
      omega arith,
      ap (λ (k : ℕ). (turn_at m words k).answer) (add-zero i)
          ∙ ap (λ (v : Option Report). record { number = (turn_at m words i).answer.number; value = v }) e,
    )

  turns : (n i budget : ℕ) → Turns m words i (from i n budget).steps
  unfolding run_from
  turns zero i budget = tt
  turns (suc n) i zero = tt
  turns (suc n) i (suc budget) =
      step_turns i (turn_at m words i).answer.value (run_from (machine_at m words (suc i)) budget (cycles_from words (i + 1) n)) refl
      (subst⁻¹ (λ (c : Course). Turns m words (suc i) c.steps) (next i n budget) (turns n (suc i) budget))

  closes_from : (n i budget : ℕ) → Closes m words (i + n) (i + budget) (from i n budget).close (i + length (from i n budget).steps)
  unfolding run_from
  closes_from zero i budget = (refl, omega arith)
  closes_from (suc n) i zero = (refl, omega arith)
  closes_from (suc n) i (suc budget) =
      step_closes i (turn_at m words i).answer.value (run_from (machine_at m words (suc i)) budget (cycles_from words (i + 1) n)) n budget refl
      (subst⁻¹ (λ (c : Course). Closes m words (suc i + n) (suc i + budget) c.close (suc i + length c.steps)) (next i n budget) (closes_from n (suc i) budget))

  -- what is read off such steps is what the turns say
  answer_of : (i : ℕ) (s : Step) → turn_at m words i ≡ accepted_turn s → (turn_at m words i).answer ≡ accepted s.report
  answer_of i s e = ap (λ (t : Turned). t.answer) e

  accepted_from : (steps : List Step) (i k : ℕ) → Turns m words i steps → k < length steps → (turn_at m words (i + k)).answer.number ≡ 0
  accepted_from [] i k f h = absurd (omega arith)
  accepted_from (s ∷ steps) i zero f h = ap (λ (j : ℕ). (turn_at m words j).answer.number) (add-zero i) ∙ ap (λ (t : Turned). t.answer.number) f.0
  accepted_from (s ∷ steps) i (suc k) f h =
      let e : i + suc k ≡ suc i + k = omega arith in
      ap (λ (j : ℕ). (turn_at m words j).answer.number) e ∙ accepted_from steps (suc i) k f.1 (omega arith)

  reports_from : (steps : List Step) (i k : ℕ) → Turns m words i steps → k < length steps
      → take words_per_report (drop (words_per_report * k) (reports_of steps)) ≡ answer_words (turn_at m words (i + k)).answer.value
  reports_from [] i k f h = absurd (omega arith)
  reports_from (s ∷ steps) i zero f h =
      sym (ap (λ (j : ℕ). answer_words (turn_at m words j).answer.value) (add-zero i) ∙ ap (λ (t : Turned). answer_words t.answer.value) f.0)
  reports_from (s ∷ steps) i (suc k) f h =
      let e : i + suc k ≡ suc i + k = omega arith in
      let d : words_per_report * suc k ≡ suc (suc (suc (suc (words_per_report * k)))) = omega arith in
      ap (λ (j : ℕ). take words_per_report (drop j (reports_of (s ∷ steps)))) d
      ∙ reports_from steps (suc i) k f.1 (omega arith)
      ∙ sym (ap (λ (j : ℕ). answer_words (turn_at m words j).answer.value) e)

  machine_from_lem : (steps : List Step) (i : ℕ) → Turns m words i steps → machine_after (machine_at m words i) steps ≡ machine_at m words (i + length steps)
  machine_from_lem [] i f = sym (ap (machine_at m words) (add-zero i))
  machine_from_lem (s ∷ steps) i f =
      let e : suc i + length steps ≡ i + suc (length steps) = omega arith in
      ap (λ (t : Turned). machine_after t.machine steps) (sym f.0) ∙ machine_from_lem steps (suc i) f.1 ∙ ap (machine_at m words) e

  completed_from : (steps : List Step) (i : ℕ) → Turns m words i steps → completed_before m words i + completed_in steps ≡ completed_before m words (i + length steps)
  completed_from [] i f = add-zero (completed_before m words i) ∙ sym (ap (completed_before m words) (add-zero i))
  completed_from (s ∷ steps) i f =
      let e : suc i + length steps ≡ i + suc (length steps) = omega arith in
      sym (add_assoc (completed_before m words i) (completions s.report.completed) (completed_in steps))
      ∙ ap (λ (t : Turned). completed_before m words i + answer_completions t.answer.value + completed_in steps) (sym f.0)
      ∙ completed_from steps (suc i) f.1
      ∙ ap (completed_before m words) e

  -- all that of a run of n cycles from the first on
  module _ (n budget : ℕ) where
    abbrev course : Course
    course = run_from m budget (cycles_from words 0 n)

    pub accepted_turns : (i : ℕ) → i < length course.steps → (turn_at m words i).answer.number ≡ 0
    accepted_turns i h = ap (λ (j : ℕ). (turn_at m words j).answer.number) (sym (zero-add i)) ∙ accepted_from course.steps 0 i (turns n 0 budget) h

    pub report_turns : (i : ℕ) → i < length course.steps
        → take words_per_report (drop (words_per_report * i) (reports_of course.steps)) ≡ answer_words (turn_at m words i).answer.value
    report_turns i h = reports_from course.steps 0 i (turns n 0 budget) h ∙ ap (λ (j : ℕ). answer_words (turn_at m words j).answer.value) (zero-add i)

    pub machine_turns : machine_after m course.steps ≡ machine_at m words (length course.steps)
    machine_turns = machine_from_lem course.steps 0 (turns n 0 budget) ∙ ap (machine_at m words) (zero-add (length course.steps))

    pub completed_turns : completed_in course.steps ≡ completed_before m words (length course.steps)
    completed_turns =
        sym (zero-add (completed_in course.steps)) ∙ completed_from course.steps 0 (turns n 0 budget)
        ∙ ap (completed_before m words) (zero-add (length course.steps))

    pub closes : Closes m words n budget course.close (length course.steps)
    closes = rw (zero-add n, zero-add budget, zero-add (length course.steps)) at (closes_from n 0 budget)
