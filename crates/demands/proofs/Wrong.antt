-- None of the six wrong emulators keeps what `run` promises: each is refuted by a run of one or two cycles (at the end). The right one does, on
-- every input: `right_faithful`, before them.
use mathlib.Core.Path.{◌≡◌, refl, sym, ap, ◌∙◌}
use mathlib.Core.Bool.{Bool, true, false}
use mathlib.Core.List.{List, [], ◌∷◌, ◌++◌}
use mathlib.Core.Option.{Option, none, some}
use Prim.Native.Nat.{ℕ, zero, suc, ◌*◌}
use native.Mathlib.Omega.{arith}
use lib.Dec.{eqb}
use lib.ListN.{length, take, drop, replicate}
use Rattle.choice.specs.Pick.{pick}
use Rattle.choice.specs.Tells.{Tells, refused, Placed, accepted_whole}
use Rattle.alu.specs.Width.{complement, write_back}
use Rattle.alu.specs.Flags.{flagged, with_sign}
use Rattle.alu.specs.Operations.{plus, one_operand, outcome_of}
use Rattle.isa.specs.Words.{decode_of, takes_immediate}
use Rattle.plan.specs.Plans.{work_of, plan_of}
use Rattle.machine.specs.declared.Machine.{Machine}
use Rattle.machine.specs.declared.Words.{Words}
use Rattle.machine.specs.declared.Report.{Report}
use Rattle.machine.specs.Judging.{judgement_of, may_start}
use Rattle.machine.specs.Seeing.{view_of}
use Rattle.machine.specs.Acting.{outcome_for, effect_of}
use Rattle.machine.specs.Settling.{settled_of}
use Rattle.machine.specs.Reporting.{condition_of}
use Rattle.machine.specs.Cycles.{cycle_of}
use Rattle.run.specs.declared.Ending.TheVariants.{Done}
use Rattle.run.specs.declared.Ran.{Ran}
use Rattle.run.specs.Splitting.{cycles_of}
use Rattle.run.specs.Courses.{Finish, done, Course, closing, turn_then, run_from, reports_of}
use Rattle.run.specs.Runs.{start_refusal, run_of, zero_machine, Summary, placed, summary_of, ending_tells, ran_tells, ending_of}
use Rattle.run.proofs.Laws.{ending_one}
use Rattle.demands.specs.Calls.{RunInput}
use Rattle.demands.specs.Wrong.{Emulator, Faithful, RefusesEverything, FixedAnswer, NeverChanges, CopiesFirst, InventsCounts, CountsEveryCycle, course_for, right}

-- a course closes with a refusal, or is done or stopped
abbrev Closed : Tells Finish → Type 0
Closed close = (k : ℕ) → ending_tells (ending_of (placed close k)) ≡ placed close k

turn_closed : (answer : Tells Report) (v : Option Report) (next : Machine) (rest : Course) → Closed rest.close
    → Closed (turn_then (record { number = answer.number; value = v }) next rest).close
turn_closed answer (some r) next rest c = c
turn_closed answer none next rest c = λ k. refl

cycles_closed : (m : Machine) (budget : ℕ) (cycles : List Words) → Closed (run_from m budget cycles).close
unfolding run_from
cycles_closed m budget [] = λ k. refl
cycles_closed m zero (c ∷ cycles) = λ k. refl
cycles_closed m (suc budget) (c ∷ cycles) =
    turn_closed (cycle_of m c).answer (cycle_of m c).answer.value (cycle_of m c).machine (run_from (cycle_of m c).machine budget cycles)
    (cycles_closed (cycle_of m c).machine budget cycles)

run_closed : (i : RunInput) → Closed (course_for i).close
unfolding run_of
run_closed i = by_test (eqb (start_refusal i.machine i.words (length i.reports)) 0)
  where
    by_test : (b : Bool) → Closed (pick b (run_from i.machine i.budget (cycles_of i.words)) (closing (refused (start_refusal i.machine i.words (length i.reports))))).close
    by_test true = cycles_closed i.machine i.budget (cycles_of i.words)
    by_test false = λ k. refl

-- the definition itself keeps what `run` promises
pub right_faithful : Faithful right
right_faithful i = record {
  answer =
      let s : Summary = summary_of i.machine (course_for i) in
      ap (λ (e : Placed Finish). record { machine = s.machine; ending = e; accepted = s.accepted; completed = s.completed }) (run_closed i (length (course_for i).steps));
  written = refl;
}

-- cycles with all pins low, from all zero, with budget and room for two
abbrev on : List ℕ → RunInput
on words = record { machine = zero_machine; words = words; budget = 2; reports = replicate 8 0 }

-- a no-operation; a word that is not on the list; an increment of ACC; the first and the third together; and a first immediate cycle
abbrev nothing : RunInput
nothing = on (0x7140 ∷ 0 ∷ 0 ∷ [])

abbrev unlisted : RunInput
unlisted = on (0xF140 ∷ 0 ∷ 0 ∷ [])

abbrev increment : RunInput
increment = on (0xFC81 ∷ 0 ∷ 0 ∷ [])

abbrev both : RunInput
both = on (0x7140 ∷ 0 ∷ 0 ∷ 0xFC81 ∷ 0 ∷ 0 ∷ [])

abbrev begun : RunInput
begun = on (0xF8E1 ∷ 0 ∷ 0 ∷ [])

abbrev told_of : RunInput → Summary
told_of i = summary_of i.machine (course_for i)

-- what these runs come to, by computation
nothing_done : (told_of nothing).ending ≡ accepted_whole done
unfolding decode_of takes_immediate work_of plan_of judgement_of may_start view_of outcome_for effect_of settled_of condition_of cycle_of run_from run_of
nothing_done = refl

nothing_accepted : (told_of nothing).accepted ≡ 1
unfolding decode_of takes_immediate work_of plan_of judgement_of may_start view_of outcome_for effect_of settled_of condition_of cycle_of run_from run_of
nothing_accepted = refl

unlisted_accepted : (told_of unlisted).accepted ≡ 0
unfolding decode_of takes_immediate work_of plan_of judgement_of may_start view_of outcome_for effect_of settled_of condition_of cycle_of run_from run_of
unlisted_accepted = refl

begun_counts : ((told_of begun).accepted ≡ 1) × ((told_of begun).completed ≡ 0)
unfolding decode_of takes_immediate work_of plan_of judgement_of may_start view_of outcome_for effect_of settled_of condition_of cycle_of run_from run_of
begun_counts = (refl, refl)

increment_acc : (told_of increment).machine.registers.acc ≡ 1
unfolding complement write_back flagged with_sign plus one_operand outcome_of decode_of takes_immediate work_of plan_of judgement_of may_start view_of outcome_for effect_of settled_of condition_of cycle_of run_from run_of
increment_acc = refl

both_accepted : (told_of both).accepted ≡ 2
unfolding complement write_back flagged with_sign plus one_operand outcome_of decode_of takes_immediate work_of plan_of judgement_of may_start view_of outcome_for effect_of settled_of condition_of cycle_of run_from run_of
both_accepted = refl

both_reports : reports_of (course_for both).steps ≡ 0 ∷ 0 ∷ 0 ∷ 16 ∷ 1 ∷ 0xFFFF ∷ 0 ∷ 16 ∷ []
unfolding complement write_back flagged with_sign plus one_operand outcome_of decode_of takes_immediate work_of plan_of judgement_of may_start view_of outcome_for effect_of settled_of condition_of cycle_of run_from run_of
both_reports = refl

module _ (e : Emulator) (f : Faithful e) where
  -- a field of an answer is what the definition says
  said : {A : Type 0} (field : Summary → A) (i : RunInput) → field (ran_tells (e i).answer) ≡ field (told_of i)
  said field i = ap field (f i).answer

  pub not_refusing_everything : RefusesEverything e → ⊥
  not_refusing_everything w = (w nothing).0 (ending_one (e nothing).answer.ending Done (said (λ (s : Summary). s.ending) nothing ∙ nothing_done))

  -- the accepted counts of two runs
  counts_differ : (e nothing).answer.accepted ≡ (e unlisted).answer.accepted → ⊥
  counts_differ q =
      let one : (e nothing).answer.accepted ≡ 1 = said (λ (s : Summary). s.accepted) nothing ∙ nothing_accepted in
      let zero : (e unlisted).answer.accepted ≡ 0 = said (λ (s : Summary). s.accepted) unlisted ∙ unlisted_accepted in
      omega (arith, q, one, zero)

  pub not_a_fixed_answer : FixedAnswer e → ⊥
  not_a_fixed_answer w = counts_differ (ap (λ (r : Ran). r.accepted) (w nothing unlisted))

  pub not_never_changing : NeverChanges e → ⊥
  not_never_changing w =
      let one : (e increment).answer.machine.registers.acc ≡ 1 = ap (λ (m : Machine). m.registers.acc) (said (λ (s : Summary). s.machine) increment) ∙ increment_acc in
      let zero : (e increment).answer.machine.registers.acc ≡ 0 = ap (λ (m : Machine). m.registers.acc) (w increment) in
      omega (arith, one, zero)

  pub not_copying_the_first : CopiesFirst e → ⊥
  not_copying_the_first w =
      let after : (e both).after ≡ 0 ∷ 0 ∷ 0 ∷ 16 ∷ 1 ∷ 0xFFFF ∷ 0 ∷ 16 ∷ [] =
      (f both).written ∙ ap (λ (l : List ℕ). l ++ drop (length l) both.reports) both_reports in
      let two : (e both).answer.accepted ≡ 2 = said (λ (s : Summary). s.accepted) both ∙ both_accepted in
      let copied : take 4 (drop (4 * 1) (e both).after) ≡ take 4 (e both).after = w both 1 (omega (arith, two)) in
      let same : ◌≡◌ {A = List ℕ} (1 ∷ 0xFFFF ∷ 0 ∷ 16 ∷ []) (0 ∷ 0 ∷ 0 ∷ 16 ∷ []) = sym (ap (λ (l : List ℕ). take 4 (drop 4 l)) after) ∙ copied ∙ ap (take 4) after in
      first_differs same
    where
      first : List ℕ → ℕ
      first [] = 0
      first (x ∷ l) = x

      first_differs : ◌≡◌ {A = List ℕ} (1 ∷ 0xFFFF ∷ 0 ∷ 16 ∷ []) (0 ∷ 0 ∷ 0 ∷ 16 ∷ []) → ⊥
      first_differs q =
          let bad : ◌≡◌ {A = ℕ} 1 0 = ap first q in
          omega (arith, bad)

  pub not_inventing_counts : InventsCounts e → ⊥
  not_inventing_counts w = counts_differ (w nothing unlisted refl).0

  pub not_counting_every_cycle : CountsEveryCycle e → ⊥
  not_counting_every_cycle w =
      let one : (e begun).answer.accepted ≡ 1 = said (λ (s : Summary). s.accepted) begun ∙ begun_counts.0 in
      let none : (e begun).answer.completed ≡ 0 = said (λ (s : Summary). s.completed) begun ∙ begun_counts.1 in
      omega (arith, one, none, w begun)
