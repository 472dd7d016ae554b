-- What satisfies the statement of `run`: the cycles one after another (`cycle_by_cycle`) or, where the run is refused as a whole, its start
-- (`returned`), both of any answer; every machine on the way of a started run may start (`may_go_on`), so that none of its cycles is refused with
-- 4 (demands, Refusals); and no two outcomes satisfy the statement (`run_unique`).
use mathlib.Core.Path.{◌≡◌, refl, sym, ap, ◌∙◌, subst, subst⁻¹}
use mathlib.Core.Bool.{true, false}
use mathlib.Core.List.{List, ◌++◌}
use Prim.Native.Nat.{ℕ, zero, suc, ◌*◌, ◌≤◌, ◌<◌}
use native.Mathlib.Omega.{arith}
use lib.Dec.{T}
use lib.ListN.{length, take, drop, length-drop}
use lib.Seq.{take-append-le, drop-append-le, drop_at}
use borrow.Author.Tests.{ne_eqb}
use Rattle.choice.specs.Tells.{Tells, refused, Placed}
use Rattle.choice.proofs.Tells.{whole_one, refused_at_one, whole_refused}
use Rattle.machine.specs.declared.Machine.{Machine}
use Rattle.machine.specs.Judging.{may_start}
use Rattle.machine.proofs.Laws.{accepted_may_start}
use Rattle.run.specs.declared.Ending.{Ending}
use Rattle.run.specs.declared.Ending.TheVariants.{Done, Stopped, Refused}
use Rattle.run.specs.declared.Ran.{Ran}
use Rattle.run.specs.Splitting.{cycle_at, cycles_in, cycles_from, words_per_report}
use Rattle.run.specs.Courses.{Finish, done, stopped, Course, closing, run_from, reports_of}
use Rattle.run.specs.Runs.{start_refusal, run_of, Summary, placed, summary_of, ending_tells, ran_tells, Gives}
use Rattle.run.specs.Following.{machine_at, turn_at, completed_before, Ends, CycleByCycle, Returned}
use Rattle.run.proofs.Courses.{reports_length}
use Rattle.run.proofs.Starting.{started, refused_whole}
use Rattle.run.proofs.Turns.{Closes, accepted_turns, report_turns, machine_turns, completed_turns, closes}

done_stopped : done ≡ stopped → ⊥
done_stopped e = subst (λ (f : Finish). T (elim f [ done ↦ true | stopped ↦ false ])) e tt

-- what a run tells fixes its answer
pub ending_one : (x y : Ending) → ending_tells x ≡ ending_tells y → x ≡ y
ending_one Done Done e = refl
ending_one Stopped Stopped e = refl
ending_one (Refused j a) (Refused k b) e =
    let both = refused_at_one j k a b e in
    ap (λ (n : ℕ). Refused n a) both.0 ∙ ap (Refused k) both.1
ending_one Done Stopped e = absurd (done_stopped (whole_one done stopped e))
ending_one Stopped Done e = absurd (done_stopped (sym (whole_one stopped done e)))
ending_one Done (Refused k i) e = absurd (whole_refused done k i e)
ending_one Stopped (Refused k i) e = absurd (whole_refused stopped k i e)
ending_one (Refused k i) Done e = absurd (whole_refused done k i (sym e))
ending_one (Refused k i) Stopped e = absurd (whole_refused stopped k i (sym e))

pub ran_one : (r s : Ran) → ran_tells r ≡ ran_tells s → r ≡ s
ran_one r s e =
    ap (λ (m : Machine). record { machine = m; ending = r.ending; accepted = r.accepted; completed = r.completed }) (ap (λ (x : Summary). x.machine) e)
    ∙ ap (λ (x : Ending). record { machine = s.machine; ending = x; accepted = r.accepted; completed = r.completed }) (ending_one r.ending s.ending (ap (λ (x : Summary). x.ending) e))
    ∙ ap (λ (k : ℕ). record { machine = s.machine; ending = s.ending; accepted = k; completed = r.completed }) (ap (λ (x : Summary). x.accepted) e)
    ∙ ap (λ (k : ℕ). record { machine = s.machine; ending = s.ending; accepted = s.accepted; completed = k }) (ap (λ (x : Summary). x.completed) e)

-- an ending says how the course closed
ends_as : (m : Machine) (words : List ℕ) (n budget k : ℕ) (close : Tells Finish) (x : Ending) → ending_tells x ≡ placed close k → Closes m words n budget close k → Ends m words n budget k x
ends_as m words n budget k close Done e h = subst⁻¹ (λ (c : Tells Finish). Closes m words n budget c k) (ap (λ (p : Placed Finish). p.told) e) h
ends_as m words n budget k close Stopped e h = subst⁻¹ (λ (c : Tells Finish). Closes m words n budget c k) (ap (λ (p : Placed Finish). p.told) e) h
ends_as m words n budget k close (Refused number index) e h =
    let told : refused number ≡ close = ap (λ (p : Placed Finish). p.told) e in
    let at : index ≡ k = ap (λ (p : Placed Finish). p.index) e ∙ ap (λ (c : Tells Finish). (placed c k).index) (sym told) in
    let last = subst⁻¹ (λ (c : Tells Finish). Closes m words n budget c k) told h in
    (at, last.0, last.1, last.2)

-- any answer and lent reports that satisfy the statement of `run`
module _ (m : Machine) (words : List ℕ) (budget : ℕ) (before : List ℕ) (r : Ran) (after : List ℕ) (p : Gives m (run_of m words budget (length before)) r before after) where
  abbrev course : Course
  course = run_of m words budget (length before)

  abbrev cycles : ℕ
  cycles = cycles_in (length words)

  abbrev whole : ℕ
  whole = start_refusal m words (length before)

  count : r.accepted ≡ length course.steps
  count = ap (λ (s : Summary). s.accepted) p.answer

  long : length (reports_of course.steps) ≡ words_per_report * r.accepted
  long = reports_length course.steps ∙ ap (λ (k : ℕ). words_per_report * k) (sym count)

  -- the words of report k stand in what is written
  report_at : (k : ℕ) → k < r.accepted → take words_per_report (drop (words_per_report * k) after) ≡ take words_per_report (drop (words_per_report * k) (reports_of course.steps))
  report_at k h =
      let all = reports_of course.steps in
      let rest = drop (length all) before in
      let inside : words_per_report * k ≤ length all = omega (arith, long) in
      let room : words_per_report ≤ length (drop (words_per_report * k) all) = simp length-drop (omega (arith, long)) in
      ap (λ (l : List ℕ). take words_per_report (drop (words_per_report * k) l)) p.written
      ∙ ap (take words_per_report) (drop-append-le (words_per_report * k) all rest inside)
      ∙ take-append-le words_per_report (drop (words_per_report * k) all) rest room

  -- a run that is started is its cycles one after another
  pub cycle_by_cycle : whole ≡ 0 → CycleByCycle m words budget r before after
  cycle_by_cycle z =
      let same : course ≡ run_from m budget (cycles_from words 0 cycles) = started m words budget (length before) z in
      let counted : r.accepted ≡ length (run_from m budget (cycles_from words 0 cycles)).steps = count ∙ ap (λ (c : Course). length c.steps) same in
      let said : ran_tells r ≡ summary_of m (run_from m budget (cycles_from words 0 cycles)) = p.answer ∙ ap (summary_of m) same in
      record {
        accepted = λ k h. accepted_turns m words cycles budget k (subst (λ (x : ℕ). k < x) counted h);
        reports = λ k h.
            report_at k h ∙ ap (λ (c : Course). take words_per_report (drop (words_per_report * k) (reports_of c.steps))) same
            ∙ report_turns m words cycles budget k (subst (λ (x : ℕ). k < x) counted h);
        machine = ap (λ (s : Summary). s.machine) said ∙ machine_turns m words cycles budget ∙ ap (machine_at m words) (sym counted);
        completed = ap (λ (s : Summary). s.completed) said ∙ completed_turns m words cycles budget ∙ ap (completed_before m words) (sym counted);
        ends =
            subst⁻¹ (λ (k : ℕ). Ends m words cycles budget k r.ending) counted
            (ends_as m words cycles budget _ (run_from m budget (cycles_from words 0 cycles)).close r.ending (ap (λ (s : Summary). s.ending) said) (closes m words cycles budget));
        untouched =
            ap (drop (words_per_report * r.accepted)) p.written
            ∙ drop_at (reports_of course.steps) (drop (length (reports_of course.steps)) before) (words_per_report * r.accepted) long
            ∙ ap (λ (x : ℕ). drop x before) long;
      }

  -- a run that is refused as a whole gives back its start
  pub returned : (whole ≡ 0 → ⊥) → Returned m whole r before after
  returned n =
      let c : course ≡ closing (refused whole) = refused_whole m words budget (length before) (ne_eqb whole 0 n) in
      let said : ran_tells r ≡ summary_of m (closing (refused whole)) = p.answer ∙ ap (summary_of m) c in
      record {
        ending = ending_one r.ending (Refused whole 0) (ap (λ (s : Summary). s.ending) said);
        machine = ap (λ (s : Summary). s.machine) said;
        accepted = ap (λ (s : Summary). s.accepted) said;
        completed = ap (λ (s : Summary). s.completed) said;
        reports = p.written ∙ ap (λ (d : Course). reports_of d.steps ++ drop (length (reports_of d.steps)) before) c;
      }

-- while no cycle is refused, each machine on the way may start
module _ (m : Machine) (words : List ℕ) (starts : may_start m.registers.waiting ≡ true) where
  pub may_go_on : (k : ℕ) → ((l : ℕ) → l < k → (turn_at m words l).answer.number ≡ 0) → may_start (machine_at m words k).registers.waiting ≡ true
  may_go_on zero before = starts
  may_go_on (suc k) before = accepted_may_start (machine_at m words k) (cycle_at words k) (before k (omega arith))

-- no two outcomes satisfy the statement of `run`: the answers are the same, and the lent reports after the call
pub run_unique : (m : Machine) (c : Course) (before : List ℕ) (r s : Ran) (after after' : List ℕ)
    → Gives m c r before after → Gives m c s before after' → (r ≡ s) × (after ≡ after')
run_unique m c before r s after after' g h = (ran_one r s (g.answer ∙ sym h.answer), g.written ∙ sym h.written)
