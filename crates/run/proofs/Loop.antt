-- The run's loop: what holds before each cycle, that an accepted cycle keeps it, and the answer at each way out.
use mathlib.Core.Path.{◌≡◌, refl, sym, ap, subst, ◌∙◌}
use mathlib.Core.List.{List, [], ◌∷◌, ◌++◌, append-nil}
use Prim.Native.Nat.{ℕ, zero, suc, ◌+◌, ◌*◌, ◌-◌, ◌≤◌, ◌<◌}
use native.Mathlib.Nat.{add-zero}
use native.Mathlib.Omega.{arith}
use lib.ListN.{length, get_or, take, drop, take-append-drop, length-append}
use lib.Seq.{drop-drop, paste}
use Rattle.std.proofs.lemmas.List.Edits.{length-paste, take-paste, drop-paste}
use Rattle.std.specs.Simd.{first_chunks}
use Rattle.choice.specs.Tells.{Tells, accepted, refused, Placed}
use Rattle.machine.specs.declared.Machine.{Machine}
use Rattle.machine.specs.declared.Report.{Report}
use Rattle.machine.proofs.Laws.{refused_unchanged}
use Rattle.machine.specs.Cycles.{Turned, cycle_of, completions}
use Rattle.run.specs.declared.Ending.{Ending}
use Rattle.run.specs.declared.Ending.TheVariants.{Done, Stopped, Refused}
use Rattle.run.specs.declared.Ran.{Ran}
use Rattle.machine.specs.declared.Words.{Words}
use Rattle.run.specs.Splitting.{words_per_cycle, cycle_at, cycles_in, cycles_from, report_words, words_per_report}
use Rattle.run.specs.Courses.{Step, Finish, done, stopped, Course, closing, turn_then, run_from, machine_after, completed_in, reports_of, preceded}
use Rattle.run.specs.Runs.{Summary, placed, summary_of, ending_tells, ran_tells, Gives}
use Rattle.run.proofs.Courses.{preceded_more, completions_le, machine_after_lem, completed_in_lem, reports_of_lem, reports_length, runs_on, accepted_then, refused_then}

-- before cycle i: the steps so far, what was counted and written of them, and the run still to come
pub record Before (words : List ℕ) (budget : ℕ) (start : Machine) (reports₀ : List ℕ) (cycles : ℕ) (reports : List ℕ) (state : Machine) (completed i : ℕ) : Type 0 where
  pub past : List Step
  pub bound : i ≤ cycles
  pub room : length reports ≡ length reports₀
  pub accepted : length past ≡ i
  pub counted : completed_in past ≡ completed
  pub few : completed ≤ i
  pub reached : machine_after start past ≡ state
  pub filled : take (words_per_report * i) reports ≡ reports_of past
  pub rest : drop (words_per_report * i) reports ≡ drop (words_per_report * i) reports₀
  pub course : run_from start budget (cycles_from words 0 cycles) ≡ preceded past (run_from state (budget - i) (cycles_from words i (cycles - i)))

pub begins : (words : List ℕ) (budget : ℕ) (start : Machine) (reports : List ℕ) (cycles : ℕ) → Before words budget start reports cycles reports start 0 0
begins words budget start reports cycles = record {
  past = [];
  bound = omega arith;
  room = refl;
  accepted = refl;
  counted = refl;
  few = omega arith;
  reached = refl;
  filled = refl;
  rest = refl;
  course =
      let e : cycles ≡ cycles - 0 = omega arith in
      let f : budget ≡ budget - 0 = omega arith in
      ap (λ (n : ℕ). run_from start budget (cycles_from words 0 n)) e ∙ ap (λ (b : ℕ). run_from start b (cycles_from words 0 (cycles - 0))) f;
}

-- what is left of the run closes at once
module _ {words : List ℕ} {budget : ℕ} {start : Machine} {reports₀ : List ℕ} {cycles : ℕ} {reports : List ℕ} {state : Machine} {completed i : ℕ}
    (b : Before words budget start reports₀ cycles reports state completed i) (fits : words_per_report * cycles ≤ length reports₀) where
  abbrev whole : Course
  whole = run_from start budget (cycles_from words 0 cycles)

  abbrev ran : Ending → Ran
  ran ending = record { machine = state; ending = ending; accepted = i; completed = completed }

  abbrev telling : Machine → Tells Finish → ℕ → ℕ → Summary
  telling m close n k = record { machine = m; ending = placed close n; accepted = n; completed = k }

  closes : (close : Tells Finish) (ending : Ending) → ending_tells ending ≡ placed close i → whole ≡ preceded b.past (closing close) → Gives start whole (ran ending) reports₀ reports
  closes close ending e w = rw w (record { answer = told; written = left_as_was })
    where
      none_more : b.past ++ [] ≡ b.past
      none_more = append-nil b.past

      told : ran_tells (ran ending) ≡ summary_of start (preceded b.past (closing close))
      told =
          ap (λ (x : Placed Finish). record { machine = state; ending = x; accepted = i; completed = completed }) e
          ∙ ap (λ (n : ℕ). telling state close n completed) (sym b.accepted)
          ∙ ap (λ (k : ℕ). telling state close (length b.past) k) (sym b.counted)
          ∙ ap (λ (m : Machine). telling m close (length b.past) (completed_in b.past)) (sym b.reached)
          ∙ ap (λ (s : List Step). telling (machine_after start s) close (length s) (completed_in s)) (sym none_more)

      size : length (reports_of b.past) ≡ words_per_report * i
      size = reports_length b.past ∙ ap (λ (n : ℕ). words_per_report * n) b.accepted

      left_as_was : reports ≡ reports_of (b.past ++ []) ++ drop (length (reports_of (b.past ++ []))) reports₀
      left_as_was = rw (none_more, size, ← b.filled, ← b.rest) (sym (take-append-drop (words_per_report * i) reports))

  -- no cycle is left
  pub finishes : (all : ℕ) → all ≡ cycles → cycles ≤ i → Gives start whole (record { machine = state; ending = Done; accepted = all; completed = completed }) reports₀ reports
  unfolding run_from
  finishes all same h =
      let last : i ≡ all = omega (arith, h, b.bound, same) in
      let e : cycles - i ≡ 0 = omega arith in
      subst (λ (n : ℕ). Gives start whole (record { machine = state; ending = Done; accepted = n; completed = completed }) reports₀ reports) last
      (closes (accepted done) Done refl (b.course ∙ ap (λ (n : ℕ). preceded b.past (run_from state (budget - i) (cycles_from words i n))) e))

  -- a cycle is left, and the budget is spent
  pub stops : i < cycles → budget ≤ i → Gives start whole (ran Stopped) reports₀ reports
  unfolding run_from
  stops h z =
      let e : cycles - i ≡ suc (cycles - (i + 1)) = omega arith in
      let spent : budget - i ≡ 0 = omega arith in
      closes (accepted stopped) Stopped refl
      (b.course
      ∙ ap (λ (n : ℕ). preceded b.past (run_from state n (cycles_from words i (cycles - i)))) spent
      ∙ ap (λ (n : ℕ). preceded b.past (run_from state 0 (cycles_from words i n))) e)

  -- cycle i is judged
  module _ (h : i < cycles) (more : i < budget) (x : Turned) (p : x ≡ cycle_of state (cycle_at words i)) where
    abbrev next : Course
    next = run_from x.machine (budget - (i + 1)) (cycles_from words (i + 1) (cycles - (i + 1)))

    answered : whole ≡ preceded b.past (turn_then x.answer x.machine next)
    answered =
        let e : budget - i - 1 ≡ budget - (i + 1) = omega arith in
        b.course
        ∙ ap (preceded b.past) (runs_on state (budget - i) words i cycles h (λ z. omega arith)
        ∙ ap (λ (x : Turned). turn_then x.answer x.machine (run_from x.machine (budget - i - 1) (cycles_from words (i + 1) (cycles - (i + 1))))) (sym p)
        ∙ ap (λ (k : ℕ). turn_then x.answer x.machine (run_from x.machine k (cycles_from words (i + 1) (cycles - (i + 1))))) e)

    pub refuses : (k : ℕ) → x.answer ≡ refused k
        → Gives start whole (record { machine = x.machine; ending = Refused k i; accepted = i; completed = completed }) reports₀ reports
    refuses k e =
        let kept : state ≡ x.machine = sym (ap (λ (x : Turned). x.machine) p ∙ refused_unchanged state (cycle_at words i) k (ap (λ (x : Turned). x.answer) (sym p) ∙ e)) in
        subst (λ (m : Machine). Gives start whole (record { machine = m; ending = Refused k i; accepted = i; completed = completed }) reports₀ reports) kept
        (closes (refused k) (Refused k i) refl (answered ∙ ap (preceded b.past) (refused_then x.machine next x.answer k e)))

    pub again : (r : Report) (reports' : List ℕ) → x.answer ≡ accepted r → reports' ≡ paste reports (words_per_report * i) (report_words r) words_per_report
        → Before words budget start reports₀ cycles reports' x.machine (completed + completions r.completed) (i + 1)
    again r reports' e q = record {
      past = b.past ++ step ∷ [];
      bound = omega arith;
      room = rw q (length-paste reports (words_per_report * i) (report_words r) words_per_report (omega (arith, b.room)) (omega arith) ∙ b.room);
      accepted = length-append b.past (step ∷ []) ∙ ap (λ (n : ℕ). n + 1) b.accepted;
      counted =
          completed_in_lem b.past (step ∷ [])
          ∙ ap (λ (k : ℕ). k + (completions r.completed + 0)) b.counted
          ∙ ap (λ (k : ℕ). completed + k) (add-zero (completions r.completed));
      few = omega (arith, completions_le r.completed, b.few);
      reached = machine_after_lem start b.past (step ∷ []);
      filled =
          rw (q, more_words) (take-paste reports (words_per_report * i) (report_words r) words_per_report (omega (arith, b.room)) (omega arith))
          ∙ ap (λ (l : List ℕ). l ++ report_words r) b.filled
          ∙ sym (reports_of_lem b.past (step ∷ []) ∙ ap (λ (l : List ℕ). reports_of b.past ++ l) (append-nil (report_words r)));
      rest =
          rw (q, more_words) (drop-paste reports (words_per_report * i) (report_words r) words_per_report (omega (arith, b.room)) (omega arith))
          ∙ ap (λ (j : ℕ). drop j reports) (sym more_words) ∙ further reports ∙ ap (drop words_per_report) b.rest ∙ sym (further reports₀);
      course =
          answered
          ∙ ap (preceded b.past) (accepted_then x.machine next x.answer r e)
          ∙ preceded_more b.past (step ∷ []) next;
    }
      where
        step : Step
        step = record { machine = x.machine; report = r }

        more_words : words_per_report * (i + 1) ≡ words_per_report * i + words_per_report
        more_words = omega arith

        further : (l : List ℕ) → drop (words_per_report * (i + 1)) l ≡ drop words_per_report (drop (words_per_report * i) l)
        further l =
            ap (λ (j : ℕ). drop j l) more_words ∙ sym (drop-drop words_per_report (words_per_report * i) l)

-- cycle i of the words, as the code cuts them
cut : (words : List ℕ) (i n : ℕ) → i < n → words_per_cycle * n ≤ length words
    → get_or (first_chunks words_per_cycle n words) i [] ≡ (cycle_at words i).lines ∷ (cycle_at words i).input ∷ (cycle_at words i).pins ∷ []
cut words i zero h l = absurd (omega arith)
cut [] i (suc n) h l = absurd (omega arith)
cut (x ∷ []) i (suc n) h l = absurd (omega arith)
cut (x ∷ y ∷ []) i (suc n) h l = absurd (omega arith)
cut (x ∷ y ∷ z ∷ words) zero (suc n) h l = refl
cut (x ∷ y ∷ z ∷ words) (suc i) (suc n) h l =
    let at = words_per_cycle * i in
    let first : words_per_cycle * suc i ≡ suc (suc (suc at)) = omega arith in
    let second : words_per_cycle * suc i + 1 ≡ suc (suc (suc (at + 1))) = omega arith in
    let third : words_per_cycle * suc i + 2 ≡ suc (suc (suc (at + 2))) = omega arith in
    rw (third, second, first) (cut words i n (omega arith) (omega arith))

pub cycle_cut : (words : List ℕ) (parts : List (List ℕ)) (i : ℕ) → parts ≡ first_chunks words_per_cycle (cycles_in (length words)) words → i < cycles_in (length words)
    → ◌≡◌ {A = Words} (record { lines = get_or (get_or parts i []) 0 0; input = get_or (get_or parts i []) 1 0; pins = get_or (get_or parts i []) 2 0 }) (cycle_at words i)
cycle_cut words parts i e h = rw (e, cut words i (cycles_in (length words)) h (omega arith)) refl
