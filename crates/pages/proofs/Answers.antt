-- What the reader's, the writer's and the run's answers say of the texts that are made of them.
use mathlib.Core.Path.{◌≡◌, refl, sym, ap, ◌∙◌}
use mathlib.Core.Bool.{Bool, true, false}
use mathlib.Core.List.{List, ◌++◌}
use Prim.Native.Nat.{ℕ, ◌+◌, ◌*◌, ◌≤◌}
use native.Mathlib.Omega.{arith}
use mathlib.Core.Option.{none, some}
use lib.Dec.{eqb}
use lib.ListN.{length, take, drop, length-append, length-drop}
use lib.Seq.{take_at}
use Rattle.choice.specs.Tells.{Placed}
use Rattle.run.specs.declared.Ending.{Ending}
use Rattle.run.specs.declared.Ending.TheVariants.{Done, Stopped, Refused}
use Rattle.run.specs.declared.Ran.{Ran}
use Rattle.run.specs.Splitting.{words_per_report, cycles_in}
use Rattle.run.specs.Courses.{Course, reports_of}
use Rattle.run.specs.Runs.{most_cycles, start_refusal, run_of, zero_machine, full_budget, summary_of, ran_tells, Gives, ran_of}
use Rattle.run.proofs.Courses.{reports_length, steps_le}
use Rattle.run.proofs.Starting.{started, refused_whole}
use borrow.Author.Tests.{eqb-true}
use Rattle.trace.specs.Layout.{words_per_record}
use Rattle.trace.specs.Limits.{blocks_for}
use Rattle.trace.specs.Reading.{read_of, read_words, Reads}
use Rattle.trace.specs.Writing.{trace_of, write_of, Writes}
use Rattle.trace.proofs.Answered.{read_says, write_says}
use Rattle.trace.proofs.Round.{made_trace_long}
use Rattle.trace.proofs.Trips.{left_by}
use Rattle.std.proofs.Common.{Ok, Err}
use Rattle.refusals.specs.declared.Refused.{Refused as NotRead}
use Rattle.refusals.specs.Numbers.{number_of}
use Rattle.pages.specs.Running.{reading_of, if_accepted, course_of, ran_from}
use Rattle.pages.specs.Packing.{writing_of}

-- room for the words of every trace
abbrev pub cycle_room : ℕ
cycle_room = words_per_record * most_cycles

module _ (t cycles cycles' : List ℕ) (size : length cycles ≡ cycle_room) where
  room_is : read_of words_per_record t (length cycles) ≡ reading_of t
  room_is = ap (read_of words_per_record t) size

  pub not_read : (e : NotRead) → Reads t (Err e) cycles cycles' → (text : List ℕ) (refusal : ℕ → ℕ → List ℕ) → if_accepted (reading_of t) text refusal ≡ refusal (number_of e.refusal) e.index
  not_read e r text refusal = ap (λ (a : Placed ℕ). if_accepted a text refusal) (sym room_is ∙ sym r.told)

  module _ (n : ℕ) (r : Reads t (Ok n) cycles cycles') (same : length cycles' ≡ length cycles) where
    pub is_read : (text : List ℕ) (refusal : ℕ → ℕ → List ℕ) → if_accepted (reading_of t) text refusal ≡ text
    is_read text refusal = ap (λ (a : Placed ℕ). if_accepted a text refusal) (sym room_is ∙ sym r.told)

    pub words_le : n ≤ length cycles
    words_le = let says = read_says 3 t (length cycles) n (sym r.told) in omega (arith, says.room_enough, says.words)

    filled : cycles' ≡ read_words 3 t ++ drop n cycles
    filled = left_by (read_of 3 t (length cycles)) n (read_words 3 t) cycles cycles' (sym r.told) r.written

    long : length (read_words 3 t) ≡ n
    long =
        let both : length cycles' ≡ length (read_words 3 t) + length (drop n cycles) = ap length filled ∙ length-append (read_words 3 t) (drop n cycles) in
        omega (arith, both, same, length-drop n cycles, words_le)

    pub words_read : take n cycles' ≡ read_words words_per_record t
    words_read = ap (take n) filled ∙ take_at (read_words 3 t) (drop n cycles) n long

module _ (words out out' : List ℕ) where
  pub not_written : (e : NotRead) → Writes words (Err e) out out' → (text : List ℕ) (refusal : ℕ → ℕ → List ℕ) → if_accepted (writing_of words (length out)) text refusal ≡ refusal (number_of e.refusal) e.index
  not_written e w text refusal = ap (λ (a : Placed ℕ). if_accepted a text refusal) (sym w.told)

  pub kept_out : (e : NotRead) → Writes words (Err e) out out' → out' ≡ out
  kept_out e w = w.written ∙ ap (λ (a : Placed ℕ). elim a.told.value [ some n ↦ trace_of 3 words ++ drop n out | none ↦ out ]) (sym w.told)

  module _ (n : ℕ) (w : Writes words (Ok n) out out') where
    pub is_written : (text : List ℕ) (refusal : ℕ → ℕ → List ℕ) → if_accepted (writing_of words (length out)) text refusal ≡ text
    is_written text refusal = ap (λ (a : Placed ℕ). if_accepted a text refusal) (sym w.told)

    pub trace_long : length (trace_of words_per_record words) ≡ n
    trace_long = made_trace_long 3 (blocks_for (length words)) 0 words ∙ (write_says 3 (length words) (length out) n (sym w.told)).3

    pub trace_out : out' ≡ trace_of words_per_record words ++ drop n out
    trace_out = left_by (write_of 3 (length words) (length out)) n (trace_of 3 words) out out' (sym w.told) w.written

-- a run's answer is the one that its course gives
ran_told : (r : Ran) → r ≡ ran_of (ran_tells r)
ran_told r = by_ending r.ending
  where
    by_ending : (e : Ending) → record { machine = r.machine; ending = e; accepted = r.accepted; completed = r.completed }
        ≡ ran_of (ran_tells (record { machine = r.machine; ending = e; accepted = r.accepted; completed = r.completed }))
    by_ending Done = refl
    by_ending Stopped = refl
    by_ending (Refused k i) = refl

pub few_steps : (words : List ℕ) → length (course_of words).steps ≤ most_cycles
few_steps words = by_test (eqb (start_refusal zero_machine words (words_per_report * most_cycles)) 0) refl
  where
    by_test : (b : Bool) → eqb (start_refusal zero_machine words (words_per_report * most_cycles)) 0 ≡ b → length (course_of words).steps ≤ most_cycles
    by_test true q =
        rw (started zero_machine words full_budget (words_per_report * most_cycles) (eqb-true _ 0 q))
        (steps_le zero_machine full_budget words 0 (cycles_in (length words))).1
    by_test false q = rw (refused_whole zero_machine words full_budget (words_per_report * most_cycles) q) (omega arith)

module _ (words reports reports' : List ℕ) (r : Ran) (size : length reports ≡ words_per_report * most_cycles) (g : Gives zero_machine (run_of zero_machine words full_budget (length reports)) r reports reports') where
  course_is : run_of zero_machine words full_budget (length reports) ≡ course_of words
  course_is = ap (run_of zero_machine words full_budget) size

  pub ran_is : r ≡ ran_from words
  ran_is = ran_told r ∙ ap ran_of (g.answer ∙ ap (summary_of zero_machine) course_is)

  pub accepted_le : r.accepted ≤ most_cycles
  accepted_le = rw ran_is (few_steps words)

  pub reports_are : take (words_per_report * r.accepted) reports' ≡ reports_of (course_of words).steps
  reports_are =
      let all = reports_of (course_of words).steps in
      let count : length all ≡ words_per_report * r.accepted = reports_length (course_of words).steps ∙ ap (λ (x : Ran). words_per_report * x.accepted) (sym ran_is) in
      let left : reports' ≡ all ++ drop (length all) reports = g.written ∙ ap (λ (c : Course). reports_of c.steps ++ drop (length (reports_of c.steps)) reports) course_is in
      ap (take (words_per_report * r.accepted)) left ∙ take_at all (drop (length all) reports) (words_per_report * r.accepted) count
