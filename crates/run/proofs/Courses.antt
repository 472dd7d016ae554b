-- Courses put together: steps before a course, and what is read off them.
use mathlib.Core.Path.{◌≡◌, refl, sym, ap, ◌∙◌}
use mathlib.Core.List.{List, [], ◌∷◌, ◌++◌, append_assoc}
use mathlib.Core.Option.{Option, none, some}
use Prim.Native.Nat.{ℕ, zero, suc, ◌+◌, ◌*◌, ◌-◌, ◌≤◌, ◌<◌}
use native.Mathlib.Nat.{add_assoc, zero-add}
use native.Mathlib.Omega.{arith}
use lib.ListN.{length}
use Rattle.choice.specs.Tells.{Tells, accepted, refused}
use Rattle.machine.specs.declared.Machine.{Machine}
use Rattle.machine.specs.declared.Report.{Report}
use Rattle.std.specs.Prelude.{Option as CodeOption, Some, None}
use Rattle.isa.specs.declared.Named.{Named}
use Rattle.machine.specs.Cycles.{cycle_of, completions}
use Rattle.run.specs.Splitting.{cycle_at, cycles_from, report_words, words_per_report}
use Rattle.run.specs.Courses.{Step, Course, closing, step_then, turn_then, run_from, machine_after, completed_in, reports_of, preceded}

pub preceded_more : (past more : List Step) (c : Course) → preceded past (preceded more c) ≡ preceded (past ++ more) c
preceded_more past more c = ap (λ (s : List Step). record { steps = s; close = c.close }) (sym (append_assoc past more c.steps))

pub completions_le : (c : CodeOption Named) → completions c ≤ 1
completions_le None = omega arith
completions_le (Some n) = omega arith

-- what is read off steps, of steps after steps
pub machine_after_lem : (m : Machine) (past more : List Step) → machine_after m (past ++ more) ≡ machine_after (machine_after m past) more
machine_after_lem m [] more = refl
machine_after_lem m (s ∷ past) more = machine_after_lem s.machine past more

pub completed_in_lem : (past more : List Step) → completed_in (past ++ more) ≡ completed_in past + completed_in more
completed_in_lem [] more = sym (zero-add (completed_in more))
completed_in_lem (s ∷ past) more =
    ap (λ (k : ℕ). completions s.report.completed + k) (completed_in_lem past more)
    ∙ sym (add_assoc (completions s.report.completed) (completed_in past) (completed_in more))

pub reports_of_lem : (past more : List Step) → reports_of (past ++ more) ≡ reports_of past ++ reports_of more
reports_of_lem [] more = refl
reports_of_lem (s ∷ past) more =
    ap (λ (l : List ℕ). report_words s.report ++ l) (reports_of_lem past more)
    ∙ sym (append_assoc (report_words s.report) (reports_of past) (reports_of more))

pub reports_length : (steps : List Step) → length (reports_of steps) ≡ words_per_report * length steps
reports_length [] = refl
reports_length (s ∷ steps) = omega (arith, reports_length steps)

-- a run with budget left, at cycle i of n
pub runs_on : (m : Machine) (budget : ℕ) (words : List ℕ) (i n : ℕ) → i < n → (budget ≡ 0 → ⊥)
    → run_from m budget (cycles_from words i (n - i))
    ≡ turn_then (cycle_of m (cycle_at words i)).answer (cycle_of m (cycle_at words i)).machine
    (run_from (cycle_of m (cycle_at words i)).machine (budget - 1) (cycles_from words (i + 1) (n - (i + 1))))
unfolding run_from
runs_on m zero words i n h b = absurd (b refl)
runs_on m (suc budget) words i n h b =
    let e : n - i ≡ suc (n - (i + 1)) = omega arith in
    let f : budget ≡ suc budget - 1 = omega arith in
    ap (λ (k : ℕ). run_from m (suc budget) (cycles_from words i k)) e
    ∙ ap (λ (k : ℕ). turn_then (cycle_of m (cycle_at words i)).answer (cycle_of m (cycle_at words i)).machine
    (run_from (cycle_of m (cycle_at words i)).machine k (cycles_from words (i + 1) (n - (i + 1))))) f

-- a cycle that was accepted, or refused
module _ (m : Machine) (rest : Course) where
  pub accepted_then : (answer : Tells Report) (r : Report) → answer ≡ accepted r → turn_then answer m rest ≡ step_then (record { machine = m; report = r }) rest
  accepted_then answer r e = ap (λ (a : Tells Report). turn_then a m rest) e

  pub refused_then : (answer : Tells Report) (k : ℕ) → answer ≡ refused k → turn_then answer m rest ≡ closing (refused k)
  refused_then answer k e = ap (λ (a : Tells Report). turn_then a m rest) e

-- no more steps than cycles, and than the budget
turn_length : (answer : Tells Report) (m : Machine) (rest : Course) → length (turn_then answer m rest).steps ≤ suc (length rest.steps)
turn_length answer m rest = by_value answer.value
  where
    by_value : (v : Option Report) → length (turn_then (record { number = answer.number; value = v }) m rest).steps ≤ suc (length rest.steps)
    by_value (some r) = omega arith
    by_value none = omega arith

pub steps_le : (m : Machine) (budget : ℕ) (words : List ℕ) (i n : ℕ)
    → (length (run_from m budget (cycles_from words i n)).steps ≤ n) × (length (run_from m budget (cycles_from words i n)).steps ≤ budget)
unfolding run_from
steps_le m budget words i zero = (omega arith, omega arith)
steps_le m zero words i (suc n) = (omega arith, omega arith)
steps_le m (suc budget) words i (suc n) =
    let c = cycle_at words i in
    let h = turn_length (cycle_of m c).answer (cycle_of m c).machine (run_from (cycle_of m c).machine budget (cycles_from words (i + 1) n)) in
    let l = steps_le (cycle_of m c).machine budget words (i + 1) n in
    (omega (arith, h, l.0), omega (arith, h, l.1))
