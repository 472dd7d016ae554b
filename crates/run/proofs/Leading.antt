-- Cycles that are all accepted, as runs: with enough budget a run over them is done and ends where they lead; and the words of some cycles
-- are split into those cycles.
-- The laws, in this order: `leads_run`, `words_split`, `leads_answer`.
use mathlib.Core.Path.{◌≡◌, refl, ap, ◌∙◌}
use mathlib.Core.List.{List, [], ◌∷◌}
use Prim.Native.Nat.{ℕ, zero, suc, ◌+◌, ◌*◌, ◌≤◌}
use native.Mathlib.Omega.{arith}
use lib.ListN.{length, get_or}
use Rattle.choice.specs.Tells.{Tells, accepted}
use Rattle.machine.specs.declared.Waiting.TheVariants.{Nothing}
use Rattle.machine.specs.declared.Machine.{Machine}
use Rattle.machine.specs.declared.Words.{Words}
use Rattle.machine.specs.declared.Report.{Report}
use Rattle.machine.specs.Cycles.{cycle_of}
use Rattle.machine.specs.Judging.{may_start}
use Rattle.run.specs.declared.Ending.TheVariants.{Done}
use Rattle.run.specs.declared.Ran.{Ran}
use Rattle.run.specs.Splitting.{words_per_cycle, cycle_at, cycles_from, cycles_in, cycles_of, cycle_words, words_per_report}
use Rattle.run.specs.Courses.{Finish, Course, turn_then, run_from}
use Rattle.run.specs.Runs.{most_cycles, start_refusal, run_of, Summary, placed, summary_of, ran_tells, Gives}
use Rattle.run.specs.Leading.{Leads, DoneAt}
use Rattle.run.proofs.Starting.{clear_start, started}
use Rattle.run.proofs.Laws.{ending_one}

-- one accepted cycle before a course
stepped : (m next n : Machine) (x : Words) (cycles : List Words) (answer : Tells Report) (r : Report) (c : Course) → answer ≡ accepted r
    → DoneAt next cycles n c → DoneAt m (x ∷ cycles) n (turn_then answer next c)
stepped m next n x cycles answer r c e h = rw e (record { close = h.close; steps = ap suc h.steps; machine = h.machine })

pub leads_run : (m n : Machine) (cycles : List Words) (budget : ℕ) → length cycles ≤ budget → Leads m cycles n → DoneAt m cycles n (run_from m budget cycles)
unfolding run_from
leads_run m n [] budget h l = record { close = refl; steps = refl; machine = l }
leads_run m n (c ∷ cycles) zero h l = absurd (omega arith)
leads_run m n (c ∷ cycles) (suc budget) h l =
    let next = (cycle_of m c).machine in
    stepped m next n c cycles (cycle_of m c).answer l.0.0 (run_from next budget cycles) l.0.1 (leads_run next n cycles budget (omega arith) l.1)

-- how many words cycles have
words_length : (cycles : List Words) → length (cycle_words cycles) ≡ words_per_cycle * length cycles
words_length [] = refl
words_length (c ∷ cycles) = omega (arith, words_length cycles)

cycles_in_lem : (cycles : List Words) → cycles_in (length (cycle_words cycles)) ≡ length cycles
cycles_in_lem cycles = omega (arith, words_length cycles)

-- past the words of the first cycle stand those of the others
later : (c : Words) (words : List ℕ) (n j : ℕ) → n ≡ suc (suc (suc j)) → get_or (c.lines ∷ c.input ∷ c.pins ∷ words) n 0 ≡ get_or words j 0
later c words n j e = ap (λ (k : ℕ). get_or (c.lines ∷ c.input ∷ c.pins ∷ words) k 0) e

later_at : (c : Words) (words : List ℕ) (i : ℕ) → cycle_at (c.lines ∷ c.input ∷ c.pins ∷ words) (i + 1) ≡ cycle_at words i
later_at c words i =
    let at = words_per_cycle * (i + 1) in
    let from = words_per_cycle * i in
    rw (later c words at from (omega arith), later c words (at + 1) (from + 1) (omega arith), later c words (at + 2) (from + 2) (omega arith))

later_from : (c : Words) (words : List ℕ) (i n : ℕ) → cycles_from (c.lines ∷ c.input ∷ c.pins ∷ words) (i + 1) n ≡ cycles_from words i n
later_from c words i zero = refl
later_from c words i (suc n) = rw (later_at c words i, later_from c words (i + 1) n)

split_from : (cycles : List Words) → cycles_from (cycle_words cycles) 0 (length cycles) ≡ cycles
split_from [] = refl
split_from (c ∷ cycles) = ap (λ (l : List Words). c ∷ l) (later_from c (cycle_words cycles) 0 (length cycles) ∙ split_from cycles)

pub words_split : (cycles : List Words) → cycles_of (cycle_words cycles) ≡ cycles
words_split cycles = ap (cycles_from (cycle_words cycles) 0) (cycles_in_lem cycles) ∙ split_from cycles

-- the answer of a run over the words of cycles that are all accepted, from nothing waiting
pub leads_answer : (m n : Machine) (cycles : List Words) (budget : ℕ) (before after : List ℕ) (r : Ran) → m.registers.waiting ≡ Nothing → Leads m cycles n
    → length cycles ≤ most_cycles → words_per_report * length cycles ≤ length before → length cycles ≤ budget
    → Gives m (run_of m (cycle_words cycles) budget (length before)) r before after
    → (r.ending ≡ Done) × (r.accepted ≡ length cycles) × (r.machine ≡ n)
unfolding may_start
leads_answer m n cycles budget before after r idle leads few fits enough gives =
    let words = cycle_words cycles in
    let many = cycles_in_lem cycles in
    let clear : start_refusal m words (length before) ≡ 0 =
    clear_start m.registers.waiting (length words) (length before) (omega (arith, words_length cycles)) (omega arith) (omega arith) (ap may_start idle) in
    let same : run_of m words budget (length before) ≡ run_from m budget cycles =
    started m words budget (length before) clear ∙ ap (run_from m budget) (words_split cycles) in
    let told : ran_tells r ≡ summary_of m (run_from m budget cycles) = gives.answer ∙ ap (summary_of m) same in
    let course = leads_run m n cycles budget enough leads in (
      ending_one r.ending Done (ap (λ (s : Summary). s.ending) told ∙ ap (λ (t : Tells Finish). placed t (length (run_from m budget cycles).steps)) course.close),
      ap (λ (s : Summary). s.accepted) told ∙ course.steps,
      ap (λ (s : Summary). s.machine) told ∙ course.machine,
    )
