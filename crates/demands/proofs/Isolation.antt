-- Demand 3, `byte_isolation`, at the end: whatever satisfies the statement of `run`, two runs that differ only in upper bytes give the same
-- reports, ending and counts, end with the same low bytes, and each keeps the upper bytes that it started with. Before it `stricter_suffices`.
use mathlib.Core.Path.{◌≡◌, refl, sym, ap, ap₂, ◌∙◌, subst, subst₂, subst⁻¹}
use mathlib.Core.Bool.{Bool, true, false}
use mathlib.Core.List.{List, [], ◌∷◌, ◌++◌, map}
use mathlib.Core.Option.{Option, none, some}
use Prim.Native.Nat.{ℕ, zero, suc, ◌+◌, ◌*◌, ◌≤◌, ◌<◌}
use native.Mathlib.Nat.{zero-add, add-zero}
use native.Mathlib.Omega.{arith}
use lib.Dec.{eqb}
use lib.ListN.{length, take, drop}
use lib.Seq.{take_at}
use borrow.Author.Tests.{eqb-true, eq-eqb}
use Rattle.choice.specs.Pick.{pick}
use Rattle.choice.specs.Checks.{refusal}
use Rattle.choice.specs.Tells.{Tells, accepted, refused}
use Rattle.choice.proofs.Spans.{never}
use Rattle.isa.specs.Words.{named_by, takes_immediate}
use Rattle.machine.specs.declared.Waiting.{Waiting}
use Rattle.machine.specs.declared.Waiting.TheVariants.{Nothing, Held}
use Rattle.machine.specs.declared.Registers.{Registers}
use Rattle.machine.specs.declared.Machine.{Machine}
use Rattle.machine.specs.declared.Words.{Words}
use Rattle.machine.specs.declared.Report.{Report}
use Rattle.machine.specs.Judging.{Refuse, Wait, checks_of, word_about, accepted_as, perform, judgement_of}
use Rattle.machine.specs.Settling.{latched, UpperBytesKept}
use Rattle.machine.specs.Cycles.{Turned, turn_of, cycle_of, completions}
use Rattle.run.specs.declared.Ran.{Ran}
use Rattle.run.specs.Splitting.{cycle_at, cycles_from, cycles_in, cycles_of, words_per_report, report_words}
use Rattle.run.specs.Courses.{Step, Finish, done, stopped, Course, closing, step_then, turn_then, run_from, machine_after, completed_in, reports_of}
use Rattle.run.specs.Runs.{start_checks, start_refusal, run_of, Summary, placed, summary_of, ran_tells, Gives}
use Rattle.run.proofs.Starting.{started, refused_whole}
use Rattle.run.proofs.Courses.{steps_le, reports_length}
use Rattle.run.proofs.Laws.{ending_one}
use Rattle.demands.specs.Isolation.{SameLowBytes, ByteMark, CyclesAlike, waiting_before, Reached, Premises, StricterPremises, Isolated}
use Rattle.demands.proofs.Turns.{TurnsAlike, turns_alike, unchanged}

kept_after : (a b c : Registers) → UpperBytesKept a b → UpperBytesKept b c → UpperBytesKept a c
kept_after a b c p q = record { ram = q.ram ∙ p.ram; acc = q.acc ∙ p.acc }

-- the reports of steps: their words and the counts are read off them
abbrev told : List Step → List Report
told steps = map (λ (s : Step). s.report) steps

abbrev words_in : List Report → List ℕ
words_in [] = []
words_in (r ∷ reports) = report_words r ++ words_in reports

abbrev completions_in : List Report → ℕ
completions_in [] = 0
completions_in (r ∷ reports) = completions r.completed + completions_in reports

words_told : (steps : List Step) → reports_of steps ≡ words_in (told steps)
words_told [] = refl
words_told (s ∷ steps) = ap (λ (l : List ℕ). report_words s.report ++ l) (words_told steps)

completions_told : (steps : List Step) → completed_in steps ≡ completions_in (told steps)
completions_told [] = refl
completions_told (s ∷ steps) = ap (λ (k : ℕ). completions s.report.completed + k) (completions_told steps)

length_told : (steps : List Step) → length steps ≡ length (told steps)
length_told [] = refl
length_told (s ∷ steps) = ap suc (length_told steps)

-- two courses, from m and n
record CoursesAlike (m n : Machine) (c d : Course) : Type 0 where
  reports : told c.steps ≡ told d.steps
  close : c.close ≡ d.close
  ends : SameLowBytes (machine_after m c.steps).registers (machine_after n d.steps).registers
  first : UpperBytesKept m.registers (machine_after m c.steps).registers
  second : UpperBytesKept n.registers (machine_after n d.steps).registers

closing_alike : (m n : Machine) (close : Tells Finish) → SameLowBytes m.registers n.registers → CoursesAlike m n (closing close) (closing close)
closing_alike m n close s = record { reports = refl; close = refl; ends = s; first = unchanged m.registers; second = unchanged n.registers }

-- what is read off both is the same
module _ (m n : Machine) (c d : Course) (a : CoursesAlike m n c d) where
  same_length : length c.steps ≡ length d.steps
  same_length = length_told c.steps ∙ ap length a.reports ∙ sym (length_told d.steps)

  same_reports : reports_of c.steps ≡ reports_of d.steps
  same_reports = words_told c.steps ∙ ap words_in a.reports ∙ sym (words_told d.steps)

  same_completed : completed_in c.steps ≡ completed_in d.steps
  same_completed = completions_told c.steps ∙ ap completions_in a.reports ∙ sym (completions_told d.steps)

  same_ending : placed c.close (length c.steps) ≡ placed d.close (length d.steps)
  same_ending = ap₂ placed a.close same_length

-- a cycle whose checks are clear is a step
turn_steps : (m : Machine) (c : Words) (rest : Course) → refusal (checks_of m.registers.waiting c) ≡ 0
    → 0 < length (turn_then (cycle_of m c).answer (cycle_of m c).machine rest).steps
unfolding cycle_of judgement_of
turn_steps m c rest e = by_test (eqb (refusal (checks_of m.registers.waiting c)) 0) (eq-eqb (refusal (checks_of m.registers.waiting c)) 0 e) m.registers.waiting
  where
    r : Registers
    r = latched m.registers c.input c.pins

    steps : Turned → ℕ
    steps t = length (turn_then t.answer t.machine rest).steps

    begun : (t : Bool) → 0 < steps (turn_of (pick t Wait (perform (named_by c.lines) 0)) m r c)
    begun true = omega arith
    begun false = omega arith

    accepts : (w : Waiting) → 0 < steps (turn_of (accepted_as w c) m r c)
    accepts Nothing = begun (takes_immediate c.lines)
    accepts (Held w) = omega arith

    by_test : (t : Bool) → t ≡ true → (w : Waiting) → 0 < steps (turn_of (pick t (accepted_as w c) (Refuse (refusal (checks_of m.registers.waiting c)))) m r c)
    by_test true q w = accepts w
    by_test false q w = absurd (never q)

-- what is asked of n cycles from cycle i on, of which the first run makes the course c
module _ (v w : List ℕ) where
  abbrev CyclesFrom : Machine → Course → ℕ → ℕ → ℕ → Type 0
  CyclesFrom m c i n budget = (k : ℕ) → k < n → k < budget → k ≤ length c.steps → CyclesAlike (waiting_before m c k) (cycle_at v (i + k)) (cycle_at w (i + k))

  abbrev MarksFrom : Machine → Course → ℕ → Type 0
  MarksFrom m c i = (k : ℕ) → k < length c.steps → ByteMark (word_about (waiting_before m c k) (cycle_at v (i + k)).lines)

  shift : (i k : ℕ) → i + suc k ≡ i + 1 + k
  shift i k = omega arith

  cycles_next : (m : Machine) (s : Step) (c : Course) (i n budget : ℕ) → CyclesFrom m (step_then s c) i (suc n) (suc budget) → CyclesFrom s.machine c (i + 1) n budget
  cycles_next m s c i n budget f k p q h =
      subst (λ (j : ℕ). CyclesAlike (waiting_before s.machine c k) (cycle_at v j) (cycle_at w j)) (shift i k) (f (suc k) (omega arith) (omega arith) (omega arith))

  marks_next : (m : Machine) (s : Step) (c : Course) (i : ℕ) → MarksFrom m (step_then s c) i → MarksFrom s.machine c (i + 1)
  marks_next m s c i f k h =
      subst (λ (j : ℕ). ByteMark (word_about (waiting_before s.machine c k) (cycle_at v j).lines)) (shift i k) (f (suc k) (omega arith))

  -- a cycle and the rest of both runs
  module _ (m n : Machine) (t u : Turned) (i left budget : ℕ) (c d : Course) (a : TurnsAlike m.registers n.registers t u)
      (s : SameLowBytes m.registers n.registers)
      (rest : CyclesFrom t.machine c (i + 1) left budget → MarksFrom t.machine c (i + 1) → CoursesAlike t.machine u.machine c d) where
    abbrev answered : Option Report → Machine → Course → Course
    answered x next r = turn_then (record { number = t.answer.number; value = x }) next r

    after_alike : (x : Option Report) → CyclesFrom m (answered x t.machine c) i (suc left) (suc budget) → MarksFrom m (answered x t.machine c) i
        → CoursesAlike m n (answered x t.machine c) (answered x u.machine d)
    after_alike (some r) f g =
        let o = rest (cycles_next m (record { machine = t.machine; report = r }) c i left budget f) (marks_next m (record { machine = t.machine; report = r }) c i g) in
        record {
          reports = ap (λ (l : List Report). r ∷ l) o.reports;
          close = o.close;
          ends = o.ends;
          first = kept_after m.registers t.machine.registers (machine_after t.machine c.steps).registers a.first o.first;
          second = kept_after n.registers u.machine.registers (machine_after u.machine d.steps).registers a.second o.second;
        }
    after_alike none f g = closing_alike m n (refused t.answer.number) s

  runs_alike : (m n : Machine) (left i budget : ℕ) → SameLowBytes m.registers n.registers
      → CyclesFrom m (run_from m budget (cycles_from v i left)) i left budget → MarksFrom m (run_from m budget (cycles_from v i left)) i
      → CoursesAlike m n (run_from m budget (cycles_from v i left)) (run_from n budget (cycles_from w i left))
  unfolding run_from
  runs_alike m n zero i budget s f g = closing_alike m n (accepted done) s
  runs_alike m n (suc left) i zero s f g = closing_alike m n (accepted stopped) s
  runs_alike m n (suc left) i (suc budget) s f g =
      let t = cycle_of m (cycle_at v i) in
      let u = cycle_of n (cycle_at w i) in
      let c = run_from t.machine budget (cycles_from v (i + 1) left) in
      let d = run_from u.machine budget (cycles_from w (i + 1) left) in
      let here : CyclesAlike m.registers.waiting (cycle_at v i) (cycle_at w i) =
      subst (λ (j : ℕ). CyclesAlike m.registers.waiting (cycle_at v j) (cycle_at w j)) (add-zero i) (f 0 (omega arith) (omega arith) (omega arith)) in
      let a : TurnsAlike m.registers n.registers t u = turns_alike m n s (cycle_at v i) (cycle_at w i) here
      (λ e. subst (λ (j : ℕ). ByteMark (word_about m.registers.waiting (cycle_at v j).lines)) (add-zero i) (g 0 (turn_steps m (cycle_at v i) c e))) in
      subst (λ (x : Tells Report). CoursesAlike m n (turn_then t.answer t.machine c) (turn_then x u.machine d)) a.answer
      (after_alike m n t u i left budget c d a s (λ p q. runs_alike t.machine u.machine left (i + 1) budget a.ends p q) t.answer.value f g)

module _ (m n : Machine) (v w : List ℕ) (budget room : ℕ) where
  courses_alike : Premises m n v w budget room → CoursesAlike m n (run_of m v budget room) (run_of n w budget room)
  courses_alike p = by_test (eqb (start_refusal m v room) 0) refl
    where
      same_number : start_refusal m v room ≡ start_refusal n w room
      same_number = ap₂ (λ (x : Waiting) (k : ℕ). refusal (start_checks x k room)) p.starts.waiting p.number

      at_start_lem : (c : Course) → run_of m v budget room ≡ c → start_refusal m v room ≡ 0
          → CyclesFrom v w m c 0 (cycles_in (length v)) budget × MarksFrom v w m c 0
      at_start_lem c e z = (
        (λ k x y h. subst (λ (j : ℕ). CyclesAlike (waiting_before m c k) (cycle_at v j) (cycle_at w j)) (sym (zero-add k))
            (subst (λ (d : Course). CyclesAlike (waiting_before m d k) (cycle_at v k) (cycle_at w k)) e
            (p.cycles k (record { started = z; given = x; paid = y; next = subst⁻¹ (λ (d : Course). k ≤ length d.steps) e h })))),
        (λ k h. subst (λ (j : ℕ). ByteMark (word_about (waiting_before m c k) (cycle_at v j).lines)) (sym (zero-add k))
            (subst (λ (d : Course). ByteMark (word_about (waiting_before m d k) (cycle_at v k).lines)) e
            (p.marks k (subst⁻¹ (λ (d : Course). k < length d.steps) e h)))),
      )

      by_test : (b : Bool) → eqb (start_refusal m v room) 0 ≡ b → CoursesAlike m n (run_of m v budget room) (run_of n w budget room)
      by_test true q =
          let z : start_refusal m v room ≡ 0 = eqb-true (start_refusal m v room) 0 q in
          let c : run_of m v budget room ≡ run_from m budget (cycles_of v) = started m v budget room z in
          let d : run_of n w budget room ≡ run_from n budget (cycles_from w 0 (cycles_in (length v))) =
          started n w budget room (sym same_number ∙ z) ∙ ap (λ (k : ℕ). run_from n budget (cycles_from w 0 (cycles_in k))) (sym p.number) in
          let a = at_start_lem (run_from m budget (cycles_of v)) c z in
          subst₂ (CoursesAlike m n) (sym c) (sym d) (runs_alike v w m n (cycles_in (length v)) 0 budget p.starts a.0 a.1)
      by_test false q =
          subst₂ (CoursesAlike m n) (sym (refused_whole m v budget room q))
          (sym (refused_whole n w budget room (sym (ap (λ (k : ℕ). eqb k 0) same_number) ∙ q) ∙ ap (λ (k : ℕ). closing (refused k)) (sym same_number)))
          (closing_alike m n (refused (start_refusal m v room)) p.starts)

  -- the stricter reading asks for more
  reached : (i : ℕ) → i < length (run_of m v budget room).steps → Reached m v budget room i
  reached i h = by_test (eqb (start_refusal m v room) 0) refl
    where
      by_test : (b : Bool) → eqb (start_refusal m v room) 0 ≡ b → Reached m v budget room i
      by_test true q =
          let z : start_refusal m v room ≡ 0 = eqb-true (start_refusal m v room) 0 q in
          let k : i < length (run_from m budget (cycles_of v)).steps = subst (λ (d : Course). i < length d.steps) (started m v budget room z) h in
          let l = steps_le m budget v 0 (cycles_in (length v)) in
          record { started = z; given = omega (arith, k, l.0); paid = omega (arith, k, l.1); next = omega (arith, h) }
      by_test false q =
          let k : i < 0 = subst (λ (d : Course). i < length d.steps) (refused_whole m v budget room q) h in
          absurd (omega (arith, k))

  pub stricter_suffices : StricterPremises m n v w budget room → Premises m n v w budget room
  stricter_suffices p = record {
    number = p.number;
    starts = p.starts;
    cycles = λ i r. p.cycles i r.given;
    marks = λ i h. p.marks i (reached i h);
  }

  -- demand 3: of any answers and lent reports that satisfy the statement of `run`
  module _ (p : Premises m n v w budget room) (r s : Ran) (before before' after after' : List ℕ)
      (g : Gives m (run_of m v budget room) r before after) (h : Gives n (run_of n w budget room) s before' after') where
    abbrev c : Course
    c = run_of m v budget room

    abbrev d : Course
    d = run_of n w budget room

    alike : CoursesAlike m n c d
    alike = courses_alike p

    -- the filled part of the lent reports
    filled_by : (m : Machine) (c : Course) (r : Ran) (before after : List ℕ) → Gives m c r before after → take (words_per_report * r.accepted) after ≡ reports_of c.steps
    filled_by m c r before after g =
        let size : length (reports_of c.steps) ≡ words_per_report * r.accepted =
        reports_length c.steps ∙ ap (λ (x : Summary). words_per_report * x.accepted) (sym g.answer) in
        ap (take (words_per_report * r.accepted)) g.written
        ∙ take_at (reports_of c.steps) (drop (length (reports_of c.steps)) before) (words_per_report * r.accepted) size

    -- a field of both answers
    both : {A : Type 0} (f : Summary → A) → f (summary_of m c) ≡ f (summary_of n d) → f (ran_tells r) ≡ f (ran_tells s)
    both f e = ap f g.answer ∙ e ∙ sym (ap f h.answer)

    pub byte_isolation : Isolated m n r s after after'
    byte_isolation = record {
      filled = filled_by m c r before after g ∙ same_reports m n c d alike ∙ sym (filled_by n d s before' after' h);
      ending = ending_one r.ending s.ending (both (λ (x : Summary). x.ending) (same_ending m n c d alike));
      accepted = both (λ (x : Summary). x.accepted) (same_length m n c d alike);
      completed = both (λ (x : Summary). x.completed) (same_completed m n c d alike);
      ends = subst₂ (λ (x y : Summary). SameLowBytes x.machine.registers y.machine.registers) (sym g.answer) (sym h.answer) alike.ends;
      first = subst⁻¹ (λ (x : Summary). UpperBytesKept m.registers x.machine.registers) g.answer alike.first;
      second = subst⁻¹ (λ (x : Summary). UpperBytesKept n.registers x.machine.registers) h.answer alike.second;
    }
