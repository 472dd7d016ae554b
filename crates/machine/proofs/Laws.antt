-- What holds of every cycle: a refused one changes nothing (`refused_unchanged`), one that only waits keeps its word (`wait_changes`), an
-- accepted one completes or waits (`completes_or_waits`, `waiting_completes`, `begins_waiting`) and leaves a machine that may start (`accepted_may_start`), and
-- what IEN and SRE keep (`ien_high_keeps`, `status_kept`, `sre_high_keeps`); and that no two outcomes satisfy a call's statement.
-- Further laws, in this order: `refused_numbered`, `completes_its_own`, `cycle_unique`, `may_start_unique`.
use mathlib.Core.Path.{◌≡◌, refl, ◌∙◌, sym, ap}
use mathlib.Core.Bool.{Bool, true, false}
use mathlib.Core.Option.{some, some-injective, some-ne-none}
use Prim.Native.Nat.{ℕ, ◌+◌, ◌/◌, ◌%◌}
use native.Mathlib.Omega.{arith}
use borrow.Author.Tests.{eqb-true, ne_eqb}
use Rattle.choice.specs.Tells.{Tells, accepted, refused}
use Rattle.choice.proofs.Picks.{picked, unpicked}
use Rattle.choice.proofs.Spans.{never}
use Rattle.choice.proofs.Tells.{accepted_one, refused_one, accepted_refused}
use Rattle.std.specs.Prelude.{Some, None, Result, Ok, Err}
use Rattle.isa.specs.declared.Named.{Named}
use Rattle.isa.specs.Words.{named_by, takes_immediate}
use Rattle.machine.specs.declared.Waiting.{Waiting}
use Rattle.machine.specs.declared.Waiting.TheVariants.{Nothing, Held}
use Rattle.machine.specs.declared.Machine.{Machine}
use Rattle.machine.specs.declared.Words.{Words}
use Rattle.machine.specs.declared.Report.{Report}
use Rattle.refusals.specs.declared.Refusal.{Refusal}
use Rattle.refusals.specs.Numbers.{number_of}
use Rattle.refusals.proofs.Laws.{number_of_one}
use Rattle.machine.specs.declared.Turn.{Turn}
use Rattle.machine.specs.Pins.{ien_high, both_low}
use Rattle.machine.specs.Judging.{word_about, waiting_words, may_start}
use Rattle.machine.specs.Settling.{with_waiting, settled_of}
use Rattle.machine.specs.Cycles.{Turned, machine_of, cycle_of, answer_tells, turn_tells, completions, before, instruction_word}
use Rattle.machine.proofs.Ways.{held_something, every_way}

-- an answer that is told as a report has that report; a refused one has none
told : {A : Type 0} (field : Report → A) (x : Report) (r : Report) → accepted x ≡ accepted r → field x ≡ field r
told field x r e = ap field (accepted_one x r e)

refused_has_none : {A : Type 0} (k : ℕ) (r : Report) → refused k ≡ accepted r → A
refused_has_none k r e = absurd (accepted_refused r k (sym e))

completed_differ : {n : Named} → Some n ≡ None → ⊥
completed_differ e =
    let one : ◌≡◌ {A = ℕ} 1 0 = ap completions e in
    omega (arith, one)

module _ (m : Machine) (c : Words) where
  -- a refused cycle changes nothing
  pub refused_unchanged : (k : ℕ) → (cycle_of m c).answer ≡ refused k → (cycle_of m c).machine ≡ m
  refused_unchanged k = every_way m c (λ (t : Turned). t.answer ≡ refused k → t.machine ≡ m) (record {
    refuses = λ j n e. refl;
    waits = λ x i e. absurd (accepted_refused _ k e);
    performs = λ h e. absurd (accepted_refused _ k e);
  })

  -- a refusal has a number
  pub refused_numbered : (k : ℕ) → (cycle_of m c).answer ≡ refused k → k ≡ 0 → ⊥
  refused_numbered k = every_way m c (λ (t : Turned). t.answer ≡ refused k → k ≡ 0 → ⊥) (record {
    refuses = λ j n e z. n (ap (λ (t : Tells Report). t.number) e ∙ z);
    waits = λ x i e z. accepted_refused _ k e;
    performs = λ h e z. accepted_refused _ k e;
  })

  -- an answer that has a report is an accepted one
  pub reported_accepted : (r : Report) → (cycle_of m c).answer.value ≡ some r → (cycle_of m c).answer ≡ accepted r
  reported_accepted r = every_way m c (λ (t : Turned). t.answer.value ≡ some r → t.answer ≡ accepted r) (record {
    refuses = λ k n e. absurd (some-ne-none r (sym e));
    waits = λ x i e. ap accepted (some-injective _ r e);
    performs = λ h e. ap accepted (some-injective _ r e);
  })

  module _ (r : Report) where
    -- a cycle that is accepted and completes nothing changes only the waiting word, and D by DLE
    pub wait_changes : (cycle_of m c).answer ≡ accepted r → r.completed ≡ None → (cycle_of m c).machine ≡ machine_of (with_waiting (before m c) (Held c.lines))
    wait_changes = every_way m c (λ (t : Turned). t.answer ≡ accepted r → r.completed ≡ None → t.machine ≡ machine_of (with_waiting (before m c) (Held c.lines))) (record {
      refuses = λ k n e. refused_has_none k r e;
      waits = λ x i e z. refl;
      performs = λ h e z. absurd (completed_differ (told (λ (r : Report). r.completed) _ r e ∙ z));
    })

    -- an accepted cycle completes an instruction, or leaves a word waiting
    pub completes_or_waits : (cycle_of m c).answer ≡ accepted r → completions r.completed + waiting_words (cycle_of m c).machine.registers.waiting ≡ 1
    unfolding settled_of
    completes_or_waits = every_way m c (λ (t : Turned). t.answer ≡ accepted r → completions r.completed + waiting_words t.machine.registers.waiting ≡ 1) (record {
      refuses = λ k n e. refused_has_none k r e;
      waits = λ x i e. sym (told (λ (r : Report). completions r.completed + 1) _ r e);
      performs = λ h e. sym (told (λ (r : Report). completions r.completed + 0) _ r e);
    })

    -- what it completes is the instruction of the word that it is about
    pub completes_its_own : (cycle_of m c).answer ≡ accepted r → completions r.completed ≡ 1 → r.completed ≡ Some (named_by (instruction_word m c))
    completes_its_own = every_way m c (λ (t : Turned). t.answer ≡ accepted r → completions r.completed ≡ 1 → r.completed ≡ Some (named_by (instruction_word m c))) (record {
      refuses = λ k n e. refused_has_none k r e;
      waits = λ x i e z.
          let none : ◌≡◌ {A = ℕ} 0 1 = told (λ (r : Report). completions r.completed) _ r e ∙ z in
          absurd (omega (arith, none));
      performs = λ h e z. sym (told (λ (r : Report). r.completed) _ r e);
    })

    -- with a word waiting, an accepted cycle completes that word's instruction
    pub waiting_completes : (w : ℕ) → m.registers.waiting ≡ Held w → (cycle_of m c).answer ≡ accepted r → r.completed ≡ Some (named_by w)
    waiting_completes w h = every_way m c (λ (t : Turned). t.answer ≡ accepted r → r.completed ≡ Some (named_by w)) (record {
      refuses = λ k n e. refused_has_none k r e;
      waits = λ x i e. absurd (held_something w (sym h ∙ x));
      performs = λ n e. sym (told (λ (r : Report). r.completed) _ r e) ∙ ap (λ (x : Waiting). Some (named_by (word_about x c.lines))) h;
    })

    -- with nothing waiting, an accepted cycle whose word has an I operand only waits
    pub begins_waiting : m.registers.waiting ≡ Nothing → takes_immediate c.lines ≡ true → (cycle_of m c).answer ≡ accepted r → r.completed ≡ None
    begins_waiting none takes = every_way m c (λ (t : Turned). t.answer ≡ accepted r → r.completed ≡ None) (record {
      refuses = λ k n e. refused_has_none k r e;
      waits = λ x i e. sym (told (λ (r : Report). r.completed) _ r e);
      performs = λ h e. absurd (never (sym (h none) ∙ takes));
    })

  -- an accepted cycle leaves a machine that may start: a word that is left waiting is one that may wait
  pub accepted_may_start : (cycle_of m c).answer.number ≡ 0 → may_start (cycle_of m c).machine.registers.waiting ≡ true
  unfolding settled_of may_start
  accepted_may_start = every_way m c (λ (t : Turned). t.answer.number ≡ 0 → may_start t.machine.registers.waiting ≡ true) (record {
    refuses = λ k n e. absurd (n e);
    waits = λ x i e. i;
    performs = λ h e. refl;
  })

  ien_not_low : ien_high c.pins ≡ true → both_low c.pins ≡ false
  ien_not_low h = ne_eqb (c.pins % 4) 0 (λ z. omega (arith, eqb-true (c.pins % 2) 1 h))

  abbrev Kept : Turned → Type 0
  Kept t = (t.machine.registers.ram ≡ m.registers.ram) × (t.machine.registers.acc ≡ m.registers.acc)

  -- IEN or SRE high: the status stays
  pub status_kept : both_low c.pins ≡ false → (cycle_of m c).machine.registers.status ≡ m.registers.status
  unfolding settled_of
  status_kept h = every_way m c (λ (t : Turned). t.machine.registers.status ≡ m.registers.status) (record {
    refuses = λ k n. refl;
    waits = λ x i. refl;
    performs = λ n. unpicked (both_low c.pins) _ m.registers.status h;
  })

  -- SRE high, by the pin's own bit: the status stays
  pub sre_high_keeps : c.pins / 2 % 2 ≡ 1 → (cycle_of m c).machine.registers.status ≡ m.registers.status
  sre_high_keeps h = status_kept (ne_eqb (c.pins % 4) 0 (λ z. omega (arith, z, h)))

  -- IEN high: no RAM, ACC or status changes
  pub ien_high_keeps : ien_high c.pins ≡ true
      → ((cycle_of m c).machine.registers.ram ≡ m.registers.ram)
      × ((cycle_of m c).machine.registers.acc ≡ m.registers.acc)
      × ((cycle_of m c).machine.registers.status ≡ m.registers.status)
  unfolding settled_of
  ien_high_keeps h =
      let kept : Kept (cycle_of m c) = every_way m c Kept (record {
        refuses = λ k n. (refl, refl);
        waits = λ x i. (refl, refl);
        performs = λ n. (picked (ien_high c.pins) m.registers.ram _ h, picked (ien_high c.pins) m.registers.acc _ h);
      }) in
      (kept.0, kept.1, status_kept (ien_not_low h))

-- what a turn tells fixes the turn
answer_one : (a b : Result Report Refusal) → answer_tells a ≡ answer_tells b → a ≡ b
answer_one (Ok x) (Ok y) e = ap Ok (accepted_one x y e)
answer_one (Ok x) (Err k) e = absurd (accepted_refused x (number_of k) e)
answer_one (Err k) (Ok x) e = absurd (accepted_refused x (number_of k) (sym e))
answer_one (Err j) (Err k) e = ap Err (number_of_one j k (refused_one {A = Report} (number_of j) (number_of k) e))

turn_one : (s t : Turn) → turn_tells s ≡ turn_tells t → s ≡ t
turn_one s t e =
    ap (λ (m : Machine). record { machine = m; answer = s.answer }) (ap (λ (x : Turned). x.machine) e)
    ∙ ap (λ (a : Result Report Refusal). record { machine = t.machine; answer = a }) (answer_one s.answer t.answer (ap (λ (x : Turned). x.answer) e))

-- no two outcomes satisfy the statement of a call
pub cycle_unique : (m : Machine) (c : Words) (s t : Turn) → turn_tells s ≡ cycle_of m c → turn_tells t ≡ cycle_of m c → s ≡ t
cycle_unique m c s t p q = turn_one s t (p ∙ sym q)

pub may_start_unique : (w : Waiting) (r s : Bool) → r ≡ may_start w → s ≡ may_start w → r ≡ s
may_start_unique w r s p q = p ∙ sym q
