-- A step's ways out: RAM in place and the core are the registers of the definition; and a step has one outcome.
-- The laws, in this order: `refused_turn`, `step_unique`, `core_of_unique`, `machine_from_unique`.
use mathlib.Core.Path.{◌≡◌, refl, ◌∙◌, sym, ap}
use mathlib.Core.Bool.{true, false}
use mathlib.Core.List.{List}
use Prim.Native.Nat.{ℕ, ◌%◌}
use lib.ListN.{get_or}
use Rattle.std.specs.Prelude.{Result, Ok, Err}
use Rattle.choice.specs.Pick.{pick}
use Rattle.choice.specs.Tells.{refused}
use Rattle.choice.proofs.Picks.{picked, unpicked}
use Rattle.choice.proofs.Tells.{accepted_one, refused_one, accepted_refused}
use Rattle.refusals.specs.declared.Refusal.{Refusal}
use Rattle.refusals.specs.Numbers.{number_of}
use Rattle.refusals.proofs.Laws.{number_of_one}
use Rattle.isa.specs.declared.Named.{Named}
use Rattle.plan.specs.declared.Plan.{Plan}
use Rattle.machine.specs.declared.Core.{Core}
use Rattle.machine.specs.declared.Registers.{Registers}
use Rattle.machine.specs.declared.Machine.{Machine}
use Rattle.machine.specs.declared.Words.{Words}
use Rattle.machine.specs.declared.Verdict.{Verdict}
use Rattle.machine.specs.declared.Stepped.{Stepped}
use Rattle.machine.specs.declared.RefusedStep.{RefusedStep}
use Rattle.machine.specs.declared.Effect.{Effect}
use Rattle.machine.specs.declared.Report.{Report}
use Rattle.isa.specs.Words.{named_by}
use Rattle.machine.specs.Judging.{Judgement, Refuse, Wait, Perform, word_about, judgement_of}
use Rattle.machine.specs.Seeing.{view_of}
use Rattle.machine.specs.Acting.{effect_of}
use Rattle.machine.specs.Settling.{latched, settled_of}
use Rattle.machine.specs.Reporting.{ct_of}
use Rattle.machine.specs.Cycles.{Turned, report_of, performed_turn, turn_of, turn_tells, cycle_of}
use Rattle.machine.proofs.Laws.{refused_unchanged}
use Rattle.machine.specs.Stepping.{registers_of, machine_from, core_of, step_tells, Steps, latched_core, seen_of, settled_ram, settled_core, waiting_step, Performed}

-- an instruction's step, by the core after it
abbrev performed_step : Named → Plan → Core → Core → Effect → ℕ → Stepped
performed_step n p before after e pins = record {
  core = after;
  named = n;
  report = report_of n e (ct_of p.work.chooser before.status pins) after.status pins;
}

pub performed_right : (v : Verdict) (ram : List ℕ) (core : Core) (pins : ℕ)
    → let p : Plan = v.plan in
    let e : Effect = effect_of p (seen_of p.mode (get_or ram (p.register % 32) 0) core v.immediate) in
    Performed ram v core pins (performed_step v.named p core (settled_core p.mode core e pins) e pins) (settled_ram p.mode p.register ram e pins)
unfolding view_of settled_of
performed_right v ram core pins = record { turn = refl; named = refl }

-- a step, by its judgement
module _ (ram : List ℕ) (k : Core) (c : Words) where
  abbrev m : Machine
  m = machine_from ram k

  turn_by : (x : Judgement) → judgement_of k.waiting c ≡ x → turn_of x m (latched m.registers c.input c.pins) c ≡ cycle_of m c
  unfolding cycle_of
  turn_by x e = ap (λ (x : Judgement). turn_of x m (latched m.registers c.input c.pins) c) (sym e)

  pub refuses : (j : Refusal) → judgement_of k.waiting c ≡ Refuse (number_of j) → (n : Named) → n ≡ named_by (word_about k.waiting c.lines)
      → Steps ram k c (Err (record { core = k; named = n; refusal = j })) ram
  refuses j e n f = record { turn = turn_by (Refuse (number_of j)) e; named = f }

  -- of a verdict, that it is the judgement and names the word's instruction is enough
  module _ (v : Verdict)
      (e : (judgement_of k.waiting c ≡ pick v.begins Wait (Perform v.named v.plan v.immediate)) × (v.named ≡ named_by (word_about k.waiting c.lines)))
      (b : Core) (g : b ≡ latched_core k c.input c.pins) where
    pub waits_first : v.begins ≡ true → Steps ram k c (Ok (waiting_step v.named b c)) ram
    waits_first t = record {
      turn =
          ap (λ (b : Core). step_tells ram (Ok (waiting_step v.named b c))) g
          ∙ turn_by Wait (e.0 ∙ picked v.begins Wait (Perform v.named v.plan v.immediate) t);
      named = e.1;
    }

    pub performs_last : v.begins ≡ false → (s : Stepped) (after : List ℕ) → Performed ram v b c.pins s after → Steps ram k c (Ok s) after
    performs_last t s after p = record {
      turn =
          p.turn ∙ ap (λ (b : Core). performed_turn v.named v.plan (registers_of ram b) v.immediate c.pins) g
          ∙ turn_by (Perform v.named v.plan v.immediate) (e.0 ∙ unpicked v.begins Wait (Perform v.named v.plan v.immediate) t);
      named = p.named ∙ e.1;
    }

-- a refused step of a machine's RAM and core is its refused cycle
pub refused_turn : (m : Machine) (k : Core) → k ≡ core_of m.registers → (c : Words) (r : Result Stepped RefusedStep) (j : RefusedStep) (after : List ℕ)
    → r ≡ Err j → Steps m.registers.ram k c r after → turn_tells (record { machine = m; answer = Err j.refusal }) ≡ cycle_of m c
refused_turn m k g c r j after e s =
    let told : step_tells after (Err j) ≡ cycle_of m c =
    ap (step_tells after) (sym e) ∙ s.turn ∙ ap (λ (k : Core). cycle_of (machine_from m.registers.ram k) c) g in
    let kept : (cycle_of m c).machine ≡ m = refused_unchanged m c (number_of j.refusal) (ap (λ (u : Turned). u.answer) (sym told)) in
    ap (λ (n : Machine). record { machine = n; answer = refused (number_of j.refusal) }) (sym (ap (λ (u : Turned). u.machine) told ∙ kept)) ∙ told

-- what a step tells fixes all of it but the instruction
same_stepped : (s t : Stepped) → s.core ≡ t.core → s.named ≡ t.named → s.report ≡ t.report → s ≡ t
same_stepped s t e f g =
    ap (λ (k : Core). record { core = k; named = s.named; report = s.report }) e
    ∙ ap (λ (n : Named). record { core = t.core; named = n; report = s.report }) f
    ∙ ap (λ (r : Report). record { core = t.core; named = t.named; report = r }) g

same_refused : (s t : RefusedStep) → s.core ≡ t.core → s.named ≡ t.named → s.refusal ≡ t.refusal → s ≡ t
same_refused s t e f g =
    ap (λ (k : Core). record { core = k; named = s.named; refusal = s.refusal }) e
    ∙ ap (λ (n : Named). record { core = t.core; named = n; refusal = s.refusal }) f
    ∙ ap (λ (r : Refusal). record { core = t.core; named = t.named; refusal = r }) g

-- no two outcomes satisfy the statement of a step
answers_same : (ram : List ℕ) (k : Core) (c : Words) (q r : Result Stepped RefusedStep) (x y : List ℕ) → Steps ram k c q x → Steps ram k c r y → q ≡ r
answers_same ram k c (Ok s) (Ok t) x y f g =
    let turns : step_tells x (Ok s) ≡ step_tells y (Ok t) = f.turn ∙ sym g.turn in
    ap Ok (same_stepped s t (ap (λ (u : Turned). core_of u.machine.registers) turns) (f.named ∙ sym g.named)
    (accepted_one s.report t.report (ap (λ (u : Turned). u.answer) turns)))
answers_same ram k c (Ok s) (Err j) x y f g = absurd (accepted_refused s.report (number_of j.refusal) (ap (λ (u : Turned). u.answer) (f.turn ∙ sym g.turn)))
answers_same ram k c (Err i) (Ok t) x y f g = absurd (accepted_refused t.report (number_of i.refusal) (ap (λ (u : Turned). u.answer) (g.turn ∙ sym f.turn)))
answers_same ram k c (Err i) (Err j) x y f g =
    let turns : step_tells x (Err i) ≡ step_tells y (Err j) = f.turn ∙ sym g.turn in
    ap Err (same_refused i j (ap (λ (u : Turned). core_of u.machine.registers) turns) (f.named ∙ sym g.named)
    (number_of_one i.refusal j.refusal (refused_one {A = Report} (number_of i.refusal) (number_of j.refusal) (ap (λ (u : Turned). u.answer) turns))))

left : (ram : List ℕ) (r : Result Stepped RefusedStep) → (step_tells ram r).machine.registers.ram ≡ ram
left ram (Ok s) = refl
left ram (Err j) = refl

pub step_unique : (ram : List ℕ) (k : Core) (c : Words) (q r : Result Stepped RefusedStep) (x y : List ℕ) → Steps ram k c q x → Steps ram k c r y → (q ≡ r) × (x ≡ y)
step_unique ram k c q r x y f g = (
  answers_same ram k c q r x y f g,
  sym (left x q) ∙ ap (λ (u : Turned). u.machine.registers.ram) (f.turn ∙ sym g.turn) ∙ left y r,
)

-- and those of taking a machine apart and of putting one together
pub core_of_unique : (r : Registers) (k l : Core) → k ≡ core_of r → l ≡ core_of r → k ≡ l
core_of_unique r k l p q = p ∙ sym q

pub machine_from_unique : (ram : List ℕ) (k : Core) (m n : Machine) → m ≡ machine_from ram k → n ≡ machine_from ram k → m ≡ n
machine_from_unique ram k m n p q = p ∙ sym q
