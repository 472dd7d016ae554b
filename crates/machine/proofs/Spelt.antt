-- Single cycles spelt out. An accepted cycle that completes an instruction, with IEN and SRE low, leaves what the plan of its word says
-- (`completed_leaves`); by the fields of the word for TOR1, TOR2, TONR, SOR and SONR (`tor1_cycle` and so on), to be read beside the data sheet.
-- At the end: a word without an I operand is performed at once (`performs_at_once`, `leaves_at_once`).
use mathlib.Core.Path.{◌≡◌, refl, ◌∙◌, sym, ap}
use mathlib.Core.Bool.{Bool, true, false, not}
use mathlib.Core.List.{List, [], ◌∷◌}
use Prim.Native.Nat.{ℕ, ◌/◌, ◌%◌}
use native.Mathlib.Nat.{mod-mod}
use native.Mathlib.Omega.{arith}
use borrow.Author.Tests.{ne_eqb, eqb-true}
use lib.Dec.{eqb}
use Rattle.choice.specs.Pick.{pick}
use Rattle.choice.specs.Checks.{check, refusal}
use Rattle.choice.specs.Tells.{Tells, accepted}
use Rattle.choice.proofs.Spans.{never}
use Rattle.choice.proofs.Tells.{accepted_one, accepted_refused, told_accepted}
use Rattle.alu.specs.declared.Mode.{Mode}
use Rattle.alu.specs.declared.Operation.{Operation}
use Rattle.alu.specs.declared.Operation.TheVariants.{TwoOperand as TwoOperandOn, OneOperand as OneOperandOn}
use Rattle.alu.specs.Width.{width_of}
use Rattle.alu.specs.Operations.{outcome_of}
use Rattle.isa.specs.declared.Family.{Family}
use Rattle.isa.specs.declared.Family.TheVariants.{Tor1, Sor, Tor2, Sonr, Tonr}
use Rattle.isa.specs.declared.Named.{Named}
use Rattle.isa.specs.Fields.{mark_of, field_a, field_b, field_c, mode_of}
use Rattle.isa.specs.Words.{InFamily, word_checks, named_by, decode_of, named_row, asks_i, names_i, takes_immediate}
use Rattle.isa.proofs.Laws.{family_in}
use Rattle.plan.specs.declared.Source.{Source}
use Rattle.plan.specs.declared.Destination.{Destination}
use Rattle.plan.specs.declared.Destination.TheVariants.{ToRam}
use Rattle.plan.specs.declared.Plan.{Plan}
use Rattle.plan.specs.Tables.{at, two_operands, one_operands, ram_pair_r, ram_pair_s, pair_r, pair_s, sources, ram_pair_to, sor_to, no_ram_to}
use Rattle.plan.specs.Plans.{work_of, plan_of}
use Rattle.machine.specs.declared.Waiting.{Waiting}
use Rattle.machine.specs.declared.Waiting.TheVariants.{Nothing}
use Rattle.machine.specs.declared.Registers.{Registers}
use Rattle.machine.specs.declared.Machine.{Machine}
use Rattle.machine.specs.declared.Words.{Words}
use Rattle.machine.specs.declared.Effect.{Effect}
use Rattle.machine.specs.declared.Report.{Report}
use Rattle.machine.specs.Pins.{ien_high, both_low, stray_pin, bus_clash}
use Rattle.machine.specs.Judging.{Judgement, Wait, judged, perform, judgement_of}
use Rattle.machine.specs.Seeing.{view_of, operand_of}
use Rattle.machine.specs.Acting.{outcome_for, performed_of, effect_of}
use Rattle.machine.specs.Settling.{latched, ram_after, acc_after, settled_of}
use Rattle.machine.specs.Cycles.{Turned, machine_of, effect_from, turn_of, cycle_of, completions, written, before, instruction_word, operand_word}
use Rattle.machine.proofs.Ways.{every_way}

-- IEN and SRE low: the destination, and the status, are written
module _ (mode : Mode) (k : ℕ) (r : Registers) (pins : ℕ) (low : both_low pins ≡ true) where
  ien_low : ien_high pins ≡ false
  ien_low = ne_eqb (pins % 2) 1 (λ o. omega (arith, eqb-true (pins % 4) 0 low))

  -- nothing waits any more, and D stays
  abbrev holding : List ℕ → ℕ → ℕ → Registers
  holding ram acc status = record { ram = ram; acc = acc; latch = r.latch; status = status; waiting = Nothing }

  writes : (e : Effect)
      → settled_of mode k r e pins
      ≡ holding (ram_after e.destination mode k e.result r.ram) (acc_after e.destination mode e.result r.acc) e.status
  unfolding settled_of
  writes e = by_test (ien_high pins) (both_low pins) ien_low low
    where
      by_test : (i b : Bool) → i ≡ false → b ≡ true
          → holding (pick i r.ram (ram_after e.destination mode k e.result r.ram))
          (pick i r.acc (acc_after e.destination mode e.result r.acc)) (pick b e.status r.status)
          ≡ holding (ram_after e.destination mode k e.result r.ram) (acc_after e.destination mode e.result r.acc) e.status
      by_test true b p q = absurd (never (sym p))
      by_test false true p q = refl
      by_test false false p q = absurd (never q)

-- an accepted cycle that completes an instruction, with IEN and SRE low
module _ (m : Machine) (c : Words) (rep : Report) (answered : (cycle_of m c).answer ≡ accepted rep) (completed : completions rep.completed ≡ 1)
    (low : both_low c.pins ≡ true) where
  -- the word that it is about, with its mode; D is latched already
  abbrev w : ℕ
  w = instruction_word m c

  abbrev mode : Mode
  mode = mode_of (mark_of w)

  -- what the instruction sees of a source
  abbrev sees : ℕ → Source → ℕ
  sees k s = operand_of s (view_of mode k (before m c) (operand_word m c))

  -- what the plan of an instruction leaves: its outcome goes to the destination and the status
  abbrev left_by : Plan → Machine
  left_by p =
      machine_of (written p.mode p.register (before m c) p.work.destination
      (performed_of p (view_of p.mode p.register (before m c) (operand_word m c))))

  -- any instruction: its word's plan says what is left
  pub completed_leaves : (cycle_of m c).machine ≡ left_by (plan_of (named_by w))
  unfolding effect_of view_of
  completed_leaves =
      let p : Plan = plan_of (named_by w) in
      every_way m c (λ (t : Turned). t.answer ≡ accepted rep → t.machine ≡ left_by p) (record {
        refuses = λ k n e. absurd (accepted_refused rep k (sym e));
        waits = λ x i e.
            let none : ◌≡◌ {A = ℕ} 0 1 = ap (λ (r : Report). completions r.completed) (accepted_one _ rep e) ∙ completed in
            absurd (omega (arith, none));
        performs = λ h e.
            ap machine_of (writes p.mode p.register (before m c) c.pins low (effect_from p (before m c) (operand_word m c)));
      }) answered

  -- fields are in their range
  abbrev planned : Family → ℕ → ℕ → ℕ → Plan
  planned f a b c = record { mode = mode; n = a; register = c; work = work_of f a b c }

  plan_by : (f : Family) → InFamily f w → plan_of (named_by w) ≡ planned f (field_a w) (field_b w) (field_c w)
  unfolding plan_of
  plan_by f h =
      ap (λ (g : Family). planned g (field_a w % 16) (field_b w % 16) (field_c w % 32)) (family_in f w h)
      ∙ rw (mod-mod (w / 0x200) 16, mod-mod (w / 0x20) 16, mod-mod w 32)

  by_family : (f : Family) → InFamily f w → (cycle_of m c).machine ≡ left_by (planned f (field_a w) (field_b w) (field_c w))
  by_family f h = completed_leaves ∙ ap left_by (plan_by f h)

  -- an operation's outcome at the mode's width goes to a destination, register C where that is RAM
  abbrev leaves : Destination → Operation → Machine
  leaves d o = machine_of (written mode (field_c w) (before m c) d (outcome_of (width_of mode) o m.registers.status))

  -- the two-operand families
  pub tor1_cycle : InFamily Tor1 w
      → (cycle_of m c).machine
      ≡ leaves (at ram_pair_to (field_a w)) (TwoOperandOn (at two_operands (field_b w)) (sees (field_c w) (at ram_pair_r (field_a w))) (sees (field_c w) (at ram_pair_s (field_a w))))
  unfolding work_of outcome_for view_of
  tor1_cycle h = by_family Tor1 h

  pub tor2_cycle : InFamily Tor2 w
      → (cycle_of m c).machine
      ≡ leaves ToRam (TwoOperandOn (at two_operands (field_b w)) (sees (field_c w) (at pair_r (field_a w))) (sees (field_c w) (at pair_s (field_a w))))
  unfolding work_of outcome_for view_of
  tor2_cycle h = by_family Tor2 h

  pub tonr_cycle : InFamily Tonr w
      → (cycle_of m c).machine
      ≡ leaves (at no_ram_to (field_c w)) (TwoOperandOn (at two_operands (field_b w)) (sees (field_c w) (at pair_r (field_a w))) (sees (field_c w) (at pair_s (field_a w))))
  unfolding work_of outcome_for view_of
  tonr_cycle h = by_family Tonr h

  -- the one-operand families: MOVE, COMP, INC, NEG
  pub sor_cycle : InFamily Sor w
      → (cycle_of m c).machine ≡ leaves (at sor_to (field_b w)) (OneOperandOn (at one_operands (field_a w)) (sees (field_c w) (at sources (field_b w))))
  unfolding work_of outcome_for view_of
  sor_cycle h = by_family Sor h

  pub sonr_cycle : InFamily Sonr w
      → (cycle_of m c).machine ≡ leaves (at no_ram_to (field_c w)) (OneOperandOn (at one_operands (field_a w)) (sees (field_c w) (at sources (field_b w))))
  unfolding work_of outcome_for view_of
  sonr_cycle h = by_family Sonr h

-- with nothing waiting, a cycle whose word is accepted and has no I operand, and whose pins are in order, performs the word's instruction
module _ (m : Machine) (c : Words) (i : Named) (idle : m.registers.waiting ≡ Nothing) (stray : stray_pin c.pins ≡ false)
    (clash : bus_clash c.pins ≡ false) (word : decode_of c.lines ≡ accepted i) (single : asks_i (named_row i) i.a i.b ≡ false) where
  named : named_by c.lines ≡ i
  unfolding decode_of
  named = (told_accepted (refusal (word_checks c.lines)) (named_by c.lines) i word).1

  no_immediate : takes_immediate c.lines ≡ false
  unfolding takes_immediate
  no_immediate = ap (λ (t : Tells Named). names_i t.value) word ∙ single

  judged_at_once : judgement_of Nothing c ≡ perform i 0
  unfolding judgement_of
  judged_at_once =
      begun (stray_pin c.pins) (bus_clash c.pins) (decode_of c.lines).number (takes_immediate c.lines) (named_by c.lines) stray clash
      (ap (λ (t : Tells Named). t.number) word) no_immediate named
    where
      begun : (five six : Bool) (number : ℕ) (immediate : Bool) (n : Named) → five ≡ false → six ≡ false → number ≡ 0 → immediate ≡ false → n ≡ i
          → judged (refusal (check 5 five ∷ check 6 six ∷ check number (not (eqb number 0)) ∷ check 10 (pick immediate (ien_high c.pins) false) ∷ []))
          (pick immediate Wait (perform n 0))
          ≡ perform i 0
      begun five six number immediate n e f k t same = rw (e, f, k, t, same)

  pub performs_at_once : cycle_of m c ≡ turn_of (perform i 0) m (latched m.registers c.input c.pins) c
  unfolding cycle_of
  performs_at_once =
      let r = latched m.registers c.input c.pins in
      ap (λ (w : Waiting). turn_of (judgement_of w c) m r c) idle ∙ ap (λ (j : Judgement). turn_of j m r c) judged_at_once

  -- and with IEN and SRE low, its destination and the status take what its operation gives
  pub leaves_at_once : both_low c.pins ≡ true
      → let p : Plan = plan_of i in
      let r : Registers = latched m.registers c.input c.pins in
      (cycle_of m c).machine ≡ machine_of (written p.mode p.register r p.work.destination (performed_of p (view_of p.mode p.register r 0)))
  unfolding effect_of view_of
  leaves_at_once low =
      let p : Plan = plan_of i in
      let r : Registers = latched m.registers c.input c.pins in
      ap (λ (t : Turned). t.machine) performs_at_once
      ∙ ap machine_of (writes p.mode p.register r c.pins low (effect_from p r 0))
