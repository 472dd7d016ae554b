-- What a cycle keeps. About a word with the byte mark: every upper byte (`byte_keeps`). About Test and NOOP: every
-- register but D, which DLE may latch (`family_test`, `family_noop`).
use mathlib.Core.Path.{◌≡◌, refl, ◌∙◌, sym, ap, subst⁻¹}
use mathlib.Core.Bool.{Bool, true, false}
use mathlib.Core.List.{List, map}
use Prim.Native.Nat.{ℕ, ◌+◌, ◌%◌, ◌^◌}
use native.Mathlib.Nat.{zero-div}
use lib.Dec.{eqb}
use lib.ListN.{get_or}
use lib.Seq.{map-set_same}
use Rattle.choice.specs.Pick.{pick}
use Rattle.choice.specs.Checks.{refusal}
use Rattle.choice.specs.Tells.{accepted, refused}
use Rattle.choice.proofs.Spans.{never}
use Rattle.choice.proofs.Tells.{accepted_refused}
use Rattle.alu.specs.declared.Mode.{Mode}
use Rattle.alu.specs.declared.Mode.TheVariants.{Byte}
use Rattle.alu.specs.Width.{write_back}
use Rattle.alu.proofs.Written.{written_high}
use Rattle.plan.specs.declared.Destination.{Destination}
use Rattle.plan.specs.declared.Destination.TheVariants.{ToY, ToAcc, ToRam, ToStatus, ToAccAndStatus}
use Rattle.plan.specs.declared.Task.TheVariants.{NoOperation, TestStatus}
use Rattle.plan.specs.declared.Chooser.{Chooser}
use Rattle.plan.specs.declared.Plan.{Plan}
use Rattle.plan.specs.Plans.{idle, work_of, plan_of}
use Rattle.isa.specs.declared.Family.{Family}
use Rattle.isa.specs.declared.Family.TheVariants.{Test, Noop}
use Rattle.isa.specs.Fields.{mark_of, field_a, field_b, field_c, mode_of}
use Rattle.isa.specs.Table.{row_at, number_of}
use Rattle.isa.specs.Words.{InFamily, word_checks, named_by, decode_of, asks_i, names_i, takes_immediate}
use Rattle.isa.proofs.Laws.{family_in}
use Rattle.machine.specs.declared.Waiting.{Waiting}
use Rattle.machine.specs.declared.Waiting.TheVariants.{Nothing}
use Rattle.machine.specs.declared.Report.{Report}
use Rattle.machine.specs.declared.Registers.{Registers}
use Rattle.machine.specs.declared.Machine.{Machine}
use Rattle.machine.specs.declared.Words.{Words}
use Rattle.machine.specs.declared.Effect.{Effect}
use Rattle.machine.specs.Pins.{ien_high, both_low}
use Rattle.machine.specs.Seeing.{view_of}
use Rattle.machine.specs.Acting.{outcome_for, effect_of}
use Rattle.machine.specs.Settling.{with_waiting, upper_byte, UpperBytesKept, ram_after, acc_after, settled_of}
use Rattle.machine.specs.Judging.{word_about}
use Rattle.machine.specs.Cycles.{Turned, machine_of, effect_from, cycle_of, before, instruction_word, operand_word}
use Rattle.machine.proofs.Ways.{every_way}

ram_upper : (d : Destination) (k y : ℕ) (ram : List ℕ) → map upper_byte (ram_after d Byte k y ram) ≡ map upper_byte ram
ram_upper ToY k y ram = refl
ram_upper ToAcc k y ram = refl
ram_upper ToRam k y ram =
    map-set_same upper_byte ram (k % 32) (write_back 8 (get_or ram (k % 32) 0) y) 0 (written_high 8 (get_or ram (k % 32) 0) y)
ram_upper ToStatus k y ram = refl
ram_upper ToAccAndStatus k y ram = refl

acc_upper : (d : Destination) (y acc : ℕ) → upper_byte (acc_after d Byte y acc) ≡ upper_byte acc
acc_upper ToY y acc = refl
acc_upper ToAcc y acc = written_high 8 acc y
acc_upper ToRam y acc = refl
acc_upper ToStatus y acc = refl
acc_upper ToAccAndStatus y acc = written_high 8 acc y

-- a byte write keeps upper bytes, whatever it writes
module _ (k : ℕ) (r : Registers) (e : Effect) (pins : ℕ) where
  pub settled_ram_lem : map upper_byte (settled_of Byte k r e pins).ram ≡ map upper_byte r.ram
  unfolding settled_of
  settled_ram_lem = by_test (ien_high pins)
    where
      by_test : (b : Bool) → map upper_byte (pick b r.ram (ram_after e.destination Byte k e.result r.ram)) ≡ map upper_byte r.ram
      by_test true = refl
      by_test false = ram_upper e.destination k e.result r.ram

  pub settled_acc_lem : upper_byte (settled_of Byte k r e pins).acc ≡ upper_byte r.acc
  unfolding settled_of
  settled_acc_lem = by_test (ien_high pins)
    where
      by_test : (b : Bool) → upper_byte (pick b r.acc (acc_after e.destination Byte e.result r.acc)) ≡ upper_byte r.acc
      by_test true = refl
      by_test false = acc_upper e.destination e.result r.acc

-- a cycle about a word with the byte mark keeps the upper byte of every RAM word and of ACC
module _ (m : Machine) (c : Words) (mark : mark_of (instruction_word m c) ≡ 0) where
  -- the instruction's mode is byte
  byte : (plan_of (named_by (instruction_word m c))).mode ≡ Byte
  unfolding plan_of
  byte = ap mode_of mark

  pub byte_keeps : UpperBytesKept m.registers (cycle_of m c).machine.registers
  byte_keeps = every_way m c (λ (t : Turned). UpperBytesKept m.registers t.machine.registers) (record {
    refuses = λ k n. record { ram = refl; acc = refl };
    waits = λ x i. record { ram = refl; acc = refl };
    performs = λ n.
        let p : Plan = plan_of (named_by (instruction_word m c)) in
        let e : Effect = effect_from p (before m c) (operand_word m c) in
        subst⁻¹ (λ (d : Mode). UpperBytesKept m.registers (settled_of d p.register (before m c) e c.pins)) byte
        (record { ram = settled_ram_lem p.register (before m c) e c.pins; acc = settled_acc_lem p.register (before m c) e c.pins });
  })

-- a word of a family without an I operand takes none
module _ (f : Family) (w : ℕ) (h : InFamily f w) where
  abbrev by_family : Family → Bool
  by_family f = asks_i (row_at (number_of f)) (field_a w) (field_b w)

  takes_none : by_family f ≡ false → takes_immediate w ≡ false
  unfolding takes_immediate decode_of
  takes_none none = by_test (eqb (refusal (word_checks w)) 0)
    where
      by_test : (b : Bool) → names_i (pick b (accepted (named_by w)) (refused (refusal (word_checks w)))).value ≡ false
      by_test true = ap by_family (family_in f w h) ∙ none
      by_test false = refl

no_immediate : (a b : ℕ) → asks_i (row_at (number_of Noop)) a b ≡ false
no_immediate a b = rw (zero-div (2 ^ a), zero-div (2 ^ (16 + b)))

-- Test and NOOP change no status, RAM or ACC: whatever the pins, the registers stay
module _ (mode : Mode) (n k : ℕ) (by : Chooser) (r : Registers) (immediate pins : ℕ) where
  stays : (a b : Bool) → record { ram = pick a r.ram r.ram; acc = pick a r.acc r.acc; latch = r.latch; status = pick b r.status r.status; waiting = Nothing } ≡ with_waiting r Nothing
  stays true true = refl
  stays true false = refl
  stays false true = refl
  stays false false = refl

  noop_stays : settled_of mode k r (effect_from (record { mode = mode; n = n; register = k; work = idle NoOperation by }) r immediate) pins ≡ with_waiting r Nothing
  unfolding settled_of effect_of outcome_for view_of
  noop_stays = stays (ien_high pins) (both_low pins)

  test_stays : settled_of mode k r (effect_from (record { mode = mode; n = n; register = k; work = idle TestStatus by }) r immediate) pins ≡ with_waiting r Nothing
  unfolding settled_of effect_of outcome_for view_of
  test_stays = stays (ien_high pins) (both_low pins)

-- an accepted cycle of a word of a family without an I operand leaves what settling its plan leaves
module _ (m : Machine) (c : Words) (rep : Report) (answered : (cycle_of m c).answer ≡ accepted rep) (f : Family) where
  abbrev w : ℕ
  w = instruction_word m c

  abbrev settled_as : Family → Registers
  settled_as g =
      settled_of (mode_of (mark_of w)) (field_c w % 32) (before m c)
      (effect_from (record { mode = mode_of (mark_of w); n = field_a w % 16; register = field_c w % 32; work = work_of g (field_a w % 16) (field_b w % 16) (field_c w % 32) })
      (before m c) (operand_word m c))
      c.pins

  settles : InFamily f w → asks_i (row_at (number_of f)) (field_a w) (field_b w) ≡ false → (cycle_of m c).machine ≡ machine_of (settled_as f)
  unfolding plan_of
  settles h none = every_way m c (λ (t : Turned). t.answer ≡ accepted rep → t.machine ≡ machine_of (settled_as f)) (record {
    refuses = λ k n e. absurd (accepted_refused rep k (sym e));
    waits = λ x i e.
        let same : w ≡ c.lines = ap (λ (x : Waiting). word_about x c.lines) x in
        absurd (never (sym (takes_none f w h none) ∙ ap takes_immediate same ∙ i));
    performs = λ n e. ap (λ (g : Family). machine_of (settled_as g)) (family_in f w h);
  }) answered

-- NOOP and Test leave every register as it was, but for D by DLE, and nothing waiting
module _ (m : Machine) (c : Words) (rep : Report) (answered : (cycle_of m c).answer ≡ accepted rep) where
  pub family_noop : InFamily Noop (instruction_word m c) → (cycle_of m c).machine ≡ machine_of (with_waiting (before m c) Nothing)
  unfolding work_of
  family_noop h = settles m c rep answered Noop h (no_immediate (field_a (instruction_word m c)) (field_b (instruction_word m c))) ∙ ap machine_of (noop_stays _ _ _ _ (before m c) _ c.pins)

  pub family_test : InFamily Test (instruction_word m c) → (cycle_of m c).machine ≡ machine_of (with_waiting (before m c) Nothing)
  unfolding work_of
  family_test h = settles m c rep answered Test h (no_immediate (field_a (instruction_word m c)) (field_b (instruction_word m c))) ∙ ap machine_of (test_stays _ _ _ _ (before m c) _ c.pins)
