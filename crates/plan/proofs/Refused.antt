-- What 8 and 9 mean by the plan: of a named instruction of the list, `eight_planned` and `nine_planned`; of a word that a family takes,
-- `word_eight_planned` and `word_nine_planned`. So the rules of isa's table are those that document 01 tells.
-- A further law: `never_acc_twice`.
use mathlib.Core.Path.{◌≡◌, refl, ◌∙◌, sym, ap}
use mathlib.Core.Bool.{true, false}
use mathlib.Core.Logic.{◌↔◌}
use Prim.Native.Nat.{ℕ, ◌<◌}
use native.Mathlib.Omega.{arith}
use lib.Dec.{eqb, ltb}
use borrow.Author.Tests.{eqb-true, ltb-true, lt-ltb}
use Rattle.alu.specs.declared.Mode.{Mode}
use Rattle.alu.specs.declared.Mode.TheVariants.{Byte, Word}
use Rattle.choice.specs.Pick.{pick}
use Rattle.choice.specs.Tells.{Tells, accepted}
use Rattle.choice.proofs.Spans.{never}
use Rattle.isa.specs.declared.Family.{Family}
use Rattle.isa.specs.declared.Named.{Named}
use Rattle.isa.specs.declared.Row.{Row}
use Rattle.isa.specs.Fields.{mark_for}
use Rattle.isa.specs.Table.{bit_in_mode, numbered}
use Rattle.isa.specs.Words.{InFamily, named_by, named_row, acc_twice, bit_too_high, decode_of, encode_of, Listed}
use Rattle.isa.proofs.Laws.{encode_takes, named_eight, named_nine, named_in, number_of_named}
use Rattle.isa.proofs.Takes.{in_turn}
use Rattle.plan.specs.declared.Source.{Source}
use Rattle.plan.specs.declared.Source.TheVariants.{Zero, Ram, Acc, Latch, Immediate, LatchZeroExtended, LatchSignExtended}
use Rattle.plan.specs.declared.Task.{Task}
use Rattle.plan.specs.declared.Task.TheVariants.{NoOperation, TwoOperand, OneOperand, Bit, Shift, Rotate, Merge, Compare, Prioritize, CrcForward, CrcReverse, SaveStatus, SetStatus, ResetStatus, TestStatus}
use Rattle.plan.specs.declared.Work.{Work}
use Rattle.plan.specs.Plans.{plan_of}
use Rattle.plan.specs.Reading.{is_bit, is_prioritize, is_acc, acc_under_acc}
use Rattle.plan.proofs.Laws.{plan_n, acc_agrees, bit_agrees}

of_prioritize : (t : Task) → is_prioritize t ≡ true → t ≡ Prioritize
of_prioritize NoOperation h = absurd (never h)
of_prioritize (TwoOperand k) h = absurd (never h)
of_prioritize (OneOperand k) h = absurd (never h)
of_prioritize (Bit k) h = absurd (never h)
of_prioritize (Shift k) h = absurd (never h)
of_prioritize Rotate h = absurd (never h)
of_prioritize Merge h = absurd (never h)
of_prioritize Compare h = absurd (never h)
of_prioritize Prioritize h = refl
of_prioritize CrcForward h = absurd (never h)
of_prioritize CrcReverse h = absurd (never h)
of_prioritize SaveStatus h = absurd (never h)
of_prioritize (SetStatus bits) h = absurd (never h)
of_prioritize (ResetStatus bits) h = absurd (never h)
of_prioritize TestStatus h = absurd (never h)

of_acc : (s : Source) → is_acc s ≡ true → s ≡ Acc
of_acc Zero h = absurd (never h)
of_acc Ram h = absurd (never h)
of_acc Acc h = refl
of_acc Latch h = absurd (never h)
of_acc Immediate h = absurd (never h)
of_acc LatchZeroExtended h = absurd (never h)
of_acc LatchSignExtended h = absurd (never h)

of_byte : (d : Mode) → eqb (mark_for d) 0 ≡ true → d ≡ Byte
of_byte Byte h = refl
of_byte Word h = absurd (never h)

-- the tests of a work and of a row, taken apart and put together
acc_under_acc_lem : (w : Work) → (acc_under_acc w ≡ true) ↔ ((w.task ≡ Prioritize) × (w.operands.first ≡ Acc) × (w.operands.mask ≡ Acc))
acc_under_acc_lem w = (
  λ h.
      let t = in_turn (is_prioritize w.task) (pick (is_acc w.operands.first) (is_acc w.operands.mask) false) h in
      let s = in_turn (is_acc w.operands.first) (is_acc w.operands.mask) t.1 in
      (of_prioritize w.task t.0, of_acc w.operands.first s.0, of_acc w.operands.mask s.1),
  λ h. rw (h.0, h.1, h.2),
)

bit_too_high_lem : (r : Row) (d : Mode) (a : ℕ) → (bit_too_high r (mark_for d) a ≡ true) ↔ ((eqb (numbered r.rule) (numbered bit_in_mode) ≡ true) × (d ≡ Byte) × (7 < a))
bit_too_high_lem r d a = (
  λ h.
      let t = in_turn (eqb (numbered r.rule) (numbered bit_in_mode)) (pick (eqb (mark_for d) 0) (ltb 7 a) false) h in
      let s = in_turn (eqb (mark_for d) 0) (ltb 7 a) t.1 in
      (t.0, of_byte d s.0, ltb-true 7 a s.1),
  λ h. rw (h.0, h.1, lt-ltb 7 a h.2),
)

-- a row has one rule
one_rule : (r : Row) (a b : ℕ) → eqb (numbered r.rule) (numbered bit_in_mode) ≡ true → acc_twice r a b ≡ false
one_rule r a b h = rw (eqb-true (numbered r.rule) (numbered bit_in_mode) h)

module _ (n : Named) (listed : Listed n) where
  -- 8: it prioritizes ACC under ACC
  pub eight_planned : ((encode_of n).number ≡ 8)
      ↔ (((plan_of n).work.task ≡ Prioritize) × ((plan_of n).work.operands.first ≡ Acc) × ((plan_of n).work.operands.mask ≡ Acc))
  eight_planned =
      let e = named_eight n in
      let p = acc_under_acc_lem (plan_of n).work in
      (λ h. p.0 (acc_agrees n listed ∙ (e.0 h).1), λ h. e.1 (listed, sym (acc_agrees n listed) ∙ p.1 h))

  -- 9: it is a bit operation in byte mode, with n over 7
  pub nine_planned : ((encode_of n).number ≡ 9) ↔ ((is_bit (plan_of n).work.task ≡ true) × ((plan_of n).mode ≡ Byte) × (7 < (plan_of n).n))
  unfolding plan_of
  nine_planned =
      let e = named_nine n in
      let p = bit_too_high_lem (named_row n) n.mode n.a in
      let rule = bit_agrees n listed in (
        λ h.
            let t = p.0 (e.0 h).2 in
            (rule ∙ t.0, t.1, rw (plan_n n listed) t.2),
        λ h.
            let t = sym rule ∙ h.0 in
            e.1 (listed, one_rule (named_row n) n.a n.b t, p.1 (t, h.1, rw (plan_n n listed) at h.2)),
      )

-- and of a word
module _ (f : Family) (w : ℕ) (h : w < 0x10000) (t : InFamily f w) where
  pub word_eight_planned : ((decode_of w).number ≡ 8)
      ↔ (((plan_of (named_by w)).work.task ≡ Prioritize) × ((plan_of (named_by w)).work.operands.first ≡ Acc) × ((plan_of (named_by w)).work.operands.mask ≡ Acc))
  word_eight_planned =
      let e = eight_planned (named_by w) (named_in f w h t) in
      let same = number_of_named f w h t in
      (λ k. e.0 (same ∙ k), λ p. sym same ∙ e.1 p)

  pub word_nine_planned : ((decode_of w).number ≡ 9)
      ↔ ((is_bit (plan_of (named_by w)).work.task ≡ true) × ((plan_of (named_by w)).mode ≡ Byte) × (7 < (plan_of (named_by w)).n))
  word_nine_planned =
      let e = nine_planned (named_by w) (named_in f w h t) in
      let same = number_of_named f w h t in
      (λ k. e.0 (same ∙ k), λ p. sym same ∙ e.1 p)

-- so an accepted instruction never prioritizes ACC under ACC
pub never_acc_twice : (n : Named) (w : ℕ) → encode_of n ≡ accepted w
    → (plan_of n).work.task ≡ Prioritize → (plan_of n).work.operands.first ≡ Acc → (plan_of n).work.operands.mask ≡ Acc → ⊥
never_acc_twice n w e t f g =
    let eight : (encode_of n).number ≡ 8 = (eight_planned n (encode_takes n w e)).1 (t, f, g) in
    let none : (encode_of n).number ≡ 0 = ap (λ (t : Tells ℕ). t.number) e in
    omega (arith, eight, none)
