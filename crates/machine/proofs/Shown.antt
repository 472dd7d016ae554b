-- `shown_in_mask`, at the end: a reported mask is 0000, 00FF or FFFF, and Y has no bit outside it. Of a machine whose status is below 256,
-- as any machine's is: it is a byte.
use mathlib.Core.Path.{◌≡◌, refl, ◌∙◌, sym, ap, subst}
use mathlib.Core.Bool.{Bool, true, false}
use mathlib.Core.Logic.{◌⊎◌, inl, inr, ⊎_elim}
use Prim.Native.Nat.{ℕ, ◌≤◌, ◌<◌, zero-le, ◌-◌, ◌%◌, ◌^◌}
use native.Mathlib.Nat.{le_refl, mod-eq_of_lt}
use native.Mathlib.Omega.{arith}
use lib.Bits.{bit_and, and_mask, and_zero_l}
use Rattle.choice.specs.Pick.{pick}
use Rattle.choice.specs.Tells.{accepted}
use Rattle.choice.proofs.Tells.{accepted_one, accepted_refused}
use Rattle.alu.specs.declared.Mode.{Mode}
use Rattle.alu.specs.declared.Mode.TheVariants.{Byte, Word}
use Rattle.alu.specs.declared.Operation.{Operation}
use Rattle.alu.specs.Width.{width_of}
use Rattle.alu.specs.Operations.{outcome_of}
use Rattle.alu.proofs.Fits.{width_positive}
use Rattle.alu.proofs.Changes.{result_lt}
use Rattle.isa.specs.declared.Family.{Family}
use Rattle.isa.specs.declared.Family.TheVariants.{Tor1, Rotr1, Rotr2, Rotc, Rotm, Sor, Bor2, Tor2, Shftr, Crcf, Crcr, Prt1, Prt2, Prt3, Svstr, Sonr, Tonr, Shftnr, Bor1, Bonr, Rotnr, Prtnr, Svstnr, Setst, Rstst, Test, Noop}
use Rattle.isa.specs.declared.Named.{Named}
use Rattle.isa.specs.Words.{named_by}
use Rattle.plan.specs.declared.Shown.{Shown}
use Rattle.plan.specs.declared.Shown.TheVariants.{AtWidth, Whole, Nothing}
use Rattle.plan.specs.declared.Plan.{Plan}
use Rattle.plan.specs.Plans.{work_of, plan_of}
use Rattle.machine.specs.declared.Machine.{Machine}
use Rattle.machine.specs.declared.Words.{Words}
use Rattle.machine.specs.declared.View.{View}
use Rattle.machine.specs.declared.Report.{Report}
use Rattle.machine.specs.Pins.{oe_y_high}
use Rattle.machine.specs.Seeing.{view_of}
use Rattle.machine.specs.Acting.{width_mask, outcome_for, mask_of, effect_of}
use Rattle.machine.specs.Reporting.{KnownBits}
use Rattle.machine.specs.Cycles.{Turned, cycle_of, before, instruction_word, operand_word}
use Rattle.machine.proofs.Ways.{every_way}

width_fits : (mode : Mode) (o : Operation) (status : ℕ) → (outcome_of (width_of mode) o status).result ≤ width_mask mode
width_fits Byte o status = omega (arith, result_lt 8 (width_positive Byte) o status)
width_fits Word o status = omega (arith, result_lt 16 (width_positive Word) o status)

whole_fits : (mode : Mode) (o : Operation) (status : ℕ) → (outcome_of (width_of mode) o status).result ≤ 0xFFFF
whole_fits Byte o status = omega (arith, result_lt 8 (width_positive Byte) o status)
whole_fits Word o status = omega (arith, result_lt 16 (width_positive Word) o status)

-- the plan of some fields
abbrev planned : Mode → ℕ → ℕ → Family → ℕ → ℕ → ℕ → Plan
planned mode n k f a b c = record { mode = mode; n = n; register = k; work = work_of f a b c }

effect_fits : (f : Family) (mode : Mode) (n k a b c : ℕ) (v : View) → v.status < 256
    → (effect_of (planned mode n k f a b c) v).shown ≤ (effect_of (planned mode n k f a b c) v).mask
unfolding work_of effect_of outcome_for
effect_fits Tor1 mode n k a b c v h = width_fits mode _ v.status
effect_fits Rotr1 mode n k a b c v h = width_fits mode _ v.status
effect_fits Rotr2 mode n k a b c v h = width_fits mode _ v.status
effect_fits Rotc mode n k a b c v h = width_fits mode _ v.status
effect_fits Rotm mode n k a b c v h = width_fits mode _ v.status
effect_fits Sor mode n k a b c v h = width_fits mode _ v.status
effect_fits Bor2 mode n k a b c v h = width_fits mode _ v.status
effect_fits Tor2 mode n k a b c v h = width_fits mode _ v.status
effect_fits Shftr mode n k a b c v h = width_fits mode _ v.status
effect_fits Crcf mode n k a b c v h = width_fits mode _ v.status
effect_fits Crcr mode n k a b c v h = width_fits mode _ v.status
effect_fits Prt1 mode n k a b c v h = whole_fits mode _ v.status
effect_fits Prt2 mode n k a b c v h = whole_fits mode _ v.status
effect_fits Prt3 mode n k a b c v h = whole_fits mode _ v.status
effect_fits Svstr mode n k a b c v h = omega arith
effect_fits Sonr mode n k a b c v h = width_fits mode _ v.status
effect_fits Tonr mode n k a b c v h = width_fits mode _ v.status
effect_fits Shftnr mode n k a b c v h = width_fits mode _ v.status
effect_fits Bor1 mode n k a b c v h = width_fits mode _ v.status
effect_fits Bonr mode n k a b c v h = width_fits mode _ v.status
effect_fits Rotnr mode n k a b c v h = width_fits mode _ v.status
effect_fits Prtnr mode n k a b c v h = whole_fits mode _ v.status
effect_fits Svstnr mode n k a b c v h = omega arith
effect_fits Setst mode n k a b c v h = le_refl 0xFFFF
effect_fits Rstst mode n k a b c v h = zero-le
effect_fits Test mode n k a b c v h = zero-le
effect_fits Noop mode n k a b c v h = zero-le

-- the masks: none, a byte's, or all
masks_known : (s : Shown) (mode : Mode) → (mask_of s mode ≡ 0x0000) ⊎ ((mask_of s mode ≡ 0x00FF) ⊎ (mask_of s mode ≡ 0xFFFF))
masks_known AtWidth Byte = inr (inl refl)
masks_known AtWidth Word = inr (inr refl)
masks_known Whole mode = inr (inr refl)
masks_known Nothing mode = inl refl

-- a number that is no larger than such a mask has no bit outside it
known : (y mask : ℕ) → (mask ≡ 0x0000) ⊎ ((mask ≡ 0x00FF) ⊎ (mask ≡ 0xFFFF)) → y ≤ mask → KnownBits y mask
known y mask masks le = record {
  masks = masks;
  inside = ⊎_elim
      (λ e. let none : y ≡ 0 = omega (arith, le, e) in ap (λ (x : ℕ). bit_and x mask) none ∙ and_zero_l mask ∙ sym none)
      (⊎_elim (λ e. ap (bit_and y) e ∙ ones 8 (omega (arith, le, e))) (λ e. ap (bit_and y) e ∙ ones 16 (omega (arith, le, e)))) masks;
}
  where
    ones : (k : ℕ) → y < 2 ^ k → bit_and y (2 ^ k - 1) ≡ y
    ones k lt = and_mask y k ∙ mod-eq_of_lt lt

shown_or_not : (b : Bool) (y mask : ℕ) → KnownBits y mask → KnownBits (pick b 0 y) (pick b 0 mask)
shown_or_not true y mask h = known 0 0 (inl refl) zero-le
shown_or_not false y mask h = h

module _ (m : Machine) (c : Words) (small : m.registers.status < 256) where
  abbrev n : Named
  n = named_by (instruction_word m c)

  abbrev v : View
  v = view_of n.mode (n.c % 32) (before m c) (operand_word m c)

  effect_known : KnownBits (effect_of (plan_of n) v).shown (effect_of (plan_of n) v).mask
  unfolding plan_of effect_of view_of
  effect_known =
      known _ _ (masks_known (plan_of n).work.shown n.mode)
      (effect_fits n.family n.mode (n.a % 16) (n.c % 32) (n.a % 16) (n.b % 16) (n.c % 32) v small)

  told : (rep x : Report) → accepted x ≡ accepted rep → KnownBits x.y x.mask → KnownBits rep.y rep.mask
  told rep x e = subst (λ (s : Report). KnownBits s.y s.mask) (accepted_one x rep e)

  pub shown_in_mask : (rep : Report) → (cycle_of m c).answer ≡ accepted rep → KnownBits rep.y rep.mask
  unfolding plan_of
  shown_in_mask rep = every_way m c (λ (t : Turned). t.answer ≡ accepted rep → KnownBits rep.y rep.mask) (record {
    refuses = λ k n e. absurd (accepted_refused rep k (sym e));
    waits = λ x i e. told rep _ e (known 0 0 (inl refl) zero-le);
    performs = λ h e. told rep _ e (shown_or_not (oe_y_high c.pins) _ _ effect_known);
  })
