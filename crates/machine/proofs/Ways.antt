-- The ways that a cycle can go: it is refused, or leaves its word waiting, or performs the instruction of the word that it is about. What
-- holds of each way holds of the cycle: `every_way`, at the end. A refusal has a number.
use mathlib.Core.Path.{◌≡◌, refl, ap}
use mathlib.Core.Bool.{Bool, true, false}
use Prim.Native.Nat.{ℕ}
use native.Mathlib.Omega.{arith}
use lib.Dec.{eqb}
use borrow.Author.Tests.{eqb-false}
use Rattle.choice.specs.Pick.{pick}
use Rattle.choice.specs.Checks.{refusal}
use Rattle.isa.specs.declared.Named.{Named}
use Rattle.isa.specs.Words.{named_by, takes_immediate}
use Rattle.plan.specs.Plans.{plan_of}
use Rattle.machine.specs.declared.Waiting.{Waiting}
use Rattle.machine.specs.declared.Waiting.TheVariants.{Nothing, Held}
use Rattle.machine.specs.declared.Machine.{Machine}
use Rattle.machine.specs.declared.Words.{Words}
use Rattle.machine.specs.Judging.{Refuse, Wait, waiting_words, perform, checks_of, word_about, operand_about, accepted_as, judgement_of}
use Rattle.machine.specs.Cycles.{Turned, refused_turn, waiting_turn, performed_turn, turn_of, before, cycle_of}

-- a word that waits is something
pub held_something : (w : ℕ) → Held w ≡ Nothing → ⊥
held_something w q =
    let one : ◌≡◌ {A = ℕ} 1 0 = ap waiting_words q in
    omega (arith, one)

module _ (m : Machine) (c : Words) where
  -- the instruction of the word that the cycle is about, with a word waiting or none
  abbrev named : Waiting → Named
  named x = named_by (word_about x c.lines)

  abbrev performed : Waiting → Turned
  performed x = performed_turn (named x) (plan_of (named x)) (before m c) (operand_about x c.lines) c.pins

  pub record Ways (x : Waiting) (P : Turned → Type 0) : Type 0 where
    pub refuses : (k : ℕ) → (k ≡ 0 → ⊥) → P (refused_turn m k)
    pub waits : x ≡ Nothing → takes_immediate c.lines ≡ true → P (waiting_turn (before m c) c)
    pub performs : (x ≡ Nothing → takes_immediate c.lines ≡ false) → P (performed x)

  module _ (P : Turned → Type 0) where
    accepted_way : (x : Waiting) → Ways x P → P (turn_of (accepted_as x c) m (before m c) c)
    accepted_way Nothing w = by_test (takes_immediate c.lines) refl
      where
        by_test : (b : Bool) → takes_immediate c.lines ≡ b → P (turn_of (pick b Wait (perform (named Nothing) 0)) m (before m c) c)
        by_test true e = w.waits refl e
        by_test false e = w.performs (λ z. e)
    accepted_way (Held x) w = w.performs (λ z. absurd (held_something x z))

    way_from : (x : Waiting) → Ways x P → P (turn_of (judgement_of x c) m (before m c) c)
    unfolding judgement_of
    way_from x w = by_test (eqb (refusal (checks_of x c)) 0) refl
      where
        by_test : (b : Bool) → eqb (refusal (checks_of x c)) 0 ≡ b → P (turn_of (pick b (accepted_as x c) (Refuse (refusal (checks_of x c)))) m (before m c) c)
        by_test true e = accepted_way x w
        by_test false e = w.refuses (refusal (checks_of x c)) (eqb-false (refusal (checks_of x c)) 0 e)

    pub every_way : Ways m.registers.waiting P → P (cycle_of m c)
    unfolding cycle_of
    every_way w = way_from m.registers.waiting w
