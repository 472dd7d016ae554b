-- What is told fixes what was answered: an accepted answer its value, a refused one its number.
use mathlib.Core.Path.{◌≡◌, refl, ap, sym}
use mathlib.Core.Bool.{Bool, true, false}
use mathlib.Core.List.{List, ◌∷◌}
use mathlib.Core.Option.{some-injective, some-ne-none}
use Prim.Native.Nat.{ℕ}
use lib.Dec.{eqb}
use borrow.Author.Tests.{eqb-true, eqb-false, eq-eqb, ne_eqb}
use Rattle.choice.specs.Pick.{pick}
use Rattle.choice.specs.Checks.{Check, check, refusal}
use Rattle.choice.specs.Tells.{Tells, accepted, refused, tells, Placed, accepted_whole, refused_at}
use Rattle.choice.proofs.Spans.{never}

module _ {A : Type 0} where
  pub accepted_one : (x y : A) → accepted x ≡ accepted y → x ≡ y
  accepted_one x y e = some-injective x y (ap (λ (t : Tells A). t.value) e)

  pub refused_one : (j k : ℕ) → refused {A = A} j ≡ refused k → j ≡ k
  refused_one j k e = ap (λ (t : Tells A). t.number) e

  pub accepted_refused : (x : A) (k : ℕ) → accepted x ≡ refused k → ⊥
  accepted_refused x k e = some-ne-none x (ap (λ (t : Tells A). t.value) e)

  -- and likewise of an answer with a place
  pub whole_one : (x y : A) → accepted_whole x ≡ accepted_whole y → x ≡ y
  whole_one x y e = accepted_one x y (ap (λ (p : Placed A). p.told) e)

  pub refused_at_one : (j k a b : ℕ) → refused_at {A = A} j a ≡ refused_at k b → (j ≡ k) × (a ≡ b)
  refused_at_one j k a b e = (ap (λ (p : Placed A). p.told.number) e, ap (λ (p : Placed A). p.index) e)

  pub whole_refused : (x : A) (k i : ℕ) → accepted_whole x ≡ refused_at k i → ⊥
  whole_refused x k i e = accepted_refused x k (ap (λ (p : Placed A). p.told) e)

  -- the answers that a list of checks leads to: at its first check, past it, and at its end
  pub tells_refused : (k : ℕ) (x : A) → (k ≡ 0 → ⊥) → tells k x ≡ refused k
  tells_refused k x n = rw (ne_eqb k 0 n)

  pub tells_accepted : (k : ℕ) (x : A) → k ≡ 0 → tells k x ≡ accepted x
  tells_accepted k x e = rw (eq-eqb k 0 e)

  pub first_held : (k : ℕ) (b : Bool) (xs : List Check) (x : A) → (k ≡ 0 → ⊥) → b ≡ true → tells (refusal (check k b ∷ xs)) x ≡ refused k
  first_held k true xs x n e = tells_refused k x n
  first_held k false xs x n e = absurd (never e)

  pub first_clear : (k : ℕ) (b : Bool) (xs : List Check) (x : A) → b ≡ false → tells (refusal (check k b ∷ xs)) x ≡ tells (refusal xs) x
  first_clear k true xs x e = absurd (never (sym e))
  first_clear k false xs x e = refl

  -- what was told says whether there was a refusal
  pub told_accepted : (k : ℕ) (x y : A) → tells k x ≡ accepted y → (k ≡ 0) × (x ≡ y)
  told_accepted k x y e = by_test (eqb k 0) refl e
    where
      by_test : (b : Bool) → eqb k 0 ≡ b → pick b (accepted x) (refused k) ≡ accepted y → (k ≡ 0) × (x ≡ y)
      by_test true q e = (eqb-true k 0 q, accepted_one x y e)
      by_test false q e = absurd (accepted_refused y k (sym e))

  pub told_number : (k : ℕ) (x : A) → (tells k x).number ≡ k
  told_number k x = by_test (eqb k 0) refl
    where
      by_test : (b : Bool) → eqb k 0 ≡ b → (pick b (accepted x) (refused k)).number ≡ k
      by_test true q = sym (eqb-true k 0 q)
      by_test false q = refl

  pub told_refused : (k j : ℕ) (x : A) → tells k x ≡ refused j → (k ≡ j) × (k ≡ 0 → ⊥)
  told_refused k j x e = by_test (eqb k 0) refl e
    where
      by_test : (b : Bool) → eqb k 0 ≡ b → pick b (accepted x) (refused k) ≡ refused j → (k ≡ j) × (k ≡ 0 → ⊥)
      by_test true q e = absurd (accepted_refused x j e)
      by_test false q e = (refused_one k j e, eqb-false k 0 q)
