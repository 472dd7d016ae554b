-- When a number of a list of checks is given: exactly when its condition holds and no earlier one does.
-- The law: `exactly`.
use mathlib.Core.Path.{◌≡◌, refl, ◌∙◌, sym}
use mathlib.Core.Bool.{Bool, true, false}
use mathlib.Core.List.{List, [], ◌∷◌, ◌++◌}
use mathlib.Core.Logic.{◌↔◌}
use Prim.Native.Nat.{ℕ}
use lib.Dec.{T, eqb, leb}
use borrow.Author.Tests.{eq-eqb}
use Rattle.choice.specs.Checks.{Check, check, refusal, clear, without}
use Rattle.choice.proofs.Spans.{never}

-- a number from 1 on, by a test that computes
pub positive : (k : ℕ) → T (leb 1 k) → k ≡ 0 → ⊥
positive k t e = let h : T (leb 1 0) = rw e at t in absurd h

-- a number that no check of the list has is not given by it
other : (k : ℕ) (xs : List Check) → T (without k xs) → (k ≡ 0 → ⊥) → refusal xs ≡ k → ⊥
other k [] t n e = n (sym e)
other k (x ∷ xs) t n e = by_test (eqb x.number k) x.holds refl t e (λ t e. other k xs t n e)
  where
    by_test : (same holds : Bool) → eqb x.number k ≡ same
        → T (elim same [ true ↦ false | false ↦ without k xs ])
        → elim holds [ true ↦ x.number | false ↦ refusal xs ] ≡ k
        → (T (without k xs) → refusal xs ≡ k → ⊥) → ⊥
    by_test true holds q t e rest = absurd t
    by_test false true q t e rest = never (sym q ∙ eq-eqb x.number k e)
    by_test false false q t e rest = rest t e

-- where nothing is given, no check held
pub cleared : (k : ℕ) (b : Bool) (xs : List Check) → (k ≡ 0 → ⊥) → refusal (check k b ∷ xs) ≡ 0 → (b ≡ false) × (refusal xs ≡ 0)
cleared k true xs n e = absurd (n e)
cleared k false xs n e = (refl, e)

-- the first check holds, or does not
pub held : (k : ℕ) (b : Bool) (xs : List Check) → b ≡ true → refusal (check k b ∷ xs) ≡ k
held k true xs e = refl
held k false xs e = absurd (never e)

pub passed : (k : ℕ) (b : Bool) (xs : List Check) → b ≡ false → refusal (check k b ∷ xs) ≡ refusal xs
passed k true xs e = absurd (never (sym e))
passed k false xs e = refl

-- of two lists, one after the other, the first gives its number if it gives any, and else the second does; no check of the first has number 0
pub ahead : (xs ys : List Check) → (refusal xs ≡ 0 → ⊥) → refusal (xs ++ ys) ≡ refusal xs
ahead [] ys n = absurd (n refl)
ahead (x ∷ xs) ys n = by_test x.holds n (ahead xs ys)
  where
    by_test : (holds : Bool) → (refusal (check x.number holds ∷ xs) ≡ 0 → ⊥)
        → ((refusal xs ≡ 0 → ⊥) → refusal (xs ++ ys) ≡ refusal xs)
        → refusal (check x.number holds ∷ xs ++ ys) ≡ refusal (check x.number holds ∷ xs)
    by_test true n rest = refl
    by_test false n rest = rest n

pub behind : (xs ys : List Check) → T (without 0 xs) → refusal xs ≡ 0 → refusal (xs ++ ys) ≡ refusal ys
behind [] ys t e = refl
behind (x ∷ xs) ys t e = by_test (eqb x.number 0) x.holds refl t e (behind xs ys)
  where
    by_test : (same holds : Bool) → eqb x.number 0 ≡ same
        → T (elim same [ true ↦ false | false ↦ without 0 xs ])
        → refusal (check x.number holds ∷ xs) ≡ 0
        → (T (without 0 xs) → refusal xs ≡ 0 → refusal (xs ++ ys) ≡ refusal ys)
        → refusal (check x.number holds ∷ xs ++ ys) ≡ refusal ys
    by_test true holds q t e rest = absurd t
    by_test false true q t e rest = absurd (never (sym q ∙ eq-eqb x.number 0 e))
    by_test false false q t e rest = rest t e

-- a check of the list, by what stands before it and after it; no check after it has its number
module _ (k : ℕ) (b : Bool) (after : List Check) (positive : k ≡ 0 → ⊥) (last : T (without k after)) where
  pub given : (before : List Check) → T (clear before) → b ≡ true → refusal (before ++ check k b ∷ after) ≡ k
  given [] t e = rw e
  given (x ∷ before) t e = by_test x.holds t (λ t. given before t e)
    where
      by_test : (holds : Bool) → T (elim holds [ true ↦ false | false ↦ clear before ])
          → (T (clear before) → refusal (before ++ check k b ∷ after) ≡ k)
          → elim holds [ true ↦ x.number | false ↦ refusal (before ++ check k b ∷ after) ] ≡ k
      by_test true t rest = absurd t
      by_test false t rest = rest t

  here : (holds : Bool) → elim holds [ true ↦ k | false ↦ refusal after ] ≡ k → holds ≡ true
  here true e = refl
  here false e = absurd (other k after last positive e)

  pub only : (before : List Check) → T (without k before) → refusal (before ++ check k b ∷ after) ≡ k → T (clear before) × (b ≡ true)
  only [] t e = (tt, here b e)
  only (x ∷ before) t e = by_test (eqb x.number k) x.holds refl t e (λ t e. only before t e)
    where
      by_test : (same holds : Bool) → eqb x.number k ≡ same
          → T (elim same [ true ↦ false | false ↦ without k before ])
          → elim holds [ true ↦ x.number | false ↦ refusal (before ++ check k b ∷ after) ] ≡ k
          → (T (without k before) → refusal (before ++ check k b ∷ after) ≡ k → T (clear before) × (b ≡ true))
          → T (elim holds [ true ↦ false | false ↦ clear before ]) × (b ≡ true)
      by_test true holds q t e rest = absurd t
      by_test false true q t e rest = absurd (never (sym q ∙ eq-eqb x.number k e))
      by_test false false q t e rest = rest t e

  -- number k is given exactly when its condition holds and none before it does
  pub exactly : (before : List Check) → T (without k before) → (refusal (before ++ check k b ∷ after) ≡ k) ↔ (T (clear before) × (b ≡ true))
  exactly before t = (only before t, λ h. given before h.0 h.1)
