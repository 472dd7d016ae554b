-- Decisions over small fields: what a function answers arm by arm is one rule.
use mathlib.Core.Path.{◌≡◌, refl, ◌∙◌, sym, ap}
use mathlib.Core.Bool.{Bool, true, false}
use Prim.Native.Nat.{ℕ, zero, suc, ◌+◌, ◌<◌, ◌≤◌}
use native.Mathlib.Nat.{not-suc-le-zero}
use native.Mathlib.Omega.{arith}
use lib.Dec.{T, eqb, eqb→eq}
use borrow.Author.Tests.{eqb-true, eqb-false}
use Rattle.choice.specs.Along.{Along, Unless, same}
use Rattle.choice.proofs.Spans.{span, span_at}

-- what Along says at each number, at x
module _ {A : Type 0} (test : A → A → Bool) (sound : (r y : A) → test r y ≡ true → r ≡ y) where
  last : (n : ℕ) (f : ℕ → A) (x : ℕ) (r : A) → Unless (test r (f n)) x n → x < suc n → (x < n → r ≡ f x) → r ≡ f x
  last n f x r u h before = by_test (test r (f n)) (eqb x n) refl refl u
    where
      by_test : (b d : Bool) → test r (f n) ≡ b → eqb x n ≡ d → Unless b x n → r ≡ f x
      by_test true true q p u = sound r (f n) q ∙ sym (ap f (eqb-true x n p))
      by_test true false q p u = before (omega (arith, eqb-false x n p))
      by_test false d q p u = before (omega (arith, u))

  pub along_by : (n : ℕ) (f : ℕ → A) (x : ℕ) (r : A) → Along test n f x r → x < n → r ≡ f x
  along_by zero f x r a h = absurd (not-suc-le-zero h)
  along_by (suc n) f x r (a, u) h = last n f x r u h (along_by n f x r a)

pub same_eq : (b d : Bool) → same b d ≡ true → b ≡ d
same_eq true true e = refl
same_eq true false e = sym e
same_eq false true e = e
same_eq false false e = refl

pub along : (n : ℕ) (f : ℕ → ℕ) (x r : ℕ) → Along eqb n f x r → x < n → r ≡ f x
along = along_by eqb eqb-true

pub along_test : (n : ℕ) (f : ℕ → Bool) (x : ℕ) (r : Bool) → Along same n f x r → x < n → r ≡ f x
along_test = along_by same same_eq

-- z, y and x are in the stretches of zn numbers from zlo on, of yn from ylo on, and of xn from xlo on
abbrev pub Inside : ℕ → ℕ → ℕ → ℕ → ℕ → ℕ → ℕ → ℕ → ℕ → Type 0
Inside zlo zn ylo yn xlo xn z y x = (zlo ≤ z) × (z < zlo + zn) × (ylo ≤ y) × (y < ylo + yn) × (xlo ≤ x) × (x < xlo + xn)

-- two rules over three fields that agree over such a box
abbrev pub Agree : (ℕ → ℕ → ℕ → ℕ) → (ℕ → ℕ → ℕ → ℕ) → ℕ → ℕ → ℕ → ℕ → ℕ → ℕ → Bool
Agree f g zlo zn ylo yn xlo xn = span zlo zn (λ z. span ylo yn (λ y. span xlo xn (λ x. eqb (f z y x) (g z y x))))

pub box : (f g : ℕ → ℕ → ℕ → ℕ) (zlo zn ylo yn xlo xn : ℕ) → T (Agree f g zlo zn ylo yn xlo xn)
    → (z y x : ℕ) → Inside zlo zn ylo yn xlo xn z y x → f z y x ≡ g z y x
box f g zlo zn ylo yn xlo xn t z y x h =
    eqb→eq (f z y x) (g z y x)
    (span_at (λ x. eqb (f z y x) (g z y x)) xn xlo x
    (span_at (λ y. span xlo xn (λ x. eqb (f z y x) (g z y x))) yn ylo y
    (span_at (λ z. span ylo yn (λ y. span xlo xn (λ x. eqb (f z y x) (g z y x)))) zn zlo z t h.0 h.1)
    h.2 h.3)
    h.4 h.5)
