-- A test computed over a stretch of numbers, carried to each number of it.
use mathlib.Core.Path.{◌≡◌, refl, subst}
use mathlib.Core.Bool.{Bool, true, false, not}
use Prim.Native.Nat.{ℕ, zero, suc, ◌+◌, ◌<◌, ◌≤◌}
use native.Mathlib.Omega.{arith}
use lib.Dec.{T, eqb, eqb→eq}
use borrow.Author.Tests.{eqb-true, eqb-false}

pub never : false ≡ true → ⊥
never h = subst (λ (b : Bool). T (not b)) h tt

pub holds : (b : Bool) → T b → b ≡ true
holds true t = refl
holds false t = absurd t

-- the two parts of a test that stops at its first failure
pub both : (b d : Bool) → T (elim b [ true ↦ d | false ↦ false ]) → T b × T d
both true d t = (tt, t)
both false d t = absurd t

-- a test that is asked only where another holds
pub where_held : (b d : Bool) → T (elim b [ true ↦ d | false ↦ true ]) → b ≡ true → T d
where_held true d t h = t
where_held false d t h = absurd (never h)

-- f at each of the n numbers from lo on
abbrev pub span : ℕ → ℕ → (ℕ → Bool) → Bool
span lo zero f = true
span lo (suc n) f = elim (f lo) [ true ↦ span (suc lo) n f | false ↦ false ]

-- the first of a stretch, or one of the rest
split : (lo x : ℕ) (P : Type 0) → lo ≤ x → (lo ≡ x → P) → (suc lo ≤ x → P) → P
split lo x P h e l = by_test (eqb lo x) refl
  where
    by_test : (b : Bool) → eqb lo x ≡ b → P
    by_test true q = e (eqb-true lo x q)
    by_test false q = l (omega (arith, eqb-false lo x q))

pub span_at : (f : ℕ → Bool) (n lo x : ℕ) → T (span lo n f) → lo ≤ x → x < lo + n → T (f x)
span_at f zero lo x t h k = absurd (omega arith)
span_at f (suc n) lo x t h k =
    split lo x (T (f x)) h
    (λ e. subst (λ (y : ℕ). T (f y)) e (both (f lo) (span (suc lo) n f) t).0)
    (λ l. span_at f n (suc lo) x (both (f lo) (span (suc lo) n f) t).1 l (omega arith))

pub below : (f : ℕ → Bool) (n x : ℕ) → T (span 0 n f) → x < n → T (f x)
below f n x t h = span_at f n 0 x t (omega arith) (omega arith)

-- two functions that are the same at each number below n
pub equal_below : (f g : ℕ → ℕ) (n x : ℕ) → T (span 0 n (λ y. eqb (f y) (g y))) → x < n → f x ≡ g x
equal_below f g n x t h = eqb→eq (f x) (g x) (below (λ y. eqb (f y) (g y)) n x t h)
