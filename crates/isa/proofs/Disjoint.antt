-- No two rows take the same fields: a test over the pairs of rows, and what it says of every word.
use mathlib.Core.Path.{◌≡◌, refl, ◌∙◌, sym, ap}
use mathlib.Core.Bool.{Bool, true, false, not}
use Prim.Native.Nat.{ℕ, ◌<◌, ◌/◌, ◌%◌, ◌^◌, min}
use native.Mathlib.Nat.{zero-div}
use native.Mathlib.Omega.{arith}
use lib.Dec.{T, eqb}
use lib.Bits.{bit_and, and_shr, and_step}
use borrow.Author.Tests.{eqb-true, eq-eqb}
use Rattle.choice.specs.Pick.{pick}
use Rattle.choice.proofs.Spans.{span, below, never, holds}
use Rattle.isa.specs.declared.Row.{Row}
use Rattle.isa.specs.Sets.{has}
use Rattle.isa.specs.Table.{row_at, no_row}
use Rattle.isa.specs.Slots.{takes}
use Rattle.isa.proofs.Takes.{Taken, taken}

-- two sets with a value in common have a bit in common
pub meet : (s t k : ℕ) → has s k ≡ true → has t k ≡ true → bit_and s t ≡ 0 → ⊥
meet s t k hs ht z =
    let x = s / 2 ^ k in
    let y = t / 2 ^ k in
    let xs : x % 2 ≡ 1 = eqb-true (x % 2) 1 hs in
    let ys : y % 2 ≡ 1 = eqb-true (y % 2) 1 ht in
    let e : bit_and x y ≡ 0 = sym (and_shr s t k) ∙ ap (λ (n : ℕ). n / 2 ^ k) z ∙ zero-div (2 ^ k) in
    let b : min (x % 2) (y % 2) ≡ 1 = rw (xs, ys) in
    omega (arith, and_step x y)

-- a test of every set of two rows, which fails where one is disjoint
shared : Row → Row → Bool
shared r s =
    pick (eqb r.quadrant s.quadrant)
    (pick (eqb (bit_and r.a s.a) 0) false
    (pick (eqb (bit_and r.b s.b) 0) false
    (pick (eqb (bit_and r.c s.c) 0) false
    (pick (eqb (bit_and r.modes s.modes) 0) false true))))
    false

apart : ℕ → ℕ → Bool
apart i j = elim (eqb i j) [ true ↦ true | false ↦ not (shared (row_at i) (row_at j)) ]

all_apart : T (span 0 no_row (λ i. span 0 no_row (λ j. apart i j)))
unfolding apart shared
all_apart = tt

differ : (s t k : ℕ) → has s k ≡ true → has t k ≡ true → eqb (bit_and s t) 0 ≡ false
differ s t k hs ht = by_test (eqb (bit_and s t) 0) refl
  where
    by_test : (b : Bool) → eqb (bit_and s t) 0 ≡ b → b ≡ false
    by_test true q = absurd (meet s t k hs ht (eqb-true (bit_and s t) 0 q))
    by_test false q = refl

-- two rows that take the same fields share a value in every set
sharing_all : (r s : Row) (mark a b c : ℕ) → r.quadrant ≡ s.quadrant → Taken r mark a b c → Taken s mark a b c → shared r s ≡ true
unfolding shared
sharing_all r s mark a b c e t u =
    rw (
      eq-eqb r.quadrant s.quadrant e,
      differ r.a s.a a t.in_a u.in_a,
      differ r.b s.b b t.in_b u.in_b,
      differ r.c s.c c t.in_c u.in_c,
      differ r.modes s.modes mark t.mode u.mode,
    )

-- at most one row takes a word's fields
pub one_row : (i j mark a b c : ℕ) → i < no_row → j < no_row → (row_at i).quadrant ≡ (row_at j).quadrant
    → takes (row_at i) mark a b c ≡ true → takes (row_at j) mark a b c ≡ true → i ≡ j
unfolding apart
one_row i j mark a b c hi hj e t u = by_test (eqb i j) refl (below (λ j. apart i j) no_row j (below (λ i. span 0 no_row (λ j. apart i j)) no_row i all_apart hi) hj)
  where
    by_test : (x : Bool) → eqb i j ≡ x → T (elim x [ true ↦ true | false ↦ not (shared (row_at i) (row_at j)) ]) → i ≡ j
    by_test true q h = eqb-true i j q
    by_test false q h =
        absurd (never (sym (ap not (sharing_all (row_at i) (row_at j) mark a b c e (taken (row_at i) mark a b c t) (taken (row_at j) mark a b c u))) ∙ holds (not (shared (row_at i) (row_at j))) h))
