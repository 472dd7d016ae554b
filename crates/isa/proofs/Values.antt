-- Sets of values as bits.
use mathlib.Core.Path.{◌≡◌, refl, ◌∙◌, sym, ap}
use mathlib.Core.Bool.{Bool, true, false}
use lib.Dec.{ltb}
use Prim.Native.Nat.{ℕ, ◌<◌, ◌≤◌, ◌/◌, ◌%◌, ◌^◌}
use native.Mathlib.Nat.{lt_of_lt_of_le, pow-le-pow_right, div-eq_of_lt}
use native.Mathlib.Omega.{arith}
use borrow.Author.Tests.{ne_eqb, ltb-true, ltb-false}
use Rattle.choice.proofs.Spans.{never}
use Rattle.isa.specs.Sets.{has}

-- a set of n bits holds no value from n on
pub past : (n s k : ℕ) → s < 2 ^ n → n ≤ k → false ≡ has s k
past n s k h l =
    let z : s / 2 ^ k ≡ 0 = div-eq_of_lt (lt_of_lt_of_le h (pow-le-pow_right (omega arith) l)) in
    sym (ne_eqb (s / 2 ^ k % 2) 1 (λ e. let q : 0 ≡ 1 = sym (ap (λ (x : ℕ). x % 2) z) ∙ e in omega arith))

pub within : (n s k : ℕ) → s < 2 ^ n → has s k ≡ true → k < n
within n s k h t = by_test (ltb k n) refl
  where
    by_test : (b : Bool) → ltb k n ≡ b → k < n
    by_test true q = ltb-true k n q
    by_test false q = absurd (never (past n s k h (ltb-false k n q) ∙ t))
