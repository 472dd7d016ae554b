-- For the contracts of private parts alone, decisions over a small field: a function's answer said value by value.
use Prim.{Unit}
use Rattle.std.specs.Prelude.{◌≡◌, Bool, true, false, ℕ, zero, suc}

-- two tests are the same
abbrev pub same : Bool → Bool → Bool
same true true = true
same true false = false
same false true = false
same false false = true

-- x is not k, unless the test holds
abbrev pub Unless : Bool → ℕ → ℕ → Type 0
Unless true x k = Unit {0}
Unless false x k = x ≡ k → ⊥

-- r is f at x, for x below n: at each number k below n where r is not f k, by the test that is named, x is not k
abbrev pub Along : {A : Type 0} → (A → A → Bool) → ℕ → (ℕ → A) → ℕ → A → Type 0
Along test zero f x r = Unit {0}
Along test (suc n) f x r = Along test n f x r × Unless (test r (f n)) x n
