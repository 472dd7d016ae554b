-- No two outcomes satisfy the statement of a reading told so.
use mathlib.Core.Path.{◌≡◌, ◌∙◌, sym}
use mathlib.Core.List.{List}
use Prim.Native.Nat.{ℕ}
use Rattle.bench_trace.specs.Filling.{FillsFrom}

pub fills_from_unique : (trace before : List ℕ) (r s : ℕ) (x y : List ℕ) → FillsFrom trace r before x → FillsFrom trace s before y → (r ≡ s) × (x ≡ y)
fills_from_unique trace before r s x y f g = (f.filled ∙ sym g.filled, f.written ∙ sym g.written)
