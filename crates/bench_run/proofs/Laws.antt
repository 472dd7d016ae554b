-- No two outcomes satisfy the statement of a run told so.
use mathlib.Core.Path.{◌≡◌, ◌∙◌, sym}
use mathlib.Core.List.{List}
use Prim.Native.Nat.{ℕ}
use Rattle.run.specs.Courses.{Course}
use Rattle.bench_run.specs.Counting.{Counts}

pub counts_unique : (c : Course) (before : List ℕ) (r s : ℕ) (x y : List ℕ) → Counts c r before x → Counts c s before y → (r ≡ s) × (x ≡ y)
counts_unique c before r s x y f g = (f.accepted ∙ sym g.accepted, f.written ∙ sym g.written)
