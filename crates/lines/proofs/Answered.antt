-- What makes text: all of it is made where there is room, and no two outcomes satisfy its statement.
use mathlib.Core.Path.{◌≡◌, refl, sym, ap, subst, ◌∙◌}
use mathlib.Core.List.{List, [], ◌++◌}
use Rattle.std.proofs.Common.{Option, Some}
use Prim.Native.Nat.{ℕ, ◌≤◌}
use native.Mathlib.Omega.{arith}
use lib.ListN.{length, drop}
use borrow.Author.Tests.{le-leb}
use Rattle.lines.specs.Answers.{Makes}

-- all of the text, where there is room
pub made_all : {text before : List ℕ} (n : ℕ) (after : List ℕ) → length text ≤ length before → n ≡ length text → after ≡ text ++ drop (length text) before
    → Makes text (Some n) before after
made_all {text = text} {before = before} n after h e f = record { told = rw (le-leb (length text) (length before) h) (ap Some e); written = rw (le-leb (length text) (length before) h) f }

-- the same of a text said otherwise
pub makes_as : {text other : List ℕ} {r : Option ℕ} {before after : List ℕ} → text ≡ other → Makes text r before after → Makes other r before after
makes_as {r = r} {before = before} {after = after} e m = subst (λ (l : List ℕ). Makes l r before after) e m

-- text that goes by a value, which is known
pub makes_by : {A : Type 0} (text : A → List ℕ) {x y : A} {r : Option ℕ} {before after : List ℕ} → x ≡ y → Makes (text y) r before after → Makes (text x) r before after
makes_by text e m = makes_as (sym (ap text e)) m

pub nothing_made : (before : List ℕ) → Makes [] (Some 0) before before
nothing_made before = made_all 0 before (omega arith) refl refl

pub makes_unique : (text before : List ℕ) (r s : Option ℕ) (after after' : List ℕ) → Makes text r before after → Makes text s before after'
    → (r ≡ s) × (after ≡ after')
makes_unique text before r s after after' f g = (f.told ∙ sym g.told, f.written ∙ sym g.written)

-- a text that fits is made, all of it
pub made_fits : (text : List ℕ) (r : Option ℕ) (before after : List ℕ) → Makes text r before after → length text ≤ length before
    → (r ≡ Some (length text)) × (after ≡ text ++ drop (length text) before)
made_fits text r before after m h = makes_unique text before r (Some (length text)) after (text ++ drop (length text) before) m (made_all (length text) _ h refl refl)
