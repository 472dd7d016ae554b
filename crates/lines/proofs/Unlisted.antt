-- A number that is not in the table of refusals has no reason (docs/DECISIONS.md, 65).
use mathlib.Core.Path.{◌≡◌}
use mathlib.Core.Bool.{false}
use Prim.Native.Nat.{ℕ, ◌<◌}
use mathlib.Core.List.{[]}
use native.Mathlib.Omega.{arith}
use lib.Dec.{eqb}
use borrow.Author.Tests.{ne_eqb}
use Rattle.lines.specs.declared.remarks.Subject.TheVariants.{Whole}
use Rattle.lines.specs.Remarks.{means, meaning_of}

pub not_listed : (n : ℕ) → 14 < n → meaning_of n ≡ means n Whole []
unfolding meaning_of
not_listed n h =
    let other : (k : ℕ) → k < 15 → eqb n k ≡ false = λ k l. ne_eqb n k (λ e. absurd (omega arith)) in
    rw (other 1 (omega arith), other 2 (omega arith), other 3 (omega arith), other 4 (omega arith), other 5 (omega arith), other 6 (omega arith), other 7 (omega arith), other 8 (omega arith), other 9 (omega arith), other 10 (omega arith), other 11 (omega arith), other 12 (omega arith), other 13 (omega arith), other 14 (omega arith))
