-- `lines::digits::spell` meets its contract: the digits still to come, and those that stand, are all.
use mathlib.Core.List.{◌++◌}
use mathlib.Core.Path.{◌≡◌}
use Prim.Native.Nat.{◌≤◌}
use lib.ListN.{length, drop}
use Rattle.choice.specs.Text.{numeral}
use Rattle.lines.proofs.digits.spell.Given as goal

abbrev pub invariant-loop-i : goal.invariant-loop-i
invariant-loop-i l = (l.i ≤ length l.part) × (length l.part ≡ length l.initial.part) × (numeral l.base l.i l.rest ++ drop l.i l.part ≡ numeral l.base (length l.initial.part) l.x)

abbrev pub decreases-loop-i : goal.decreases-loop-i
decreases-loop-i l = l.i
