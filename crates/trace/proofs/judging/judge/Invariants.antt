-- `trace::judging::judge` meets its contract: the judgement of the blocks still to come, with the records so far, is that of all.
use mathlib.Core.Path.{◌≡◌}
use Prim.Native.Nat.{◌*◌, ◌≤◌}
use Rattle.trace.proofs.Judged.{judged_from}
use Rattle.trace.proofs.judging.judge.Given as goal

abbrev pub invariant-loop-k : goal.invariant-loop-k
invariant-loop-k l = (l.records ≤ 255 * l.k) × (judged_from 3 l.blocks l.k l.records ≡ judged_from 3 l.blocks 0 0)
