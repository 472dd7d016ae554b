-- `trace::making::put_words` meets its contract: the bytes so far, and those of the words still to come, are all the bytes.
use mathlib.Core.Path.{◌≡◌}
use mathlib.Core.List.{◌++◌}
use Prim.Native.Nat.{◌*◌}
use lib.ListN.{take, drop}
use Rattle.trace.specs.Layout.{bytes_of}
use Rattle.trace.proofs.making.put_words.Given as goal

abbrev pub invariant-loop-i : goal.invariant-loop-i
invariant-loop-i l = take (2 * l.i) l.area ++ bytes_of (drop l.i l.words) ≡ bytes_of l.words
