-- `trace::check` meets its contract: the fold of the bytes still to come, from the register so far, is the check of all.
use mathlib.Core.Path.{◌≡◌}
use lib.ListN.{drop}
use Rattle.trace.specs.Check.{check_of}
use Rattle.trace.specs.Folding.{fold_bytes}
use Rattle.trace.proofs.check.Given as goal

abbrev pub invariant-loop-byte : goal.invariant-loop-byte
invariant-loop-byte l = fold_bytes l.register (drop l.byte-index l.bytes) ≡ check_of l.bytes
