-- `trace::check` meets its contract: the fold of the bytes still to come, from the register so far, is the check of all.
use mathlib.Core.Path.{sym}
use Rattle.trace.proofs.Folded.{check_fold}
use Rattle.trace.proofs.check.Goals as goal

pub loop-byte-init : goal.loop-byte-init
loop-byte-init c = sym (check_fold c.args.bytes.now)
