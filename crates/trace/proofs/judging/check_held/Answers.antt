-- `trace::judging::check_held` meets its contract: the high byte comes first.
use native.Mathlib.Omega.{arith}
use Rattle.trace.specs.Blocks.{check_held}
use Rattle.trace.proofs.judging.check_held.Goals as goal

pub returns : goal.returns
unfolding check_held
returns c = omega (arith, c.from_be_bytes.ensures)
