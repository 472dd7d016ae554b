use Rattle.std.proofs.Common.{◌∙◌}
use borrow.Author.Tests.{ne_eqb}
use Rattle.alu.specs.Operations.{priority}
use Rattle.alu.proofs.Fits.{zeros_counted}
use Rattle.alu.proofs.Mode.priority.Goals as goal

pub overflow_sub-result : goal.overflow_sub-result
overflow_sub-result c = (zeros_counted c.args.self c.args.x c.low-x.result c.width.result c.width.ensures c.low-x.ensures).0

pub returns-else-x-eq0 : goal.returns-else-x-eq0
unfolding priority
returns-else-x-eq0 c =
    (zeros_counted c.args.self c.args.x c.low-x.result c.width.result c.width.ensures c.low-x.ensures).1
    ∙ rw (← c.low-x.ensures, ne_eqb _ _ c.if-x-eq0.false, c.width.ensures.is)
