-- `trace::judging::check_good` meets its contract: the check worked out and the check held are compared.
use Rattle.trace.proofs.Sound.{check_good_is}
use Rattle.trace.proofs.judging.check_good.Goals as goal

pub returns : goal.returns
returns c = check_good_is c.check.result c.check_held.result c.args.block.now c.check.ensures c.check_held.ensures
