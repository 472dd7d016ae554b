use Rattle.std.proofs.Common.{arith}
use Rattle.listing.proofs.Finds.{only_lowest}
use Rattle.listing.proofs.reading.only_of.Goals as goal

pub returns-else-set-eq0 : goal.returns-else-set-eq0
returns-else-set-eq0 c = only_lowest c.args.set (omega arith) (omega arith)
