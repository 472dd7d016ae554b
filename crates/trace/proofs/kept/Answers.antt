-- `trace::kept` meets its contract: a short input is kept, a long one by its remainder.
use Rattle.trace.proofs.Long.{kept_short, kept_long}
use Rattle.trace.proofs.kept.Goals as goal

pub returns-then-length-lt-TOO_LONG : goal.returns-then-length-lt-TOO_LONG
returns-then-length-lt-TOO_LONG c = kept_short 3 c.args.length c.if-length-lt-TOO_LONG.true

pub returns-else-length-lt-TOO_LONG : goal.returns-else-length-lt-TOO_LONG
returns-else-length-lt-TOO_LONG c = kept_long 3 c.args.length c.if-length-lt-TOO_LONG.false
