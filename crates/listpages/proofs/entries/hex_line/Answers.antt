-- `listpages::entries::hex_line` meets its contract: the digits, and the line's end.
use Rattle.std.proofs.Common.{refl}
use Rattle.lines.proofs.Answered.{makes_as}
use Rattle.listpages.proofs.Entered.{hex_filled}
use Rattle.listpages.proofs.entries.hex_line.Goals as goal

pub returns : goal.returns
returns c = makes_as (hex_filled c.args.word _ _ _ refl c.data_line.ensures) c.hand_over.ensures
