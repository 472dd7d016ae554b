-- `lines::counted_line` meets its contract: two fields.
use Rattle.std.proofs.Common.{append_assoc}
use Rattle.lines.proofs.Answered.{makes_as}
use Rattle.lines.proofs.counted_line.Goals as goal

pub returns : goal.returns
returns c = makes_as (rw (c.put_decimal.ensures.text, c.put.ensures.text, c.new-line.ensures) (simp append_assoc)) c.hand_over.ensures
