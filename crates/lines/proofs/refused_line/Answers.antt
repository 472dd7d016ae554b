-- `lines::refused_line` meets its contract: four fields.
use Rattle.std.proofs.Common.{append_assoc}
use Rattle.lines.specs.Lines.{refused_line}
use Rattle.lines.proofs.Answered.{makes_as}
use Rattle.lines.proofs.refused_line.Goals as goal

pub returns : goal.returns
unfolding refused_line
returns c = makes_as (rw (c.put_decimal-2.ensures.text, c.put-2.ensures.text, c.put_decimal.ensures.text, c.put.ensures.text, c.new-line.ensures) (simp append_assoc)) c.hand_over.ensures
