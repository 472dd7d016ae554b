-- `lines::cycle_line` meets its contract: five fields.
use Rattle.std.proofs.Common.{append_assoc}
use Rattle.lines.specs.Lines.{cycle_line}
use Rattle.lines.proofs.Answered.{makes_as}
use Rattle.lines.proofs.cycle_line.Goals as goal

pub returns : goal.returns
unfolding cycle_line
returns c = makes_as (rw (c.put_digit-2.ensures.text, c.put_digit.ensures.text, c.put_word-2.ensures.text, c.put_word.ensures.text, c.put_decimal.ensures.text, c.new-line.ensures) (simp append_assoc)) c.hand_over.ensures
