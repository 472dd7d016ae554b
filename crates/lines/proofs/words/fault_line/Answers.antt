-- `lines::words::fault_line` meets its contract: six texts.
use Rattle.std.proofs.Common.{append_assoc}
use Rattle.lines.specs.Words.{fault_line}
use Rattle.lines.proofs.Answered.{makes_as}
use Rattle.lines.proofs.words.fault_line.Goals as goal

pub returns : goal.returns
unfolding fault_line
returns c = makes_as (rw (c.put_expected.ensures, c.put-3.ensures.text, c.put_decimal-2.ensures.text, c.put-2.ensures.text, c.put_decimal.ensures.text, c.put.ensures.text, c.new-line.ensures) (simp append_assoc)) c.hand_over.ensures
