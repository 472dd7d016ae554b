-- `lines::state_line` meets its contract: eight fields.
use Rattle.std.proofs.Common.{append_assoc}
use Rattle.choice.specs.Text.{hex}
use Rattle.lines.specs.Lines.{state_line}
use Rattle.lines.proofs.Answered.{makes_as}
use Rattle.lines.proofs.state_line.Goals as goal

pub returns : goal.returns
unfolding state_line hex
returns c = makes_as (rw (c.put_waiting.ensures.text, c.put-4.ensures.text, c.put_numeral.ensures.text, c.put-3.ensures.text, c.put_word-2.ensures.text, c.put-2.ensures.text, c.put_word.ensures.text, c.put.ensures.text, c.new-line.ensures) (simp append_assoc)) c.hand_over.ensures
