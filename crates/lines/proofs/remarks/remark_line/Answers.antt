-- `lines::remarks::remark_line` meets its contract: the name, and what is said.
use Rattle.std.proofs.Common.{append_assoc}
use Rattle.lines.specs.Remarks.{remark_line}
use Rattle.lines.proofs.Answered.{makes_as}
use Rattle.lines.proofs.remarks.remark_line.Goals as goal

pub returns : goal.returns
unfolding remark_line
returns c = makes_as (rw (c.put_remark.ensures, c.put_name.ensures.text, c.new-line.ensures) (simp append_assoc)) c.hand_over.ensures
