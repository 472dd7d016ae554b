-- `lines::register_line` meets its contract: nothing, or two fields.
use Rattle.std.proofs.Common.{append_assoc}
use Rattle.std.proofs.Common.{eq-eqb, ne_eqb}
use Rattle.lines.specs.Lines.{register_line}
use Rattle.lines.proofs.Answered.{makes_as, nothing_made}
use Rattle.lines.proofs.register_line.Goals as goal

pub returns-then-value-eq0 : goal.returns-then-value-eq0
unfolding register_line
returns-then-value-eq0 c = rw (eq-eqb _ _ c.if-value-eq0.true) (nothing_made c.args.out.now)

pub returns : goal.returns
unfolding register_line
returns c = makes_as (rw (ne_eqb _ _ c.if-value-eq0.false, c.put_word.ensures.text, c.put-2.ensures.text, c.put_numeral.ensures.text, c.put.ensures.text, c.new-line.ensures) (simp append_assoc)) c.hand_over.ensures
