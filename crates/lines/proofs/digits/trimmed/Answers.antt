-- `lines::digits::trimmed` meets its contract: a text of one digit, or of none, has no zero in front of another.
use Rattle.std.proofs.Common.{sym, ◌∙◌}
use Rattle.lines.proofs.Spelled.{trimmed_short}
use Rattle.lines.proofs.digits.trimmed.Goals as goal

pub returns-in_default : goal.returns-in_default
returns-in_default c = sym (trimmed_short c.loop-rest.rest.now c.in_default.len_below) ∙ c.loop-rest.invariant
