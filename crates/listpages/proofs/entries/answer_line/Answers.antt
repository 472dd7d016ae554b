-- `listpages::entries::answer_line` meets its contract: the word, or the refusal's line.
use Rattle.std.proofs.Common.{sym, ap, ◌∙◌, ℕ, Result}
use Rattle.refusals.specs.declared.Refused.{Refused}
use Rattle.listing.specs.Answers.{read_tells}
use Rattle.lines.specs.Lines.{refused_line, last_line}
use Rattle.lines.proofs.Answered.{makes_as}
use Rattle.listpages.specs.Entries.{answer_by}
use Rattle.listpages.proofs.entries.answer_line.Goals as goal

pub returns-in-Err : goal.returns-in-Err
unfolding last_line
returns-in-Err c =
    makes_as (ap (λ (k : ℕ). refused_line k c.in-Err.refused.index) c.from.ensures ∙ ap (λ (r : Result ℕ Refused). answer_by (read_tells r)) (sym c.in-Err.is)) c.last_line.ensures
