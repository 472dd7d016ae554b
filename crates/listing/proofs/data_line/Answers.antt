use Rattle.std.proofs.Common.{ap, ◌∙◌}
use Rattle.listing.specs.Answers.{fill, data_into}
use Rattle.listing.proofs.Hex.{digits_are}
use Rattle.listing.proofs.data_line.Goals as goal

pub returns : goal.returns
unfolding data_into
returns c = c.fill.ensures ∙ ap (λ line. fill line c.args.out.now) (c.digits_of.ensures ∙ digits_are c.args.operand)
