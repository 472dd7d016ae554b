-- `isa::fields::holds` meets its contract: past bit 31 there is no value.
use mathlib.Core.Path.{◌∙◌}
use borrow.Author.Tests.{le-ltb}
use borrow.Author.Rules.{rules}
use Rattle.isa.proofs.Values.{past}
use Rattle.isa.proofs.fields.holds.Goals as goal

pub returns-else-k-lt32 : goal.returns-else-k-lt32
returns-else-k-lt32 c = le-ltb c.args.k 32 c.if-k-lt32.false ∙ past 32 c.args.set c.args.k (search rules) c.if-k-lt32.false
