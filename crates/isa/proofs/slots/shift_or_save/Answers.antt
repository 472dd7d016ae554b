-- `isa::slots::shift_or_save` meets its contract: B 10 aside, a shift is told by its list.
use mathlib.Core.Path.{◌∙◌, sym, ap}
use mathlib.Core.Bool.{Bool}
use borrow.Author.Tests.{ne_eqb}
use Rattle.choice.specs.Pick.{pick}
use Rattle.isa.specs.Sets.{has}
use Rattle.isa.specs.Table.{number_of, shifts, no_row}
use Rattle.isa.proofs.Arms.{some_listed}
use Rattle.isa.proofs.slots.shift_or_save.Goals as goal

pub returns-else-b-eq10 : goal.returns-else-b-eq10
returns-else-b-eq10 c = some_listed shifts 12 c.args.b _ _ c.args.shift c.is_shift.ensures c.requires c.then_some.ensures ∙ sym (ap (λ (t : Bool). pick t (number_of c.args.save) (pick (has shifts c.args.b) (number_of c.args.shift) no_row)) (ne_eqb c.args.b 10 c.if-b-eq10.false))
