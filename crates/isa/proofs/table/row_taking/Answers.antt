-- `isa::table::row_taking` meets its contract: the rows are gone through in their order.
use Rattle.std.proofs.Common.{rules, tests}
use Rattle.std.proofs.lemmas.Iterator.{YieldsList-from_slice}
use Rattle.std.proofs.lemmas.Iterator.Search.{find_from_yields_List}
use mathlib.Core.Path.{◌∙◌}
use Rattle.isa.specs.Table.{rows}
use Rattle.isa.specs.Decision.{takes_fields, RowTaking}
use Rattle.isa.proofs.table.row_taking.Goals as goal

pub returns : goal.returns
unfolding RowTaking
returns c = c.copied.ensures ∙ find_from_yields_List (λ r. takes_fields r c.args.fields.now) _ _ _ c.find.ensures.ran (YieldsList-from_slice rows c.iter.ensures.rest) (λ x b q k. search (rules, tests))
