-- `isa::numbered_row` meets its contract: past the table stands its default row.
use mathlib.Core.Path.{sym}
use Prim.Native.Nat.{◌≤◌}
use lib.ListN.{length, get_or-eq_default}
use Rattle.isa.specs.declared.Family.TheVariants.{Tor1}
use Rattle.isa.specs.Table.{row, rows, no_rule, never}
use borrow.Author.Rules.{rules}
use Rattle.isa.proofs.numbered_row.Goals as goal

pub returns-in-None : goal.returns-in-None
returns-in-None c =
    let k = c.in-None.ensures.lookup in
    let h : length rows ≤ c.args.number = search rules in
    sym (get_or-eq_default rows (row Tor1 0 0 0 0 0 no_rule never) h)
