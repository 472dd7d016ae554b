-- `pages::draft::Draft::add_fault` meets its contract: a line, or none.
use Rattle.std.proofs.Common.{rules, arith, lt-ltb}
use Rattle.lines.specs.Words.{fault_line}
use Rattle.lines.proofs.Longest.{fault_line_le}
use Rattle.pages.proofs.draft.Draft.add_fault.Goals as goal

pub returns-then-faults-lt-MOST_NAMED : goal.returns-then-faults-lt-MOST_NAMED
returns-then-faults-lt-MOST_NAMED g c =
    let few = lt-ltb _ _ c.if-faults-lt-MOST_NAMED.true in
    rw few (c.add.ensures (fault_line c.args.fault) (λ before after r call. search rules) (omega (arith, c.requires few, fault_line_le c.args.fault)))
