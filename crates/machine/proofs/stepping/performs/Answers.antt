-- `machine::stepping::performs` meets its contract: its parts are those of the definition.
use Rattle.machine.proofs.Steps.{performed_right}
use Rattle.machine.proofs.stepping.performs.Goals as goal

pub returns : goal.returns
returns c =
    rw (c.t.ensures, c.ct.ensures, c.on_y-2.ensures, c.on_y.ensures, c.settled_core-after.ensures, c.settle_ram.ensures, c.acted-effect.ensures, c.seen-view.ensures)
    (performed_right c.args.verdict c.args.ram.now c.args.core c.args.levels)
