-- `machine::may_start` meets its contract: a waiting word is asked about.
use Rattle.machine.specs.Judging.{may_start}
use Rattle.machine.proofs.may_start.Goals as goal

pub returns-in-Nothing : goal.returns-in-Nothing
unfolding may_start
returns-in-Nothing c = rw c.in-Nothing.is

pub returns-in-Held : goal.returns-in-Held
unfolding may_start
returns-in-Held c = rw (c.in-Held.is, c.takes_immediate.ensures)
