-- `run::run_cycles` meets its contract: `Before` holds before each cycle, and each way out has its law in proofs/Loop.
use lib.ListN.{length}
use Rattle.machine.specs.Stepping.{machine_from}
use Rattle.run.specs.Splitting.{cycles_in}
use Rattle.run.proofs.Loop.{Before}
use Rattle.run.proofs.run_cycles.Given as goal

abbrev pub invariant-loop-i : goal.invariant-loop-i
invariant-loop-i l = Before l.words l.budget l.fn.machine l.initial.reports (cycles_in (length l.words)) l.reports (machine_from l.ram l.core) l.completed l.i
