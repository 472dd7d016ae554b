-- `run::run_from_zero` meets its contract: it is the run from that machine.
use mathlib.Core.Path.{subst}
use lib.ListN.{length}
use Rattle.machine.specs.declared.Machine.{Machine}
use Rattle.run.specs.Runs.{run_of, Gives}
use Rattle.run.proofs.run_from_zero.Goals as goal

pub returns : goal.returns
returns c = subst (λ (m : Machine). Gives m (run_of m c.args.words.now 4096 (length c.args.reports.now)) c.run.result c.args.reports.now c.run.new.reports) c.all_zero.ensures c.run.ensures
