-- `run::run` meets its contract: a refusal as a whole, or the cycles.
use mathlib.Core.Path.{sym}
use Rattle.run.proofs.Starting.{started, refused_start}
use Rattle.run.proofs.run.Goals as goal

pub returns-in-Ok : goal.returns-in-Ok
returns-in-Ok c = rw (started c.args.machine c.args.words.now c.args.budget _ (sym c.in-Ok.ensures)) c.run_cycles.ensures

pub returns-in-Err : goal.returns-in-Err
returns-in-Err c = rw c.into.ensures (refused_start c.args.machine c.args.words.now c.args.budget c.args.reports.now c.in-Err.refusal c.in-Err.ensures)
