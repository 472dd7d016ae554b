-- `machine::acting::performed` meets its contract: the operands are those of the plan's sources.
use Rattle.machine.proofs.Seen.{source_at}
use Rattle.machine.proofs.acting.performed.Goals as goal

pub returns : goal.returns
returns c = rw (c.outcome_for.ensures, c.place.ensures.0, c.place-2.ensures.0, c.place-3.ensures.0, c.sources-all.ensures, source_at c.args.plan.work.operands.first c.args.view, source_at c.args.plan.work.operands.second c.args.view, source_at c.args.plan.work.operands.mask c.args.view)
