-- `machine::acting::outcome_for` meets its contract: a task of the status by its arm, the others by the operation.
use mathlib.Core.Logic.{inl, inr}
use Rattle.machine.specs.Acting.{outcome_for}
use Rattle.machine.proofs.Seen.{computed}
use Rattle.machine.proofs.acting.outcome_for.Goals as goal

pub returns-in-NoOperation : goal.returns-in-NoOperation
unfolding outcome_for
returns-in-NoOperation c = elim c.in-NoOperation.is [ inl e ↦ rw e | inr e ↦ rw e ]

pub returns-in-SaveStatus : goal.returns-in-SaveStatus
unfolding outcome_for
returns-in-SaveStatus c = rw c.in-SaveStatus.is

pub returns-in-SetStatus : goal.returns-in-SetStatus
unfolding outcome_for
returns-in-SetStatus c = rw (c.in-SetStatus.is, c.width_mask.ensures)

pub returns-in-ResetStatus : goal.returns-in-ResetStatus
unfolding outcome_for
returns-in-ResetStatus c = rw c.in-ResetStatus.is

pub returns-in_default : goal.returns-in_default
returns-in_default c =
    rw (c.perform.ensures, c.operation_of.ensures) (computed c.args.task c.in_default.not-NoOperation c.in_default.not-SaveStatus c.in_default.not-SetStatus c.in_default.not-ResetStatus c.in_default.not-TestStatus
    c.args.mode c.args.n c.args.first c.args.second c.args.mask c.args.status)
