-- Demand 2 for runs, `follows`: whatever satisfies the statement of `run` is its cycles one after another; and `gives_back`: where the run is refused as a
-- whole it is the start. What both say stands in run, specs/Following.
use mathlib.Core.Path.{◌≡◌}
use Rattle.run.specs.declared.Ran.{Ran}
use Rattle.run.specs.Following.{CycleByCycle, Returned}
use Rattle.run.proofs.Laws.{cycle_by_cycle, returned}
use Rattle.demands.specs.Calls.{Filling, RunInput, whole_number, Runs}

module _ (i : RunInput) (o : Filling Ran) (p : Runs i o) where
  pub follows : whole_number i ≡ 0 → CycleByCycle i.machine i.words i.budget o.answer i.reports o.after
  follows = cycle_by_cycle i.machine i.words i.budget i.reports o.answer o.after p

  pub gives_back : (whole_number i ≡ 0 → ⊥) → Returned i.machine (whole_number i) o.answer i.reports o.after
  gives_back = returned i.machine i.words i.budget i.reports o.answer o.after p
