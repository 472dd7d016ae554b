-- `machine::conditions::condition` meets its contract: the array is the list of conditions.
use mathlib.Core.Path.{refl}
use Rattle.machine.specs.Reporting.{condition_of}
use Rattle.machine.proofs.conditions.condition.Goals as goal

pub returns : goal.returns
unfolding condition_of
returns c = refl
