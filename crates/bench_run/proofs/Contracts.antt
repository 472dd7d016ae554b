-- The contract of the run that bench_run_c exports to C is its statement (choice, specs/Promises).
use mathlib.Core.Path.{refl}
use lib.ListN.{length}
use Rattle.choice.specs.Promises.{States, first, second}
use Rattle.run.specs.Runs.{run_of, zero_machine, full_budget}
use Rattle.bench_run.specs.Counting.{Counts}
use Rattle.bench_run.proofs.firanbekwo_run.Reads as run-contract

pub run_states : States run-contract.Asked run-contract.Learnt
    (λ κs a r b. Counts (run_of zero_machine (first a).now full_budget (length (second a).now)) r (second a).now (second b).now)
run_states = λ κs a r b. (refl, refl)
