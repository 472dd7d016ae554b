-- The contracts of the C functions are their statements (choice, specs/Promises).
use mathlib.Core.Path.{◌≡◌, refl}
use lib.ListN.{length}
use Rattle.choice.specs.Promises.{States, first, second}
use Rattle.run.specs.Runs.{run_of, zero_machine, full_budget}
use Rattle.trace.specs.Check.{check_of}
use Rattle.bench_run.specs.Counting.{Counts}
use Rattle.bench_trace.specs.Filling.{FillsFrom}
use Rattle.bench_trace.proofs.firanbekwo_check.Reads as check-contract
use Rattle.bench_trace.proofs.firanbekwo_read.Reads as read-contract
use Rattle.bench_trace.proofs.firanbekwo_run_beside_check.Reads as run-contract

pub check_states : States check-contract.Asked check-contract.Learnt (λ κs a r b. r ≡ check_of (first a).now)
check_states = λ κs a r b. (refl, refl)

pub read_states : States read-contract.Asked read-contract.Learnt (λ κs a r b. FillsFrom (first a).now r (second a).now (second b).now)
read_states = λ κs a r b. (refl, refl)

pub run_states : States run-contract.Asked run-contract.Learnt
    (λ κs a r b. Counts (run_of zero_machine (first a).now full_budget (length (second a).now)) r (second a).now (second b).now)
run_states = λ κs a r b. (refl, refl)
