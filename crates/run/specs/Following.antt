-- The cycles of some words one after another, whatever becomes of them: what a run's reports, counts and end are compared with (document 01,
-- runs; what the statements say). Demand 2 is said of a run with it.
use Rattle.std.specs.Prelude.{◌≡◌, ℕ, zero, suc, ◌+◌, ◌*◌, ◌≤◌, ◌<◌, List, [], length, take, drop}
use Rattle.std.proofs.Math.Option.{Option, none, some}
use Rattle.choice.specs.Tells.{refused}
use Rattle.machine.specs.declared.Machine.{Machine}
use Rattle.machine.specs.declared.Report.{Report}
use Rattle.machine.specs.Cycles.{Turned, cycle_of, completions}
use Rattle.run.specs.declared.Ending.{Ending}
use Rattle.run.specs.declared.Ending.TheVariants.{Done, Stopped, Refused}
use Rattle.run.specs.declared.Ran.{Ran}
use Rattle.run.specs.Splitting.{cycle_at, cycles_in, words_per_report, report_words}

-- the machine after i cycles, and the turn of cycle i from it
abbrev pub machine_at : Machine → List ℕ → ℕ → Machine
machine_at m words zero = m
machine_at m words (suc i) = (cycle_of (machine_at m words i) (cycle_at words i)).machine

abbrev pub turn_at : Machine → List ℕ → ℕ → Turned
turn_at m words i = cycle_of (machine_at m words i) (cycle_at words i)

-- the words that an answer reports, and the instructions that it completed; a refusal has none
abbrev pub answer_words : Option Report → List ℕ
answer_words (some r) = report_words r
answer_words none = []

abbrev pub answer_completions : Option Report → ℕ
answer_completions (some r) = completions r.completed
answer_completions none = 0

-- the instructions that the first n cycles complete
abbrev pub completed_before : Machine → List ℕ → ℕ → ℕ
completed_before m words zero = 0
completed_before m words (suc n) = completed_before m words n + answer_completions (turn_at m words n).answer.value

-- how a run of n cycles ends after k of them: none is left, within the budget; the budget is spent and some are left; or cycle k is refused
abbrev pub Ends : Machine → List ℕ → ℕ → ℕ → ℕ → Ending → Type 0
Ends m words n budget k Done = (k ≡ n) × (k ≤ budget)
Ends m words n budget k Stopped = (k ≡ budget) × (k < n)
Ends m words n budget k (Refused number index) = (index ≡ k) × (k < n) × (k < budget) × ((turn_at m words k).answer ≡ refused number)

-- an answer and a lent slice, before and after the call, are the cycles one after another: every accepted cycle's report, the final machine,
-- both counts, the ending, and the reports that stay as they were
pub record CycleByCycle (m : Machine) (words : List ℕ) (budget : ℕ) (r : Ran) (before after : List ℕ) : Type 0 where
  pub accepted : (k : ℕ) → k < r.accepted → (turn_at m words k).answer.number ≡ 0
  pub reports : (k : ℕ) → k < r.accepted → take words_per_report (drop (words_per_report * k) after) ≡ answer_words (turn_at m words k).answer.value
  pub machine : r.machine ≡ machine_at m words r.accepted
  pub completed : r.completed ≡ completed_before m words r.accepted
  pub ends : Ends m words (cycles_in (length words)) budget r.accepted r.ending
  pub untouched : drop (words_per_report * r.accepted) after ≡ drop (words_per_report * r.accepted) before

-- a run that is refused as a whole returns its start: number k, index and counts 0, and every report as it was
pub record Returned (m : Machine) (k : ℕ) (r : Ran) (before after : List ℕ) : Type 0 where
  pub ending : r.ending ≡ Refused k 0
  pub machine : r.machine ≡ m
  pub accepted : r.accepted ≡ 0
  pub completed : r.completed ≡ 0
  pub reports : after ≡ before

-- cycle j of a run is refused with k: it is one of the run's and within its budget, and all before it are accepted
pub record CycleRefused (m : Machine) (words : List ℕ) (budget k j : ℕ) : Type 0 where
  pub given : j < cycles_in (length words)
  pub paid : j < budget
  pub before : (l : ℕ) → l < j → (turn_at m words l).answer.number ≡ 0
  pub here : (turn_at m words j).answer ≡ refused k
