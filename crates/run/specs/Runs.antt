-- A run: its limits, its answer, and the reports that it leaves (document 01, runs, blocks and refusal numbers).
use Rattle.std.specs.Prelude.{◌≡◌, ℕ, ◌*◌, ◌%◌, not, List, [], ◌∷◌, ◌++◌, length, drop, replicate, eqb, ltb}
use Rattle.std.proofs.Math.Option.{none, some}
use Rattle.choice.specs.Pick.{pick}
use Rattle.choice.specs.Checks.{Check, check, refusal}
use Rattle.choice.specs.Tells.{Tells, refused, Placed, accepted_whole, refused_at}
use Rattle.machine.specs.declared.Waiting.{Waiting}
use Rattle.machine.specs.declared.Waiting.TheVariants.{Nothing}
use Rattle.machine.specs.declared.Machine.{Machine}
use Rattle.machine.specs.Judging.{may_start}
use Rattle.run.specs.declared.Ending.{Ending}
use Rattle.run.specs.declared.Ending.TheVariants.{Done, Stopped, Refused}
use Rattle.run.specs.declared.Ran.{Ran}
use Rattle.run.specs.Splitting.{words_per_cycle, cycles_in, cycles_of, words_per_report}
use Rattle.run.specs.Courses.{Finish, done, stopped, Course, closing, run_from, machine_after, completed_in, reports_of}

abbrev pub most_cycles : ℕ
most_cycles = 4096

-- the refusals of a whole run, by the word that waits, the number of words and the room for reports
abbrev pub start_checks : Waiting → ℕ → ℕ → List Check
start_checks waiting words room =
    check 1 (not (eqb (words % words_per_cycle) 0))
    ∷ check 2 (ltb most_cycles (cycles_in words))
    ∷ check 3 (ltb room (words_per_report * cycles_in words))
    ∷ check 4 (not (may_start waiting))
    ∷ []

abbrev pub start_refusal : Machine → List ℕ → ℕ → ℕ
start_refusal m words room = refusal (start_checks m.registers.waiting (length words) room)

-- a run that is refused as a whole has no step
abbrev pub once_started : ℕ → Course → Course
once_started k c = pick (eqb k 0) c (closing (refused k))

unfoldable pub run_of : Machine → List ℕ → ℕ → ℕ → Course
run_of m words budget room = once_started (start_refusal m words room) (run_from m budget (cycles_of words))

-- where a program starts: all zero, nothing waiting, and a budget for every cycle (document 01, examples)
abbrev pub zero_machine : Machine
zero_machine = record { registers = record { ram = replicate 32 0; acc = 0; latch = 0; status = 0; waiting = Nothing } }

abbrev pub full_budget : ℕ
full_budget = 4096

-- what a run tells: the machine after its steps, how it ends, and its counts
pub record Summary : Type 0 where
  pub machine : Machine
  pub ending : Placed Finish
  pub accepted : ℕ
  pub completed : ℕ

-- a refusal after n steps has the index n: the refused cycle's own, or 0 where the run is refused as a whole
abbrev pub placed : Tells Finish → ℕ → Placed Finish
placed close n = record { told = close; index = elim close.value [ some f ↦ 0 | none ↦ n ] }

abbrev pub summary_of : Machine → Course → Summary
summary_of m c = record {
  machine = machine_after m c.steps;
  ending = placed c.close (length c.steps);
  accepted = length c.steps;
  completed = completed_in c.steps;
}

abbrev pub ending_tells : Ending → Placed Finish
ending_tells Done = accepted_whole done
ending_tells Stopped = accepted_whole stopped
ending_tells (Refused k i) = refused_at k i

abbrev pub ran_tells : Ran → Summary
ran_tells r = record { machine = r.machine; ending = ending_tells r.ending; accepted = r.accepted; completed = r.completed }

-- and the answer that tells so
abbrev pub finish_of : Finish → Ending
finish_of done = Done
finish_of stopped = Stopped

abbrev pub ending_of : Placed Finish → Ending
ending_of p = elim p.told.value [ some f ↦ finish_of f | none ↦ Refused p.told.number p.index ]

abbrev pub ran_of : Summary → Ran
ran_of s = record { machine = s.machine; ending = ending_of s.ending; accepted = s.accepted; completed = s.completed }

-- an answer, and a lent slice after the call, are what a course says: the reports of its steps, and then the slice as it was
pub record Gives (m : Machine) (c : Course) (r : Ran) (before after : List ℕ) : Type 0 where
  pub answer : ran_tells r ≡ summary_of m c
  pub written : after ≡ reports_of c.steps ++ drop (length (reports_of c.steps)) before
