-- The course of a run: its accepted cycles one after another, and how it closes (document 01, runs). The run's own checks, 1 to 4, stand in
-- Runs: here the cycles may be any number, and a word that may not wait is refused by the cycle itself.
use Rattle.std.specs.Prelude.{ℕ, zero, suc, ◌+◌, List, [], ◌∷◌, ◌++◌}
use Rattle.std.proofs.Math.Option.{none, some, Option}
use Rattle.choice.specs.Tells.{Tells, accepted, refused}
use Rattle.machine.specs.declared.Machine.{Machine}
use Rattle.machine.specs.declared.Words.{Words}
use Rattle.machine.specs.declared.Report.{Report}
use Rattle.machine.specs.Cycles.{cycle_of, completions}
use Rattle.run.specs.Splitting.{report_words}

-- an accepted cycle: the machine after it, and its report
pub record Step : Type 0 where
  pub machine : Machine
  pub report : Report

-- where no cycle was refused: none is left or, with some left, the budget is spent
pub data Finish : Type 0 where
  done : Finish
  stopped : Finish

-- the close has a refused cycle's number, or 0 and how the run finished
pub record Course : Type 0 where
  pub steps : List Step
  pub close : Tells Finish

abbrev pub closing : Tells Finish → Course
closing c = record { steps = []; close = c }

-- a step, and then a course
abbrev pub step_then : Step → Course → Course
step_then s c = record { steps = s ∷ c.steps; close = c.close }

-- a cycle that was accepted is a step before the rest; one that was refused closes the run
abbrev pub turn_then : Tells Report → Machine → Course → Course
turn_then answer m rest = elim answer.value [ some r ↦ step_then (record { machine = m; report = r }) rest | none ↦ closing (refused answer.number) ]

-- the cycles from a machine on, with what is left of the budget; with the budget spent the next cycle is not judged
unfoldable pub run_from : Machine → ℕ → List Words → Course
run_from m budget [] = closing (accepted done)
run_from m zero (c ∷ cycles) = closing (accepted stopped)
run_from m (suc budget) (c ∷ cycles) = turn_then (cycle_of m c).answer (cycle_of m c).machine (run_from (cycle_of m c).machine budget cycles)

-- the machine after the steps
abbrev pub machine_after : Machine → List Step → Machine
machine_after m [] = m
machine_after m (s ∷ steps) = machine_after s.machine steps

-- the instructions completed in the steps
abbrev pub completed_in : List Step → ℕ
completed_in [] = 0
completed_in (s ∷ steps) = completions s.report.completed + completed_in steps

abbrev pub reports_of : List Step → List ℕ
reports_of [] = []
reports_of (s ∷ steps) = report_words s.report ++ reports_of steps

-- for laws: steps, and then a course
abbrev pub preceded : List Step → Course → Course
preceded past c = record { steps = past ++ c.steps; close = c.close }

-- for laws: x where a course finished with f, else y
abbrev pub finished_as : Finish → Option Finish → Course → Course → Course
finished_as done (some done) x y = x
finished_as done (some stopped) x y = y
finished_as stopped (some done) x y = y
finished_as stopped (some stopped) x y = x
finished_as done none x y = y
finished_as stopped none x y = y

-- for laws: c and, where it finished with f, the steps and the close of d after it
abbrev pub continued : Finish → Course → Course → Course
continued f c d = finished_as f c.close.value (preceded c.steps d) c
