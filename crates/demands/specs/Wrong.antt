-- The five wrong emulators that document 01 names (what the statements say), a sixth of ours, and the right one, each by what it does on every run.
use Rattle.std.specs.Prelude.{◌≡◌, ◌++◌, ℕ, ◌*◌, ◌<◌, length, take, drop}
use Rattle.run.specs.declared.Ending.TheVariants.{Done, Stopped}
use Rattle.run.specs.declared.Ran.{Ran}
use Rattle.run.specs.Splitting.{words_per_report}
use Rattle.run.specs.Courses.{Course, reports_of}
use Rattle.run.specs.Runs.{run_of, summary_of, ran_of}
use Rattle.demands.specs.Calls.{Filling, RunInput, Runs}

-- what is made of a run, whatever it is
abbrev pub Emulator : Type 0
Emulator = RunInput → Filling Ran

-- it keeps what `run` promises, on every input
abbrev pub Faithful : Emulator → Type 0
Faithful e = (i : RunInput) → Runs i (e i)

-- no run is done or stopped
abbrev pub RefusesEverything : Emulator → Type 0
RefusesEverything e = (i : RunInput) → ((e i).answer.ending ≡ Done → ⊥) × ((e i).answer.ending ≡ Stopped → ⊥)

-- one answer for all
abbrev pub FixedAnswer : Emulator → Type 0
FixedAnswer e = (i j : RunInput) → (e i).answer ≡ (e j).answer

-- every run ends in the machine that it started from
abbrev pub NeverChanges : Emulator → Type 0
NeverChanges e = (i : RunInput) → (e i).answer.machine ≡ i.machine

-- every report is that of cycle 0
abbrev pub CopiesFirst : Emulator → Type 0
CopiesFirst e = (i : RunInput) (k : ℕ) → k < (e i).answer.accepted → take words_per_report (drop (words_per_report * k) (e i).after) ≡ take words_per_report (e i).after

-- the counts go by how many words there are, and not by what they say
abbrev pub InventsCounts : Emulator → Type 0
InventsCounts e = (i j : RunInput) → length i.words ≡ length j.words → ((e i).answer.accepted ≡ (e j).answer.accepted) × ((e i).answer.completed ≡ (e j).answer.completed)

-- every accepted cycle counts as a completed instruction
abbrev pub CountsEveryCycle : Emulator → Type 0
CountsEveryCycle e = (i : RunInput) → (e i).answer.completed ≡ (e i).answer.accepted

-- the right one is the definition itself, put into an answer and lent reports
abbrev pub course_for : RunInput → Course
course_for i = run_of i.machine i.words i.budget (length i.reports)

abbrev pub right : Emulator
right i = record {
  answer = ran_of (summary_of i.machine (course_for i));
  after = reports_of (course_for i).steps ++ drop (length (reports_of (course_for i).steps)) i.reports;
}
