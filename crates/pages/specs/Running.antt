-- What `runtrace` writes of a trace (document 01, examples), and what it says of it, which is ours (docs/DECISIONS.md, 58).
use Rattle.std.specs.Prelude.{ℕ, ◌*◌, List, []}
use Rattle.std.proofs.Math.Option.{none, some}
use Rattle.choice.specs.Tells.{Placed}
use Rattle.machine.specs.declared.Waiting.{Waiting}
use Rattle.machine.specs.declared.Waiting.TheVariants.{Nothing, Held}
use Rattle.run.specs.declared.Ending.{Ending}
use Rattle.run.specs.declared.Ending.TheVariants.{Done, Stopped, Refused}
use Rattle.run.specs.declared.Ran.{Ran}
use Rattle.run.specs.Splitting.{words_per_report, cycle_at}
use Rattle.run.specs.Courses.{Course, reports_of}
use Rattle.run.specs.Runs.{most_cycles, run_of, zero_machine, full_budget, summary_of, ran_of}
use Rattle.trace.specs.Layout.{words_per_record, joined}
use Rattle.trace.specs.Reading.{read_of, read_words}
use Rattle.lines.specs.declared.Program.{Program}
use Rattle.lines.specs.declared.Program.TheVariants.{RunTrace}
use Rattle.lines.specs.declared.Remark.TheVariants.{Waits, Refusal}
use Rattle.lines.specs.Lines.{refused_line}
use Rattle.lines.specs.Pages.{page_of}
use Rattle.lines.specs.Remarks.{remark_line}

-- what the reader answers, with room for the words of every trace
abbrev pub reading_of : List ℕ → Placed ℕ
reading_of trace = read_of words_per_record trace (words_per_record * most_cycles)

-- what stands where an answer accepts, and where it refuses with a number and an index
abbrev pub if_accepted : Placed ℕ → List ℕ → (ℕ → ℕ → List ℕ) → List ℕ
if_accepted answer text refusal = elim answer.told.value [ some n ↦ text | none ↦ refusal answer.told.number answer.index ]

-- what is said of a refusal of the reader or the writer: no cycle is at fault
abbrev pub refusal_said : Program → ℕ → ℕ → List ℕ
refusal_said program number index = remark_line program (Refusal number index 0 0)

-- the run that a program makes of a trace's words, with room for every report
abbrev pub course_of : List ℕ → Course
course_of words = run_of zero_machine words full_budget (words_per_report * most_cycles)

-- the answer to that run
abbrev pub ran_from : List ℕ → Ran
ran_from words = ran_of (summary_of zero_machine (course_of words))

-- the lines of the run, one after another
unfoldable pub run_text : List ℕ → List ℕ
run_text words = joined (page_of (ran_from words) (reports_of (course_of words).steps))

-- what is said of the end: the refusal, with its cycle's word and pins, and nothing more; or that a word waits. With budget for every cycle no
-- run is stopped
abbrev pub wait_said : Waiting → List ℕ
wait_said Nothing = []
wait_said (Held w) = remark_line RunTrace (Waits w)

abbrev pub end_said : List ℕ → Ending → Waiting → List ℕ
end_said words Done waiting = wait_said waiting
end_said words Stopped waiting = wait_said waiting
end_said words (Refused number i) waiting = remark_line RunTrace (Refusal number i (cycle_at words i).lines (cycle_at words i).pins)

unfoldable pub run_said : List ℕ → List ℕ
run_said words = end_said words (ran_from words).ending (ran_from words).machine.registers.waiting

-- of a trace: its run, or the one line of the refusal
unfoldable pub page_text : List ℕ → List ℕ
page_text trace = if_accepted (reading_of trace) (run_text (read_words words_per_record trace)) refused_line

unfoldable pub page_said : List ℕ → List ℕ
page_said trace = if_accepted (reading_of trace) (run_said (read_words words_per_record trace)) (refusal_said RunTrace)
