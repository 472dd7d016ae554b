-- The statements of the public calls, each over what goes in and what comes out: the answer, and lent output after the call.
use Prim.{Unit}
use Rattle.std.specs.Prelude.{◌≡◌, Bool, List, [], ℕ, length, get_or, Option, Result, Ok, Err}
use Rattle.refusals.specs.declared.Refusal.{Refusal}
use Rattle.refusals.specs.declared.Refused.{Refused}
use Rattle.refusals.specs.Numbers.{number_of as refusal_number}
use Rattle.text.specs.declared.Reader.{Reader}
use Rattle.text.specs.declared.Fault.{Fault}
use Rattle.text.specs.declared.Taken.{Taken}
use Rattle.text.specs.Taking.{start_of, Takes}
use Rattle.alu.specs.declared.Mode.{Mode}
use Rattle.alu.specs.declared.Operation.{Operation}
use Rattle.alu.specs.declared.Outcome.{Outcome}
use Rattle.alu.specs.Width.{width_of, write_back}
use Rattle.alu.specs.Operations.{outcome_of}
use Rattle.isa.specs.declared.Named.{Named}
use Rattle.isa.specs.declared.Lookup.{Lookup}
use Rattle.isa.specs.declared.Family.{Family}
use Rattle.isa.specs.declared.Row.{Row}
use Rattle.isa.specs.Fields.{mark_for, mode_of}
use Rattle.isa.specs.Table.{row_at, number_of}
use Rattle.isa.specs.Words.{decoded_tells, decode_of, lookup_of, encoded_tells, encode_of, takes_immediate}
use Rattle.plan.specs.declared.Plan.{Plan}
use Rattle.plan.specs.declared.Work.{Work}
use Rattle.plan.specs.Plans.{plan_of}
use Rattle.plan.specs.Reading.{names_i}
use Rattle.machine.specs.declared.Waiting.{Waiting}
use Rattle.machine.specs.declared.Registers.{Registers}
use Rattle.machine.specs.declared.Machine.{Machine}
use Rattle.machine.specs.declared.Words.{Words}
use Rattle.machine.specs.declared.Core.{Core}
use Rattle.machine.specs.declared.Turn.{Turn}
use Rattle.machine.specs.declared.Stepped.{Stepped}
use Rattle.machine.specs.declared.RefusedStep.{RefusedStep}
use Rattle.machine.specs.Judging.{may_start}
use Rattle.machine.specs.Cycles.{turn_tells, cycle_of}
use Rattle.machine.specs.Stepping.{core_of, machine_from, Steps}
use Rattle.run.specs.declared.Ending.{Ending}
use Rattle.run.specs.declared.Ran.{Ran}
use Rattle.run.specs.Runs.{start_refusal, run_of, zero_machine, full_budget, Gives}
use Rattle.trace.specs.Check.{check_of}
use Rattle.trace.specs.Layout.{words_per_record}
use Rattle.trace.specs.Limits.{kept_length}
use Rattle.trace.specs.Reading.{Reads}
use Rattle.trace.specs.Writing.{Writes}
use Rattle.lines.specs.Lines.{cycle_line, state_line, register_line, word_refused_line, last_line}
use Rattle.lines.specs.Answers.{Makes}
use Rattle.lines.specs.Pages.{page_of}
use Rattle.lines.specs.Words.{words_line, fault_line}
use Rattle.lines.specs.declared.Program.{Program}
use Rattle.lines.specs.declared.Remark.{Remark}
use Rattle.lines.specs.Remarks.{remark_line}
use Rattle.pages.specs.declared.Written.{Written}
use Rattle.pages.specs.declared.PieceTaken.{PieceTaken}
use Rattle.pages.specs.Writing.{Writes as WritesBoth}
use Rattle.pages.specs.Running.{page_text, page_said}
use Rattle.pages.specs.Unpacking.{unpacked_text, unpacked_said}
use Rattle.pages.specs.Packing.{TakesPiece, EndsText}
use Rattle.listing.specs.Lines.{word_of}
use Rattle.listing.specs.Data.{data_of}
use Rattle.listing.specs.Answers.{printed_tells, read_tells, outcome, print_into, data_into}
use Rattle.listpages.specs.declared.Reading.{Reading}
use Rattle.listpages.specs.declared.LinesRead.{LinesRead}
use Rattle.listpages.specs.Listing.{listed_text, listed_said}
use Rattle.listpages.specs.Answering.{ReadsLines}

-- an answer, and lent output after the call
pub record Filling (Answer : Type 0) : Type 0 where
  pub answer : Answer
  pub after : List ℕ

-- a statement determines what comes out: no two outcomes satisfy it
abbrev pub Determined : {Input Outcome : Type 0} → (Input → Outcome → Type 0) → Type 0
Determined {Input = Input} {Outcome = Outcome} Promises = (i : Input) (x y : Outcome) → Promises i x → Promises i y → x ≡ y

-- for laws: an answer is a refusal with a number of the documents, and, where a place is told, with its index
abbrev pub RefusedWith : {A : Type 0} → Result A Refusal → ℕ → Type 0
RefusedWith (Ok x) k = ⊥
RefusedWith (Err e) k = refusal_number e ≡ k

abbrev pub RefusedAt : {A : Type 0} → Result A Refused → ℕ → ℕ → Type 0
RefusedAt (Ok x) k i = ⊥
RefusedAt (Err e) k i = (refusal_number e.refusal ≡ k) × (e.index ≡ i)

-- for laws: the number of a step's refusal, 0 where it has none, and the core that the step gives back
abbrev pub number_in : Result Stepped RefusedStep → ℕ
number_in (Ok s) = 0
number_in (Err e) = refusal_number e.refusal

abbrev pub core_in : Result Stepped RefusedStep → Core
core_in (Ok s) = s.core
core_in (Err e) = e.core

-- text
abbrev pub Starts : Unit {0} → Reader → Type 0
Starts i r = r ≡ start_of

-- a reader and a text, and the lent words before the call
abbrev pub TakesText : Reader × List ℕ × List ℕ → Filling Taken → Type 0
TakesText i o = Takes i.0 i.1 o.answer i.2 o.after

-- alu
abbrev pub Performs : Mode × Operation × ℕ → Outcome → Type 0
Performs i o = o ≡ outcome_of (width_of i.0) i.1 i.2

abbrev pub WritesBack : Mode × ℕ × ℕ → ℕ → Type 0
WritesBack i r = r ≡ write_back (width_of i.0) i.1 i.2

-- isa
abbrev pub Decodes : ℕ → Result Named Refusal → Type 0
Decodes w r = decoded_tells r ≡ decode_of w

abbrev pub LooksUp : ℕ → Lookup → Type 0
LooksUp w r = r ≡ lookup_of w

abbrev pub Encodes : Named → Result ℕ Refusal → Type 0
Encodes n r = encoded_tells r ≡ encode_of n

abbrev pub TakesImmediate : ℕ → Bool → Type 0
TakesImmediate w r = r ≡ takes_immediate w

abbrev pub MarksMode : Mode → ℕ → Type 0
MarksMode d r = r ≡ mark_for d

abbrev pub ReadsMark : ℕ → Mode → Type 0
ReadsMark k r = r ≡ mode_of k

abbrev pub NumbersFamily : Family → ℕ → Type 0
NumbersFamily f r = r ≡ number_of f

abbrev pub GivesRow : ℕ → Row → Type 0
GivesRow i r = r ≡ row_at i

-- plan
abbrev pub Plans : Named → Plan → Type 0
Plans n r = r ≡ plan_of n

abbrev pub NamesImmediate : Work → Bool → Type 0
NamesImmediate w r = r ≡ names_i w

-- machine
abbrev pub Cycles : Machine × Words → Turn → Type 0
Cycles i r = turn_tells r ≡ cycle_of i.0 i.1

-- RAM before the step, the other registers and the words; RAM after it is the lent output
abbrev pub StepsMachine : List ℕ × Core × Words → Filling (Result Stepped RefusedStep) → Type 0
StepsMachine i o = Steps i.0 i.1 i.2 o.answer o.after

abbrev pub TakesApart : Registers → Core → Type 0
TakesApart r k = k ≡ core_of r

abbrev pub PutsTogether : List ℕ × Core → Machine → Type 0
PutsTogether i m = m ≡ machine_from i.0 i.1

abbrev pub MayStart : Waiting → Bool → Type 0
MayStart w r = r ≡ may_start w

-- run: the machine, the words, the budget, and the lent reports before the call
pub record RunInput : Type 0 where
  pub machine : Machine
  pub words : List ℕ
  pub budget : ℕ
  pub reports : List ℕ

-- what the checks of the whole run give
abbrev pub whole_number : RunInput → ℕ
whole_number i = start_refusal i.machine i.words (length i.reports)

abbrev pub Runs : RunInput → Filling Ran → Type 0
Runs i o = Gives i.machine (run_of i.machine i.words i.budget (length i.reports)) o.answer i.reports o.after

abbrev pub RunsFromZero : List ℕ × List ℕ → Filling Ran → Type 0
RunsFromZero i o = Runs (record { machine = zero_machine; words = i.0; budget = full_budget; reports = i.1 }) o

-- trace: a trace or cycle words, and the lent output before the call
abbrev pub Checks : List ℕ → ℕ → Type 0
Checks bytes r = r ≡ check_of bytes

abbrev pub ReadsTrace : List ℕ × List ℕ → Filling (Result ℕ Refused) → Type 0
ReadsTrace i o = Reads i.0 o.answer i.1 o.after

abbrev pub WritesTrace : List ℕ × List ℕ → Filling (Result ℕ Refused) → Type 0
WritesTrace i o = Writes i.0 o.answer i.1 o.after

abbrev pub Keeps : ℕ → ℕ → Type 0
Keeps n r = r ≡ kept_length words_per_record n

-- lines: the text, and the lent slice before the call
abbrev pub MakesLine : List ℕ × List ℕ → Filling (Option ℕ) → Type 0
MakesLine i o = Makes i.0 o.answer i.1 o.after

pub record CycleShown : Type 0 where
  pub number : ℕ
  pub y : ℕ
  pub mask : ℕ
  pub ct : ℕ
  pub t : ℕ

abbrev pub CycleLines : CycleShown × List ℕ → Filling (Option ℕ) → Type 0
CycleLines i o = MakesLine (cycle_line i.0.number i.0.y i.0.mask i.0.ct i.0.t, i.1) o

abbrev pub StateLines : Registers × List ℕ → Filling (Option ℕ) → Type 0
StateLines i o = MakesLine (state_line i.0, i.1) o

abbrev pub RegisterLines : ℕ × ℕ × List ℕ → Filling (Option ℕ) → Type 0
RegisterLines i o = MakesLine (register_line i.0 i.1, i.2) o

abbrev pub LastLines : Ending × ℕ × List ℕ → Filling (Option ℕ) → Type 0
LastLines i o = MakesLine (last_line i.0 i.1, i.2) o

abbrev pub WordRefusedLines : ℕ × List ℕ → Filling (Option ℕ) → Type 0
WordRefusedLines i o = MakesLine (word_refused_line i.0, i.1) o

abbrev pub PageLines : Ran × List ℕ × ℕ × List ℕ → Filling (Option ℕ) → Type 0
PageLines i o = MakesLine (get_or (page_of i.0 i.1) i.2 [], i.3) o

abbrev pub WordsLines : List ℕ × ℕ × List ℕ → Filling (Option ℕ) → Type 0
WordsLines i o = MakesLine (words_line i.0 i.1, i.2) o

abbrev pub FaultLines : Fault × List ℕ → Filling (Option ℕ) → Type 0
FaultLines i o = MakesLine (fault_line i.0, i.1) o

abbrev pub RemarkLines : Program × Remark × List ℕ → Filling (Option ℕ) → Type 0
RemarkLines i o = MakesLine (remark_line i.0 i.1, i.2) o

-- pages: an answer, and both lent slices after the call: for standard output and for standard error
pub record FillingBoth (Answer : Type 0) : Type 0 where
  pub answer : Answer
  pub out : List ℕ
  pub errors : List ℕ

-- a trace, and both lent slices before the call
abbrev pub ShowsRun : List ℕ × List ℕ × List ℕ → FillingBoth Written → Type 0
ShowsRun i o = WritesBoth (page_text i.0) (page_said i.0) o.answer i.1 i.2 o.out o.errors

abbrev pub ShowsWords : List ℕ × List ℕ × List ℕ → FillingBoth Written → Type 0
ShowsWords i o = WritesBoth (unpacked_text i.0) (unpacked_said i.0) o.answer i.1 i.2 o.out o.errors

-- a reader and a piece of a text, and the lent words and slice before the call; the words after it are the first of the two
abbrev pub TakesPieces : Reader × List ℕ × List ℕ × List ℕ → FillingBoth PieceTaken → Type 0
TakesPieces i o = TakesPiece i.0 i.1 o.answer i.2 i.3 o.out o.errors

-- a reader at the end of a text, and the lent words, trace and slice before the call
abbrev pub EndsTexts : Reader × List ℕ × List ℕ × List ℕ → FillingBoth (Filling Written) → Type 0
EndsTexts i o = EndsText i.0 o.answer.answer i.1 i.2 i.3 o.answer.after o.out o.errors

-- listing: a word or data, and the lent bytes before the call; a line
abbrev pub PrintsWord : ℕ × List ℕ → Filling (Result ℕ Refusal) → Type 0
PrintsWord i o = outcome (printed_tells o.answer) o.after ≡ print_into i.0 i.1

abbrev pub ReadsWord : List ℕ → Result ℕ Refused → Type 0
ReadsWord line r = read_tells r ≡ word_of line

abbrev pub PrintsData : ℕ × List ℕ → Filling (Result ℕ Refusal) → Type 0
PrintsData i o = outcome (printed_tells o.answer) o.after ≡ data_into i.0 i.1

abbrev pub ReadsData : List ℕ → Result ℕ Refused → Type 0
ReadsData line r = read_tells r ≡ data_of line

-- listpages: a trace, and both lent slices before the call; a reader and bytes, and the lent slice before the call
abbrev pub ShowsList : List ℕ × List ℕ × List ℕ → FillingBoth Written → Type 0
ShowsList i o = WritesBoth (listed_text i.0) (listed_said i.0) o.answer i.1 i.2 o.out o.errors

abbrev pub AnswersLines : Reading × List ℕ × List ℕ → Filling LinesRead → Type 0
AnswersLines i o = ReadsLines i.0 i.1 o.answer i.2 o.after
