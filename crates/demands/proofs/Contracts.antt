-- The contracts of the public calls in src/ are the statements of specs/Calls, of which `every_call` (Determined) says that no two outcomes satisfy
-- them: `every_contract`. Each asks nothing of a caller, and says just its statement, so no contract can be weakened unnoticed.
use mathlib.Core.Path.{refl}
use Rattle.text.proofs.start.Reads as start-contract
use Rattle.text.proofs.take.Reads as take-contract
use Rattle.alu.proofs.perform.Reads as perform-contract
use Rattle.alu.proofs.write_back.Reads as write-back-contract
use Rattle.isa.proofs.decode.Reads as decode-contract
use Rattle.isa.proofs.look_up.Reads as look-up-contract
use Rattle.isa.proofs.encode.Reads as encode-contract
use Rattle.isa.proofs.takes_immediate.Reads as takes-immediate-contract
use Rattle.isa.proofs.mark_for.Reads as mark-for-contract
use Rattle.isa.proofs.mode_of.Reads as mode-of-contract
use Rattle.isa.proofs.number_of.Reads as number-of-contract
use Rattle.isa.proofs.numbered_row.Reads as numbered-row-contract
use Rattle.plan.proofs.plan_for.Reads as plan-for-contract
use Rattle.plan.proofs.names_immediate.Reads as names-immediate-contract
use Rattle.machine.proofs.cycle.Reads as cycle-contract
use Rattle.machine.proofs.step.Reads as step-contract
use Rattle.machine.proofs.core_of.Reads as core-of-contract
use Rattle.machine.proofs.machine_from.Reads as machine-from-contract
use Rattle.machine.proofs.may_start.Reads as may-start-contract
use Rattle.run.proofs.run.Reads as run-contract
use Rattle.run.proofs.run_from_zero.Reads as run-from-zero-contract
use Rattle.trace.proofs.check.Reads as check-contract
use Rattle.trace.proofs.read.Reads as read-contract
use Rattle.trace.proofs.write.Reads as write-contract
use Rattle.trace.proofs.kept.Reads as kept-contract
use Rattle.lines.proofs.cycle_line.Reads as cycle-line-contract
use Rattle.lines.proofs.state_line.Reads as state-line-contract
use Rattle.lines.proofs.register_line.Reads as register-line-contract
use Rattle.lines.proofs.word_refused_line.Reads as word-refused-line-contract
use Rattle.lines.proofs.last_line.Reads as last-line-contract
use Rattle.lines.proofs.page_line.Reads as page-line-contract
use Rattle.lines.proofs.words_line.Reads as words-line-contract
use Rattle.lines.proofs.fault_line.Reads as fault-line-contract
use Rattle.lines.proofs.remark_line.Reads as remark-line-contract
use Rattle.lines.proofs.hand_over.Reads as hand-over-contract
use Rattle.pages.proofs.run_trace.Reads as run-trace-contract
use Rattle.pages.proofs.unpack_trace.Reads as unpack-trace-contract
use Rattle.pages.proofs.take_text.Reads as take-text-contract
use Rattle.pages.proofs.end_text.Reads as end-text-contract
use Rattle.listing.proofs.line_of.Reads as line-of-contract
use Rattle.listing.proofs.word_of.Reads as word-of-contract
use Rattle.listing.proofs.data_line.Reads as data-line-contract
use Rattle.listing.proofs.data_of.Reads as data-of-contract
use Rattle.listpages.proofs.list_trace.Reads as list-trace-contract
use Rattle.listpages.proofs.read_lines.Reads as read-lines-contract
use Rattle.demands.specs.Calls.{Starts, TakesText, Performs, WritesBack, Decodes, LooksUp, Encodes, TakesImmediate, MarksMode, ReadsMark, NumbersFamily, GivesRow, Plans, NamesImmediate, Cycles, StepsMachine, TakesApart, PutsTogether, MayStart, Runs, RunsFromZero, Checks, ReadsTrace, WritesTrace, Keeps, CycleLines, StateLines, RegisterLines, WordRefusedLines, LastLines, PageLines, WordsLines, FaultLines, RemarkLines, MakesLine, ShowsRun, ShowsWords, TakesPieces, EndsTexts, PrintsWord, ReadsWord, PrintsData, ReadsData, ShowsList, AnswersLines}
use Rattle.choice.specs.Promises.{States, first, second, third, fourth, fifth, sixth}

pub record EveryContract : Type 1 where
  pub start : States start-contract.Asked start-contract.Learnt (λ κs a r b. Starts tt r)
  pub take : States take-contract.Asked take-contract.Learnt
      (λ κs a r b. TakesText (first a, (second a).now, (third a).now) (record { answer = r; after = (third b).now }))
  pub perform : States perform-contract.Asked perform-contract.Learnt (λ κs a r b. Performs (first a, second a, third a) r)
  pub write_back : States write-back-contract.Asked write-back-contract.Learnt (λ κs a r b. WritesBack (first a, second a, third a) r)
  pub decode : States decode-contract.Asked decode-contract.Learnt (λ κs a r b. Decodes (first a) r)
  pub look_up : States look-up-contract.Asked look-up-contract.Learnt (λ κs a r b. LooksUp (first a) r)
  pub encode : States encode-contract.Asked encode-contract.Learnt (λ κs a r b. Encodes (first a) r)
  pub takes_immediate : States takes-immediate-contract.Asked takes-immediate-contract.Learnt (λ κs a r b. TakesImmediate (first a) r)
  pub mark_for : States mark-for-contract.Asked mark-for-contract.Learnt (λ κs a r b. MarksMode (first a) r)
  pub mode_of : States mode-of-contract.Asked mode-of-contract.Learnt (λ κs a r b. ReadsMark (first a) r)
  pub number_of : States number-of-contract.Asked number-of-contract.Learnt (λ κs a r b. NumbersFamily (first a) r)
  pub numbered_row : States numbered-row-contract.Asked numbered-row-contract.Learnt (λ κs a r b. GivesRow (first a) r)
  pub plan_for : States plan-for-contract.Asked plan-for-contract.Learnt (λ κs a r b. Plans (first a) r)
  pub names_immediate : States names-immediate-contract.Asked names-immediate-contract.Learnt (λ κs a r b. NamesImmediate (first a) r)
  pub cycle : States cycle-contract.Asked cycle-contract.Learnt (λ κs a r b. Cycles (first a, second a) r)
  pub step : States step-contract.Asked step-contract.Learnt
      (λ κs a r b. StepsMachine ((first a).now, second a, third a) (record { answer = r; after = (first b).now }))
  pub core_of : States core-of-contract.Asked core-of-contract.Learnt (λ κs a r b. TakesApart (first a) r)
  pub machine_from : States machine-from-contract.Asked machine-from-contract.Learnt (λ κs a r b. PutsTogether (first a, second a) r)
  pub may_start : States may-start-contract.Asked may-start-contract.Learnt (λ κs a r b. MayStart (first a) r)
  pub run : States run-contract.Asked run-contract.Learnt
      (λ κs a r b. Runs (record { machine = first a; words = (second a).now; budget = third a; reports = (fourth a).now }) (record { answer = r; after = (fourth b).now }))
  pub run_from_zero : States run-from-zero-contract.Asked run-from-zero-contract.Learnt
      (λ κs a r b. RunsFromZero ((first a).now, (second a).now) (record { answer = r; after = (second b).now }))
  pub check : States check-contract.Asked check-contract.Learnt (λ κs a r b. Checks (first a).now r)
  pub read : States read-contract.Asked read-contract.Learnt
      (λ κs a r b. ReadsTrace ((first a).now, (second a).now) (record { answer = r; after = (second b).now }))
  pub write : States write-contract.Asked write-contract.Learnt
      (λ κs a r b. WritesTrace ((first a).now, (second a).now) (record { answer = r; after = (second b).now }))
  pub kept : States kept-contract.Asked kept-contract.Learnt (λ κs a r b. Keeps (first a) r)
  pub cycle_line : States cycle-line-contract.Asked cycle-line-contract.Learnt
      (λ κs a r b. CycleLines (record { number = first a; y = second a; mask = third a; ct = fourth a; t = fifth a }, (sixth a).now) (record { answer = r; after = (sixth b).now }))
  pub state_line : States state-line-contract.Asked state-line-contract.Learnt
      (λ κs a r b. StateLines (first a, (second a).now) (record { answer = r; after = (second b).now }))
  pub register_line : States register-line-contract.Asked register-line-contract.Learnt
      (λ κs a r b. RegisterLines (first a, second a, (third a).now) (record { answer = r; after = (third b).now }))
  pub word_refused_line : States word-refused-line-contract.Asked word-refused-line-contract.Learnt
      (λ κs a r b. WordRefusedLines (first a, (second a).now) (record { answer = r; after = (second b).now }))
  pub last_line : States last-line-contract.Asked last-line-contract.Learnt
      (λ κs a r b. LastLines (first a, second a, (third a).now) (record { answer = r; after = (third b).now }))
  pub page_line : States page-line-contract.Asked page-line-contract.Learnt
      (λ κs a r b. PageLines (first a, (second a).now, third a, (fourth a).now) (record { answer = r; after = (fourth b).now }))
  pub words_line : States words-line-contract.Asked words-line-contract.Learnt
      (λ κs a r b. WordsLines ((first a).now, second a, (third a).now) (record { answer = r; after = (third b).now }))
  pub fault_line : States fault-line-contract.Asked fault-line-contract.Learnt
      (λ κs a r b. FaultLines (first a, (second a).now) (record { answer = r; after = (second b).now }))
  pub remark_line : States remark-line-contract.Asked remark-line-contract.Learnt
      (λ κs a r b. RemarkLines (first a, second a, (third a).now) (record { answer = r; after = (third b).now }))
  pub hand_over : States hand-over-contract.Asked hand-over-contract.Learnt
      (λ κs a r b. MakesLine ((first a).now, (second a).now) (record { answer = r; after = (second b).now }))
  pub run_trace : States run-trace-contract.Asked run-trace-contract.Learnt
      (λ κs a r b. ShowsRun ((first a).now, (second a).now, (third a).now) (record { answer = r; out = (second b).now; errors = (third b).now }))
  pub unpack_trace : States unpack-trace-contract.Asked unpack-trace-contract.Learnt
      (λ κs a r b. ShowsWords ((first a).now, (second a).now, (third a).now) (record { answer = r; out = (second b).now; errors = (third b).now }))
  pub take_text : States take-text-contract.Asked take-text-contract.Learnt
      (λ κs a r b. TakesPieces (first a, (second a).now, (third a).now, (fourth a).now) (record { answer = r; out = (third b).now; errors = (fourth b).now }))
  pub end_text : States end-text-contract.Asked end-text-contract.Learnt
      (λ κs a r b. EndsTexts (first a, (second a).now, (third a).now, (fourth a).now) (record { answer = record { answer = r; after = (second b).now }; out = (third b).now; errors = (fourth b).now }))
  pub line_of : States line-of-contract.Asked line-of-contract.Learnt
      (λ κs a r b. PrintsWord (first a, (second a).now) (record { answer = r; after = (second b).now }))
  pub word_of : States word-of-contract.Asked word-of-contract.Learnt (λ κs a r b. ReadsWord (first a).now r)
  pub data_line : States data-line-contract.Asked data-line-contract.Learnt
      (λ κs a r b. PrintsData (first a, (second a).now) (record { answer = r; after = (second b).now }))
  pub data_of : States data-of-contract.Asked data-of-contract.Learnt (λ κs a r b. ReadsData (first a).now r)
  pub list_trace : States list-trace-contract.Asked list-trace-contract.Learnt
      (λ κs a r b. ShowsList ((first a).now, (second a).now, (third a).now) (record { answer = r; out = (second b).now; errors = (third b).now }))
  pub read_lines : States read-lines-contract.Asked read-lines-contract.Learnt
      (λ κs a r b. AnswersLines (first a, (second a).now, (third a).now) (record { answer = r; after = (third b).now }))

pub every_contract : EveryContract
every_contract = record {
  start = λ κs a r b. (refl, refl);
  take = λ κs a r b. (refl, refl);
  perform = λ κs a r b. (refl, refl);
  write_back = λ κs a r b. (refl, refl);
  decode = λ κs a r b. (refl, refl);
  look_up = λ κs a r b. (refl, refl);
  encode = λ κs a r b. (refl, refl);
  takes_immediate = λ κs a r b. (refl, refl);
  mark_for = λ κs a r b. (refl, refl);
  mode_of = λ κs a r b. (refl, refl);
  number_of = λ κs a r b. (refl, refl);
  numbered_row = λ κs a r b. (refl, refl);
  plan_for = λ κs a r b. (refl, refl);
  names_immediate = λ κs a r b. (refl, refl);
  cycle = λ κs a r b. (refl, refl);
  step = λ κs a r b. (refl, refl);
  core_of = λ κs a r b. (refl, refl);
  machine_from = λ κs a r b. (refl, refl);
  may_start = λ κs a r b. (refl, refl);
  run = λ κs a r b. (refl, refl);
  run_from_zero = λ κs a r b. (refl, refl);
  check = λ κs a r b. (refl, refl);
  read = λ κs a r b. (refl, refl);
  write = λ κs a r b. (refl, refl);
  kept = λ κs a r b. (refl, refl);
  cycle_line = λ κs a r b. (refl, refl);
  state_line = λ κs a r b. (refl, refl);
  register_line = λ κs a r b. (refl, refl);
  word_refused_line = λ κs a r b. (refl, refl);
  last_line = λ κs a r b. (refl, refl);
  page_line = λ κs a r b. (refl, refl);
  words_line = λ κs a r b. (refl, refl);
  fault_line = λ κs a r b. (refl, refl);
  remark_line = λ κs a r b. (refl, refl);
  hand_over = λ κs a r b. (refl, refl);
  run_trace = λ κs a r b. (refl, refl);
  unpack_trace = λ κs a r b. (refl, refl);
  take_text = λ κs a r b. (refl, refl);
  end_text = λ κs a r b. (refl, refl);
  line_of = λ κs a r b. (refl, refl);
  word_of = λ κs a r b. (refl, refl);
  data_line = λ κs a r b. (refl, refl);
  data_of = λ κs a r b. (refl, refl);
  list_trace = λ κs a r b. (refl, refl);
  read_lines = λ κs a r b. (refl, refl);
}
