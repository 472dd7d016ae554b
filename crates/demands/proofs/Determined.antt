-- Demand 1, first part: every public call's statement determines its answer and all lent output, for every input.
-- What is said is the record before `every_call`, at the end.
use mathlib.Core.Path.{◌≡◌, ap, ◌∙◌}
use mathlib.Core.List.{List}
use Prim.Native.Nat.{ℕ}
use lib.ListN.{length}
use Rattle.text.proofs.Laws.{start_unique, take_unique}
use Rattle.alu.proofs.Unique.{perform_unique, write_back_unique}
use Rattle.isa.proofs.Laws.{decode_unique, look_up_unique, encode_unique, takes_immediate_unique, mark_for_unique, mode_of_unique, number_of_unique, numbered_row_unique}
use Rattle.plan.proofs.Laws.{plan_for_unique, names_immediate_unique}
use Rattle.machine.proofs.Laws.{cycle_unique, may_start_unique}
use Rattle.machine.proofs.Steps.{step_unique, core_of_unique, machine_from_unique}
use Rattle.run.specs.Runs.{run_of, zero_machine, full_budget}
use Rattle.run.proofs.Laws.{run_unique}
use Rattle.demands.specs.Calls.{Filling, Determined, Starts, TakesText, Performs, WritesBack, Decodes, LooksUp, Encodes, TakesImmediate, MarksMode, ReadsMark, NumbersFamily, GivesRow, Plans, NamesImmediate, Cycles, StepsMachine, TakesApart, PutsTogether, MayStart, Runs, RunsFromZero, Checks, ReadsTrace, WritesTrace, Keeps, MakesLine, CycleLines, StateLines, RegisterLines, WordRefusedLines, LastLines, PageLines, WordsLines, FaultLines, RemarkLines, FillingBoth, ShowsRun, ShowsWords, TakesPieces, EndsTexts, PrintsWord, ReadsWord, PrintsData, ReadsData, ShowsList, AnswersLines}
use Rattle.trace.proofs.Unique.{check_unique, read_unique, write_unique, kept_unique}
use Rattle.lines.proofs.Answered.{makes_unique}
use Rattle.listing.proofs.Single.{line_of_unique, word_of_unique, data_line_unique, data_of_unique}
use Rattle.listpages.proofs.Unique.{read_lines_unique}
use Rattle.pages.proofs.Unique.{writes_unique, take_text_unique, end_text_unique}

-- the same answer and the same lent output
same_filling : {A : Type 0} (x y : Filling A) → (x.answer ≡ y.answer) × (x.after ≡ y.after) → x ≡ y
same_filling {A = A} x y e =
    ap (λ (a : A). record { answer = a; after = x.after }) e.0 ∙ ap (λ (l : List ℕ). record { answer = y.answer; after = l }) e.1

same_both : {A : Type 0} (x y : FillingBoth A) → (x.answer ≡ y.answer) × (x.out ≡ y.out) × (x.errors ≡ y.errors) → x ≡ y
same_both {A = A} x y e =
    ap (λ (a : A). record { answer = a; out = x.out; errors = x.errors }) e.0
    ∙ ap (λ (l : List ℕ). record { answer = y.answer; out = l; errors = x.errors }) e.1
    ∙ ap (λ (l : List ℕ). record { answer = y.answer; out = y.out; errors = l }) e.2

makes_line : Determined MakesLine
makes_line i x y f g = same_filling x y (makes_unique i.0 i.1 x.answer y.answer x.after y.after f g)

runs : Determined Runs
runs i x y f g =
    same_filling x y (run_unique i.machine (run_of i.machine i.words i.budget (length i.reports)) i.reports x.answer y.answer x.after y.after f g)

pub record EveryCall : Type 0 where
  pub start : Determined Starts
  pub take : Determined TakesText
  pub perform : Determined Performs
  pub write_back : Determined WritesBack
  pub decode : Determined Decodes
  pub look_up : Determined LooksUp
  pub encode : Determined Encodes
  pub takes_immediate : Determined TakesImmediate
  pub mark_for : Determined MarksMode
  pub mode_of : Determined ReadsMark
  pub number_of : Determined NumbersFamily
  pub numbered_row : Determined GivesRow
  pub plan_for : Determined Plans
  pub names_immediate : Determined NamesImmediate
  pub cycle : Determined Cycles
  pub step : Determined StepsMachine
  pub core_of : Determined TakesApart
  pub machine_from : Determined PutsTogether
  pub may_start : Determined MayStart
  pub run : Determined Runs
  pub run_from_zero : Determined RunsFromZero
  pub check : Determined Checks
  pub read : Determined ReadsTrace
  pub write : Determined WritesTrace
  pub kept : Determined Keeps
  pub cycle_line : Determined CycleLines
  pub state_line : Determined StateLines
  pub register_line : Determined RegisterLines
  pub word_refused_line : Determined WordRefusedLines
  pub last_line : Determined LastLines
  pub page_line : Determined PageLines
  pub words_line : Determined WordsLines
  pub fault_line : Determined FaultLines
  pub remark_line : Determined RemarkLines
  pub hand_over : Determined MakesLine
  pub run_trace : Determined ShowsRun
  pub unpack_trace : Determined ShowsWords
  pub take_text : Determined TakesPieces
  pub end_text : Determined EndsTexts
  pub line_of : Determined PrintsWord
  pub word_of : Determined ReadsWord
  pub data_line : Determined PrintsData
  pub data_of : Determined ReadsData
  pub list_trace : Determined ShowsList
  pub read_lines : Determined AnswersLines

pub every_call : EveryCall
every_call = record {
  start = λ i x y f g. start_unique x y f g;
  take = λ i x y f g. same_filling x y (take_unique i.0 i.1 x.answer y.answer i.2 x.after y.after f g);
  perform = λ i x y f g. perform_unique i.0 i.1 i.2 x y f g;
  write_back = λ i x y f g. write_back_unique i.0 i.1 i.2 x y f g;
  decode = decode_unique;
  look_up = look_up_unique;
  encode = encode_unique;
  takes_immediate = takes_immediate_unique;
  mark_for = mark_for_unique;
  mode_of = mode_of_unique;
  number_of = number_of_unique;
  numbered_row = numbered_row_unique;
  plan_for = plan_for_unique;
  names_immediate = names_immediate_unique;
  cycle = λ i x y f g. cycle_unique i.0 i.1 x y f g;
  step = λ i x y f g. same_filling x y (step_unique i.0 i.1 i.2 x.answer y.answer x.after y.after f g);
  core_of = core_of_unique;
  machine_from = λ i x y f g. machine_from_unique i.0 i.1 x y f g;
  may_start = may_start_unique;
  run = runs;
  run_from_zero = λ i. runs (record { machine = zero_machine; words = i.0; budget = full_budget; reports = i.1 });
  check = check_unique;
  read = λ i x y f g. same_filling x y (read_unique i.0 i.1 x.answer y.answer x.after y.after f g);
  write = λ i x y f g. same_filling x y (write_unique i.0 i.1 x.answer y.answer x.after y.after f g);
  kept = kept_unique;
  cycle_line = λ i. makes_line (_, i.1);
  state_line = λ i. makes_line (_, i.1);
  register_line = λ i. makes_line (_, i.2);
  word_refused_line = λ i. makes_line (_, i.1);
  last_line = λ i. makes_line (_, i.2);
  page_line = λ i. makes_line (_, i.3);
  words_line = λ i. makes_line (_, i.2);
  fault_line = λ i. makes_line (_, i.1);
  remark_line = λ i. makes_line (_, i.2);
  hand_over = makes_line;
  run_trace = λ i x y f g. same_both x y (writes_unique _ _ x.answer y.answer i.1 i.2 x.out x.errors y.out y.errors f g);
  unpack_trace = λ i x y f g. same_both x y (writes_unique _ _ x.answer y.answer i.1 i.2 x.out x.errors y.out y.errors f g);
  take_text = λ i x y f g. same_both x y (take_text_unique i.0 i.1 x.answer y.answer i.2 i.3 x.out x.errors y.out y.errors f g);
  end_text = λ i x y f g.
      let u = end_text_unique i.0 x.answer.answer y.answer.answer i.1 i.2 i.3 x.answer.after x.out x.errors y.answer.after y.out y.errors f g in
      same_both x y (same_filling x.answer y.answer (u.0, u.1), u.2, u.3);
  line_of = λ i x y f g. same_filling x y (line_of_unique i.0 i.1 x.answer y.answer x.after y.after f g);
  word_of = word_of_unique;
  data_line = λ i x y f g. same_filling x y (data_line_unique i.0 i.1 x.answer y.answer x.after y.after f g);
  data_of = data_of_unique;
  list_trace = λ i x y f g. same_both x y (writes_unique _ _ x.answer y.answer i.1 i.2 x.out x.errors y.out y.errors f g);
  read_lines = λ i x y f g. same_filling x y (read_lines_unique i.0 i.1 x.answer y.answer i.2 x.after y.after f g);
}
