-- `listpages::draft::Draft::add_answers` meets its contract: what is there and the answers still to come are all answers.
use Rattle.std.proofs.Common.{◌≡◌, ◌++◌, length}
use Rattle.listpages.specs.Answering.{lines_of, answers_of, reading_after}
use Rattle.listpages.proofs.draft.Draft.add_answers.Given as goal

abbrev pub invariant-loop-rest : goal.invariant-loop-rest
invariant-loop-rest g l = record {
  text : l.self ++ answers_of l.state (lines_of l.rest) ≡ l.initial.self ++ answers_of l.initial.state (lines_of l.bytes);
  reading : reading_after l.state (lines_of l.rest) ≡ reading_after l.initial.state (lines_of l.bytes);
}

abbrev pub decreases-loop-rest : goal.decreases-loop-rest
decreases-loop-rest g l = length l.rest
