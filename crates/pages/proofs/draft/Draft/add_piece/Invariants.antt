-- `pages::draft::Draft::add_piece` meets its contract: every turn takes some of what is left.
use Rattle.std.proofs.Common.{length}
use Rattle.pages.proofs.Pieces.{Taking}
use Rattle.pages.proofs.draft.Draft.add_piece.Given as goal

abbrev pub invariant-loop-rest : goal.invariant-loop-rest
invariant-loop-rest g l = Taking l.initial.state l.piece l.initial.words l.initial.self l.words l.self l.state l.rest

abbrev pub decreases-loop-rest : goal.decreases-loop-rest
decreases-loop-rest g l = length l.rest
