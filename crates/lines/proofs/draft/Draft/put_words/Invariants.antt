-- `lines::draft::Draft::put_words` meets its contract: the words that stand, and those still to come, are all.
use Rattle.std.proofs.Common.{◌≡◌, ◌++◌, ◌+◌, ◌*◌, ◌≤◌, length}
use Rattle.lines.specs.Words.{words_text}
use Rattle.lines.proofs.draft.Draft.put_words.Given as goal

abbrev pub invariant-loop-rest : goal.invariant-loop-rest
invariant-loop-rest g l = record {
  room : length l.self + 5 * length l.rest ≤ g.row.N;
  text : l.self ++ words_text l.rest ≡ l.initial.self ++ words_text l.words;
}

abbrev pub decreases-loop-rest : goal.decreases-loop-rest
decreases-loop-rest g l = length l.rest
