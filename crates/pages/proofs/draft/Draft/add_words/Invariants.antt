-- `pages::draft::Draft::add_words` meets its contract: what is there and the lines still to come are the whole text.
use Rattle.std.proofs.Common.{◌≡◌, ◌/◌, ◌++◌, length}
use Rattle.lines.specs.Words.{words_line, text_of}
use Rattle.pages.proofs.Drafted.{still}
use Rattle.pages.proofs.draft.Draft.add_words.Given as goal

abbrev pub invariant-loop-i : goal.invariant-loop-i
invariant-loop-i g l = l.self ++ still (words_line l.words) l.i-counter (length l.words / 3) ≡ l.initial.self ++ text_of l.words
