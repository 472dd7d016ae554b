-- `listpages::draft::Draft::add_lines` meets its contract: what is there and the lines still to come are the whole listing.
use Rattle.std.proofs.Common.{◌≡◌, ◌++◌, ◌-◌, length}
use Rattle.run.specs.Splitting.{cycles_in}
use Rattle.listpages.specs.Walking.{text_from}
use Rattle.listpages.specs.Entries.{entry_line, waits_after}
use Rattle.listpages.specs.Listing.{line_words_from, list_text}
use Rattle.listpages.proofs.draft.Draft.add_lines.Given as goal

abbrev pub invariant-loop-word : goal.invariant-loop-word
invariant-loop-word g l =
    l.self ++ text_from entry_line waits_after l.waits (line_words_from l.words l.word-index (cycles_in (length l.words) - l.word-index)) ≡ l.initial.self ++ list_text l.words
