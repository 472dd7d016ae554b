-- `listpages::listing_trace::first_refused` meets its contract: no word was refused so far.
use Rattle.std.proofs.Common.{◌≡◌, ◌-◌, length}
use Rattle.run.specs.Splitting.{cycles_in}
use Rattle.listpages.specs.Listing.{line_words_from, said_from, list_said}
use Rattle.listpages.proofs.listing_trace.first_refused.Given as goal

abbrev pub invariant-loop-i : goal.invariant-loop-i
invariant-loop-i l = said_from l.waits l.i (line_words_from l.words l.i (cycles_in (length l.words) - l.i)) ≡ list_said l.words
