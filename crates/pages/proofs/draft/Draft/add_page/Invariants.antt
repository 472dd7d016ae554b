-- `pages::draft::Draft::add_page` meets its contract: what is there and the lines still to come are the whole page.
use Rattle.std.proofs.Common.{◌≡◌, ℕ, ◌+◌, [], ◌++◌, get_or}
use Rattle.trace.specs.Layout.{joined}
use Rattle.lines.specs.Pages.{page_of}
use Rattle.pages.proofs.Drafted.{still}
use Rattle.pages.proofs.draft.Draft.add_page.Given as goal

abbrev pub invariant-loop-i : goal.invariant-loop-i
invariant-loop-i g l = l.self ++ still (λ (k : ℕ). get_or (page_of l.ran l.reports) k []) l.i-counter (l.ran.accepted + 34) ≡ l.initial.self ++ joined (page_of l.ran l.reports)
