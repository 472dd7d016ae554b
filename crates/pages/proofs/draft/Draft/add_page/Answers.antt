-- `pages::draft::Draft::add_page` meets its contract: what is there and the lines still to come are the whole page.
use Rattle.std.proofs.Common.{ap, ◌∙◌, ℕ, ◌+◌, List, [], ◌++◌, get_or, rules}
use Rattle.std.proofs.lemmas.List.{length-append}
use Rattle.trace.specs.Layout.{joined}
use Rattle.lines.specs.Pages.{page_of}
use Rattle.pages.proofs.Drafted.{still_all, line_fits, line_more, lines_over}
use Rattle.pages.proofs.Longest.{page_lines}
use Rattle.pages.proofs.draft.Draft.add_page.Goals as goal

pub loop-i-init : goal.loop-i-init
loop-i-init g c =
    let page = page_of c.args.ran c.args.reports.now in
    ap (λ (l : List ℕ). c.args.self.now ++ l) (still_all (λ (k : ℕ). get_or page k []) (c.args.ran.accepted + 34) ∙ page_lines c.args.ran c.args.reports.now)

pub loop-i-preserved : goal.loop-i-preserved
loop-i-preserved g c =
    let page = page_of c.args.ran c.args.reports.now in
    let line : ℕ → List ℕ = λ (k : ℕ). get_or page k [] in
    let n = c.args.ran.accepted + 34 in
    let i = c.loop-i.i-counter in
    let fits = line_fits line i n c.loop-i.self _ c.loop-i.invariant g.row.N c.loop-i-test.true (rw (length-append c.args.self.now (joined page)) c.requires.room) in
    line_more line i n c.loop-i.self _ c.loop-i.invariant c.add.new.self c.loop-i-test.true (c.add.ensures (line i) (λ before after r call. search rules) fits)

pub returns : goal.returns
returns g c =
    let page = page_of c.args.ran c.args.reports.now in
    lines_over (λ (k : ℕ). get_or page k []) c.loop-i.i-counter (c.args.ran.accepted + 34) c.loop-i.self _ c.loop-i.invariant c.loop-i-test.false
