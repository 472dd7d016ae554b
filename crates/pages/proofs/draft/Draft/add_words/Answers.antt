-- `pages::draft::Draft::add_words` meets its contract: what is there and the lines still to come are the whole text.
use Rattle.std.proofs.Common.{ap, ◌∙◌, ℕ, ◌/◌, List, ◌++◌, length, rules}
use Rattle.std.proofs.lemmas.List.{length-append}
use Rattle.lines.specs.Words.{words_line, text_of}
use Rattle.pages.proofs.Drafted.{still_all, line_fits, line_more, lines_over}
use Rattle.pages.proofs.Longest.{all_text}
use Rattle.pages.proofs.draft.Draft.add_words.Goals as goal

pub loop-i-init : goal.loop-i-init
loop-i-init g c =
    let words = c.args.words.now in
    ap (λ (l : List ℕ). c.args.self.now ++ l) (still_all (words_line words) (length words / 3) ∙ all_text words)

pub loop-i-preserved : goal.loop-i-preserved
loop-i-preserved g c =
    let words = c.args.words.now in
    let n = length words / 3 in
    let i = c.loop-i.i-counter in
    let fits = line_fits (words_line words) i n c.loop-i.self _ c.loop-i.invariant g.row.N c.loop-i-test.true (rw (length-append c.args.self.now (text_of words)) c.requires) in
    line_more (words_line words) i n c.loop-i.self _ c.loop-i.invariant c.add.new.self c.loop-i-test.true (c.add.ensures (words_line words i) (λ before after r call. search rules) fits)

pub returns : goal.returns
returns g c =
    let words = c.args.words.now in
    lines_over (words_line words) c.loop-i.i-counter (length words / 3) c.loop-i.self _ c.loop-i.invariant c.loop-i-test.false
