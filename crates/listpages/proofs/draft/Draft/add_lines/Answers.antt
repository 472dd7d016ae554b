-- `listpages::draft::Draft::add_lines` meets its contract: what is there and the lines still to come are the whole listing.
use Rattle.std.proofs.Common.{refl, ap, ℕ, ◌-◌, ◌<◌, false, [], ◌++◌, length, get_or, rules, arith}
use native.Mathlib.Nat.{sub-zero}
use Rattle.std.proofs.lemmas.List.{length-append}
use Rattle.run.specs.Splitting.{cycles_in}
use Rattle.listpages.specs.Walking.{text_from}
use Rattle.listpages.specs.Entries.{entry_line, waits_after}
use Rattle.listpages.specs.Listing.{line_words_from, list_text}
use Rattle.listpages.proofs.Walks.{line_fits, line_more, lines_over}
use Rattle.listpages.proofs.Outs.{words_cut, words_none}
use Rattle.listpages.proofs.draft.Draft.add_lines.Goals as goal

pub loop-word-init : goal.loop-word-init
unfolding list_text
loop-word-init g c =
    ap (λ (n : ℕ). c.args.self.now ++ text_from entry_line waits_after false (line_words_from c.args.words.now 0 n)) (sub-zero (cycles_in (length c.args.words.now)))

pub loop-word-preserved : goal.loop-word-preserved
loop-word-preserved g c =
    let words = c.args.words.now in
    let n = cycles_in (length words) in
    let i = c.loop-word.word-index in
    let more : i < n = omega (arith, c.loop-word-test.true, c.as_chunks.ensures.front_len) in
    let word = get_or (get_or c.as_chunks.result.0.now i []) 0 0 in
    let here = words_cut words n i c.as_chunks.result.0.now refl c.as_chunks.ensures.front more in
    let fits = line_fits entry_line waits_after c.loop-word.waits (line_words_from words i (n - i)) c.loop-word.self _ c.loop-word.invariant word _ here g.row.N (rw (length-append c.args.self.now (list_text words)) c.requires) in
    rw c.waits_after-waits.ensures
    (line_more entry_line waits_after c.loop-word.waits (line_words_from words i (n - i)) c.loop-word.self _ c.loop-word.invariant word _ here c.add.new.self
    (c.add.ensures (entry_line c.loop-word.waits word) (λ before after r call. search rules) fits))

pub returns : goal.returns
returns g c =
    let words = c.args.words.now in
    let n = cycles_in (length words) in
    let i = c.loop-word.word-index in
    lines_over entry_line waits_after c.loop-word.waits (line_words_from words i (n - i)) c.loop-word.self _ c.loop-word.invariant
    (words_none words n i (omega (arith, c.loop-word-test.false, c.as_chunks.ensures.front_len)))
