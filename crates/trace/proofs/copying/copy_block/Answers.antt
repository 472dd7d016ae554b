-- `trace::copying::copy_block` meets its contract: the words of the record area, as many as the count says.
use mathlib.Core.Path.{◌≡◌, ap, ◌∙◌}
use mathlib.Core.List.{List, ◌++◌}
use Prim.Native.Nat.{ℕ, ◌+◌, ◌*◌}
use lib.ListN.{drop}
use Rattle.trace.specs.Layout.{part, words_of}
use Rattle.trace.specs.Blocks.{count_of, record_words}
use Rattle.trace.proofs.copying.copy_block.Goals as goal

pub returns : goal.returns
unfolding record_words
returns c =
    let block = c.args.block.now in
    let words = c.count-words.result in
    let count : words ≡ count_of block = c.count-words.ensures.0 in (
      ap (λ (x : ℕ). 3 * x) count,
      ap (λ (l : List ℕ). l ++ drop (3 * words) c.args.out.now) (c.copy_words.ensures ∙ ap (λ (x : ℕ). words_of (part 4 (4 + 2 * (3 * x)) block)) count),
    )
