-- `trace::copying::copy_words` meets its contract: the words so far, and those of the pairs still to come, are all the words.
use mathlib.Core.Path.{refl, ap, ◌∙◌}
use mathlib.Core.List.{map}
use Rattle.trace.proofs.Words.{word_of, words_cut}
use Rattle.trace.proofs.copying.copy_words.Goals as goal

pub loop-i-init : goal.loop-i-init
loop-i-init c = ap (map word_of) c.as_chunks.ensures.front ∙ words_cut _ c.args.area.now refl
