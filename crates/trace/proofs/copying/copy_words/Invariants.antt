-- `trace::copying::copy_words` meets its contract: the words so far, and those of the pairs still to come, are all the words.
use mathlib.Core.Path.{◌≡◌}
use mathlib.Core.List.{◌++◌, map}
use lib.ListN.{take, drop}
use Rattle.trace.specs.Layout.{words_of}
use Rattle.trace.proofs.Words.{word_of}
use Rattle.trace.proofs.copying.copy_words.Given as goal

abbrev pub invariant-loop-i : goal.invariant-loop-i
invariant-loop-i l = take l.i l.out ++ map word_of (drop l.i l.pairs) ≡ words_of l.area
