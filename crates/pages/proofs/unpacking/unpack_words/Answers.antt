-- `pages::unpacking::unpack_words` meets its contract: there is room for the lines of every trace.
use Rattle.std.proofs.Common.{arith}
use Rattle.pages.proofs.Longest.{text_fits}
use Rattle.pages.proofs.unpacking.unpack_words.Goals as goal

pub add_words-requires : goal.add_words-requires
add_words-requires c = rw c.new-text.ensures (omega (arith, text_fits c.args.words.now c.requires))
