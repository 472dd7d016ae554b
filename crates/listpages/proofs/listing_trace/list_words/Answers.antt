-- `listpages::listing_trace::list_words` meets its contract: there is room for the lines of every trace.
use Rattle.std.proofs.Common.{arith}
use Rattle.listpages.proofs.Longest.{list_fits}
use Rattle.listpages.proofs.listing_trace.list_words.Goals as goal

pub add_lines-requires : goal.add_lines-requires
add_lines-requires c = rw c.new-text.ensures (omega (arith, list_fits c.args.words.now c.requires))
