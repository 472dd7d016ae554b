-- `pages::packing::take_text` meets its contract: the mark, and then the bad lines.
use Rattle.lines.proofs.Answered.{makes_as}
use Rattle.pages.specs.Packing.{piece_said}
use Rattle.pages.proofs.packing.take_text.Goals as goal

pub returns : goal.returns
unfolding piece_said
returns c = record {
  reader = c.add_piece-next.ensures.reader;
  kept = c.add_piece-next.ensures.kept;
  told = makes_as (rw (c.add_piece-next.ensures.named, c.add_mark.ensures.text, c.new-text.ensures)) c.hand_over.ensures;
}
