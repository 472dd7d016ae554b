-- `pages::packing::end_text` meets its contract: by whether a line is bad.
use Rattle.pages.proofs.Outs.{faulty_ends, sound_ends}
use Rattle.pages.proofs.packing.end_text.Goals as goal
use Rattle.pages.proofs.packing.end_text.Goals.{then-sound, else-sound}

pub returns : goal.returns
returns c = record {
  kept = c.add_piece-next.ensures.kept;
  written =
      elim c.if-sound.branch [
        | then-sound w ↦
            rw (w.bytes-is, w.out-is)
            (sound_ends c.args.reader c.add_piece-next.result c.args.words.now c.add_piece-next.new.words c.args.out.now _ _ c.if-sound.text _ c.add_piece-next.ensures.reader c.add_piece-next.ensures.kept w.if-sound.true _ c.add_unnamed.new.self _ (rw (c.add_unnamed.ensures.text, c.add_piece-next.ensures.named, c.new-text.ensures)) (rw (w.text-is) w.write_blocks-bytes.ensures) c.hand_over.ensures)
        | else-sound w ↦
            rw (w.bytes-is, w.out-is)
            (faulty_ends c.args.reader c.add_piece-next.result c.args.words.now c.add_piece-next.new.words c.args.out.now _ _ c.if-sound.text _ c.add_piece-next.ensures.reader c.add_piece-next.ensures.kept w.if-sound.false (rw (w.text-is, c.add_unnamed.ensures.text, c.add_piece-next.ensures.named, c.new-text.ensures)) c.hand_over.ensures)
      ];
}
