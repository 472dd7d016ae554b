use Rattle.alu.specs.Width.{low}
use Rattle.alu.specs.Operations.{rotated}
use Rattle.alu.proofs.Fits.{low_lt}
use Rattle.alu.proofs.Turned.{turned_byte, turned_word}
use Rattle.alu.proofs.Mode.rotated.Goals as goal
use Rattle.alu.proofs.Mode.rotated.Goals.{in-Byte, in-Word}

pub returns : goal.returns
unfolding rotated
returns c =
    elim c.match-self.branch [
      | in-Byte w ↦
          rw (c.low.ensures, c.rotate_left.ensures, w.word-is, c.low-source.ensures, w.in-Byte.is)
          (turned_byte c.args.n (low 8 c.args.source) (low_lt 8 c.args.source))
      | in-Word w ↦
          rw (c.low.ensures, c.rotate_left.ensures, w.word-is, c.low-source.ensures, w.in-Word.is)
          (turned_word c.args.n (low 16 c.args.source) (low_lt 16 c.args.source))
    ]
