-- `trace::making::write_blocks` meets its contract: the loop of proofs/Written.
use mathlib.Core.Path.{◌∙◌}
use Rattle.trace.proofs.Written.{again}
use Rattle.trace.proofs.making.write_blocks.Goals as goal

pub loop-k-preserved : goal.loop-k-preserved
loop-k-preserved c =
    let s = c.in-Some.ensures.steps in
    let loop = c.loop-k.invariant in
    let off = s.0.1 in (
      s.0.0 ∙ loop.0,
      again loop.1 c.in-Some.part.now _ off.0 (rw loop.0 at off.1) off.2 c.write_block.new.block c.in-Some.k _ c.requires.1 s.1 s.2 c.write_block.ensures,
    )
