-- `trace::copying::copy_all` meets its contract: the loop of proofs/Copied.
use native.Mathlib.Omega.{arith}
use lib.ListN.{length-take, length-drop}
use Rattle.trace.proofs.Copied.{again, count_here, room_here}
use Rattle.trace.proofs.copying.copy_all.Goals as goal

pub offset_bounds-cycles-filled : goal.offset_bounds-cycles-filled
offset_bounds-cycles-filled c = omega (arith, room_here c.loop-block.invariant c.requires.1 c.loop-block-test.true)

pub slice_bounds-copy_block-count : goal.slice_bounds-copy_block-count
slice_bounds-copy_block-count c = omega (arith, room_here c.loop-block.invariant c.requires.1 c.loop-block-test.true)

pub slice_bounds-copy_block-start : goal.slice_bounds-copy_block-start
slice_bounds-copy_block-start c = omega (arith, room_here c.loop-block.invariant c.requires.1 c.loop-block-test.true)

pub copy_block-filled-requires : goal.copy_block-filled-requires
copy_block-filled-requires c =
    let room = room_here c.loop-block.invariant c.requires.1 c.loop-block-test.true in
    (count_here c.loop-block.invariant c.requires.1 c.loop-block-test.true, simp (length-take, length-drop) (omega (arith, room)))

pub overflow_add-filled : goal.overflow_add-filled
overflow_add-filled c = omega (arith, room_here c.loop-block.invariant c.requires.1 c.loop-block-test.true, c.copy_block-filled.ensures.0)

pub loop-block-preserved : goal.loop-block-preserved
loop-block-preserved c =
    again c.loop-block.invariant c.requires.1 c.loop-block-test.true (c.told-blocks c.loop-block.block-index c.loop-block-test.true) c.copy_block-filled.new.out c.copy_block-filled.result c.copy_block-filled.ensures.0 c.copy_block-filled.ensures.1
