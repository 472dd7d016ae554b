-- `trace::making::put_words` meets its contract: the bytes so far, and those of the words still to come, are all the bytes.
use mathlib.Core.Path.{◌≡◌, refl}
use Prim.Native.Nat.{◌+◌, ◌*◌}
use native.Mathlib.Omega.{arith}
use lib.ListN.{drop}
use Rattle.choice.proofs.Filling.{turn_part}
use Rattle.trace.specs.Layout.{bytes_of}
use Rattle.trace.proofs.Words.{bytes_step}
use Rattle.trace.proofs.making.put_words.Goals as goal

pub loop-i-preserved : goal.loop-i-preserved
loop-i-preserved c =
    let loop = c.loop-i in
    let words = c.args.words.now in
    let bytes = c.copy_from_slice.new.self in
    let next : 2 * (loop.i + 1) ≡ 2 * loop.i + 2 = omega arith in
    rw next (turn_part loop.area loop.area bytes (bytes_of (drop loop.i words)) (bytes_of (drop (loop.i + 1) words)) (bytes_of words) (2 * loop.i) (2 * loop.i + 2)
    (omega arith) (omega arith) (rw (c.copy_from_slice.ensures.after, c.to_le_bytes.ensures) (omega arith))
    (rw (c.copy_from_slice.ensures.after, c.to_le_bytes.ensures) (bytes_step words loop.i c.loop-i-test.true (omega (arith, c.type_inv.words loop.i)))) loop.invariant refl).1
