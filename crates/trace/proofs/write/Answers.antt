-- `trace::write` meets its contract: each way out is one of proofs/Answered.
use mathlib.Core.Path.{◌≡◌}
use Prim.Native.Nat.{◌*◌}
use native.Mathlib.Omega.{arith}
use lib.ListN.{length}
use Rattle.trace.specs.Limits.{blocks_for}
use Rattle.refusals.specs.declared.Refusal.TheVariants.{NotWholeCycles, TooLong, NoRoom}
use Rattle.trace.proofs.Answered.{refuses_whole, accepts, write_1, write_2, write_3, write_done}
use Rattle.trace.proofs.write.Goals as goal

pub returns-then-words-ne0 : goal.returns-then-words-ne0
returns-then-words-ne0 c =
    refuses_whole NotWholeCycles c.into.result c.into.ensures (write_1 3 (length c.args.words.now) (length c.args.trace.now) c.if-words-ne0.true)

pub returns-then-words-gt-MOST_CYCLES : goal.returns-then-words-gt-MOST_CYCLES
returns-then-words-gt-MOST_CYCLES c =
    refuses_whole TooLong c.into-then-words-gt-MOST_CYCLES.result c.into-then-words-gt-MOST_CYCLES.ensures (write_2 3 (length c.args.words.now) (length c.args.trace.now) c.if-words-ne0.false c.if-words-gt-MOST_CYCLES.true)

pub returns-then-trace-blocks : goal.returns-then-trace-blocks
returns-then-trace-blocks c =
    refuses_whole NoRoom c.into-then-trace-blocks.result c.into-then-trace-blocks.ensures (write_3 3 (length c.args.words.now) (length c.args.trace.now) c.if-words-ne0.false c.if-words-gt-MOST_CYCLES.false (omega (arith, c.if-trace-blocks.true, c.div_ceil-blocks.ensures)))

pub returns : goal.returns
returns c =
    let n = length c.args.words.now in
    let blocks : c.div_ceil-blocks.result ≡ blocks_for n = omega (arith, c.div_ceil-blocks.ensures) in
    rw blocks
    (accepts (blocks_for n * 512) c.write_blocks.new.trace
    (write_done 3 n (length c.args.trace.now) c.if-words-ne0.false c.if-words-gt-MOST_CYCLES.false (omega (arith, c.if-trace-blocks.false, blocks))) c.write_blocks.ensures)
