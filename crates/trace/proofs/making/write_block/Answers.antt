-- `trace::making::write_block` meets its contract: the body, and then its check.
use Rattle.std.proofs.Common.{◌≡◌, ◌/◌, ◌%◌, arith}
use Rattle.trace.specs.Blocks.{sealed}
use Rattle.trace.proofs.making.write_block.Goals as goal

pub returns : goal.returns
unfolding sealed
returns c =
    let sum = c.check.result in
    let high : sum / 256 % 256 ≡ sum / 256 = omega arith in
    rw (c.copy_from_slice.ensures.after, c.to_be_bytes.ensures, high, c.check.ensures, c.put_body.ensures)
