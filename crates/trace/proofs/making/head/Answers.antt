-- `trace::making::head` meets its contract: the number's two bytes, the count and the form.
use Prim.Native.Nat.{◌/◌, ◌%◌}
use mathlib.Core.Path.{◌≡◌}
use native.Mathlib.Omega.{arith}
use Rattle.trace.specs.Blocks.{head_of}
use Rattle.trace.proofs.making.head.Goals as goal

pub returns : goal.returns
unfolding head_of
returns c =
    let k = c.args.k in
    let high : k / 256 % 256 ≡ k / 256 = omega arith in
    rw (c.to_le_bytes.ensures, high)
