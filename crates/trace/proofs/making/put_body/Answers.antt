-- `trace::making::put_body` meets its contract: head, words and filling, each in its part.
use Rattle.std.proofs.Common.{◌≡◌, ◌-◌, ◌*◌, length, append_assoc, arith}
use Rattle.trace.specs.Blocks.{body_of}
use Rattle.trace.proofs.making.put_body.Goals as goal

pub returns : goal.returns
unfolding body_of
returns c =
    let filled = c.fill.ensures.after (λ y e. e) in
    let left : length c.split_at_mut-area.result.1.now ≡ 506 - 2 * length c.args.words.now = omega (arith, c.split_at_mut-area.ensures.back_len, c.split_at_mut-start.ensures.back_len) in
    rw (c.copy_from_slice.ensures.after, c.head.ensures, c.put_words.ensures, filled, left, append_assoc)
