-- `lines::words::words_line` meets its contract: the words of the cycle, or no line.
use Rattle.std.proofs.Common.{◌≡◌, ◌+◌, ◌-◌, ◌*◌, arith, lt-ltb, le-ltb}
use Rattle.lines.specs.Words.{words_line}
use Rattle.lines.proofs.Answered.{makes_as, nothing_made}
use Rattle.lines.proofs.words.words_line.Goals as goal

pub returns-then-words-index : goal.returns-then-words-index
unfolding words_line
returns-then-words-index c = rw (le-ltb _ _ c.if-words-index.true) (nothing_made c.args.out.now)

pub returns : goal.returns
unfolding words_line
returns c =
    let three : 3 * c.args.index + 3 - 3 * c.args.index ≡ 3 = omega arith in
    makes_as (rw (lt-ltb _ _ c.if-words-index.false, c.put_words.ensures, c.new-line.ensures, three)) c.hand_over.ensures
