-- `trace::judging::judge_block` meets its contract: check, number and shape in turn.
use mathlib.Core.Path.{◌∙◌}
use Rattle.trace.proofs.Sound.{refusal_12, refusal_13, refusal_14, refusal_none}
use Rattle.trace.proofs.judging.judge_block.Goals as goal

pub returns-then-not-check_good : goal.returns-then-not-check_good
returns-then-not-check_good c =
    refusal_12 3 c.args.k c.args.left c.args.block.now c.check_good.result c.check_good.ensures c.if-not-check_good.true

pub returns-then-from-k : goal.returns-then-from-k
returns-then-from-k c =
    refusal_13 3 c.args.k c.args.left c.args.block.now c.check_good.result c.check_good.ensures c.if-not-check_good.false c.from.result (c.from.ensures ∙ c.number.ensures) c.if-from-k.true

pub returns-then-not-shape_good : goal.returns-then-not-shape_good
returns-then-not-shape_good c =
    refusal_14 3 c.args.k c.args.left c.args.block.now c.check_good.result c.check_good.ensures c.if-not-check_good.false c.from.result (c.from.ensures ∙ c.number.ensures) c.if-from-k.false
    c.shape_good.result c.shape_good.ensures c.if-not-shape_good.true

pub returns : goal.returns
returns c =
    refusal_none 3 c.args.k c.args.left c.args.block.now c.check_good.result c.check_good.ensures c.if-not-check_good.false c.from.result (c.from.ensures ∙ c.number.ensures) c.if-from-k.false
    c.shape_good.result c.shape_good.ensures c.if-not-shape_good.false
