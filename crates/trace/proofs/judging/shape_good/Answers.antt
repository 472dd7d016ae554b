-- `trace::judging::shape_good` meets its contract: count, form and filling in turn.
use mathlib.Core.Path.{refl, sym, ◌∙◌}
use Prim.Native.Nat.{◌≤◌}
use native.Mathlib.Omega.{arith}
use Rattle.trace.proofs.Sound.{count_good_says, shape_no_count, shape_no_form, shape_rest}
use Rattle.trace.proofs.judging.shape_good.Goals as goal
use Rattle.trace.proofs.judging.shape_good.Goals.{then-not-count_good-via-then-not-count_good, then-not-count_good-via-else-not-count_good+then-block-ne0}

pub returns-then-not-count_good : goal.returns-then-not-count_good
returns-then-not-count_good c =
    let count = c.count-count.result in
    elim c.then-not-count_good.branch [
      | then-not-count_good-via-then-not-count_good w ↦
          shape_no_count 3 c.args.left c.args.block.now count c.count_good.result c.count_good.ensures c.count-count.ensures.0 w.if-not-count_good.true
      | then-not-count_good-via-else-not-count_good+then-block-ne0 w ↦
          shape_no_form 3 c.args.left c.args.block.now count c.count_good.result c.count_good.ensures c.count-count.ensures.0 w.if-not-count_good.false _ refl w.if-block-ne0.true
    ]

pub slice_bounds-all_zero-count : goal.slice_bounds-all_zero-count
slice_bounds-all_zero-count c =
    let few : c.count-count.result ≤ 84 = (count_good_says 3 c.args.left c.count-count.result (sym c.count_good.ensures ∙ c.if-not-count_good.false)).0 in
    omega arith

pub slice_bounds-all_zero-start : goal.slice_bounds-all_zero-start
slice_bounds-all_zero-start c =
    let few : c.count-count.result ≤ 84 = (count_good_says 3 c.args.left c.count-count.result (sym c.count_good.ensures ∙ c.if-not-count_good.false)).0 in
    omega arith

pub returns : goal.returns
returns c =
    shape_rest 3 c.args.left c.args.block.now c.count-count.result c.count_good.result c.count_good.ensures c.count-count.ensures.0 c.if-not-count_good.false
    _ refl c.if-block-ne0.false c.all_zero.result c.all_zero.ensures
