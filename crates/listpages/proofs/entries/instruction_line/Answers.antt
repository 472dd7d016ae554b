-- `listpages::entries::instruction_line` meets its contract: by what printing the word leaves.
use Rattle.std.proofs.Common.{refl, ap, ◌∙◌, arith}
use Rattle.std.proofs.lemmas.List.{length-take, length-set}
use Rattle.lines.specs.Lines.{word_refused_line}
use Rattle.lines.proofs.Answered.{makes_as}
use Rattle.listpages.proofs.Entered.{filled_short, filled_long, filled_line, refused_line_lem}
use Rattle.listpages.proofs.entries.instruction_line.Goals as goal

pub bounds-line-n : goal.bounds-line-n
bounds-line-n c = omega (arith, filled_short c.args.word _ _ refl c.in-Ok.n (c.in-Ok.ensures {u = tt}))

pub overflow_add-line : goal.overflow_add-line
overflow_add-line c = omega (arith, filled_short c.args.word _ _ refl c.in-Ok.n (c.in-Ok.ensures {u = tt}))

pub slice_bounds-line-end : goal.slice_bounds-line-end
slice_bounds-line-end c = simp length-set (omega (arith, filled_long c.args.word _ _ refl c.in-Ok.n (c.in-Ok.ensures {u = tt}), filled_short c.args.word _ _ refl c.in-Ok.n (c.in-Ok.ensures {u = tt})))

pub slice_bounds-hand_over-end : goal.slice_bounds-hand_over-end
slice_bounds-hand_over-end c = simp (length-take, length-set) (omega (arith, filled_long c.args.word _ _ refl c.in-Ok.n (c.in-Ok.ensures {u = tt}), filled_short c.args.word _ _ refl c.in-Ok.n (c.in-Ok.ensures {u = tt})))

pub returns-in-Ok : goal.returns-in-Ok
returns-in-Ok c = makes_as (filled_line c.args.word _ _ refl c.in-Ok.n (c.in-Ok.ensures {u = tt})) c.hand_over.ensures

pub returns-in-Err : goal.returns-in-Err
returns-in-Err c = makes_as (ap word_refused_line c.from.ensures ∙ refused_line_lem c.args.word _ _ refl _ (c.in-Err.ensures {u = tt})) c.word_refused_line.ensures
