-- `isa::parts::Fields::family` meets its contract: each quadrant is its function's; in quadrant 3, C picks among the rows of the slot.
use mathlib.Core.Path.{◌≡◌, ap}
use native.Mathlib.Omega.{arith}
use Rattle.isa.specs.Table.{no_row}
use Rattle.isa.specs.Decision.{RowIs, row_number}
use Rattle.isa.proofs.Arms.{by_b}
use Rattle.isa.proofs.Shared.{addressed_row, picked_row}
use Rattle.isa.proofs.parts.Fields.family.Goals as goal

pub returns-in-0 : goal.returns-in-0
unfolding RowIs
returns-in-0 c = let p = c.args.self.now in addressed_row 0 p.mark p.quadrant p.a p.b p.c p.in_range c.in-0.is tt _ c.quadrant_0.ensures

pub returns-in-1 : goal.returns-in-1
unfolding RowIs
returns-in-1 c =
    let p = c.args.self.now in
    addressed_row 1 p.mark p.quadrant p.a p.b p.c p.in_range c.in-1.is tt _
    (by_b 1 0 2 0 16 0 16 0 0 tt p.mark p.a p.b _ 16 (omega arith) (omega arith) c.quadrant_1.ensures)

pub returns-in-2 : goal.returns-in-2
unfolding RowIs
returns-in-2 c = let p = c.args.self.now in addressed_row 2 p.mark p.quadrant p.a p.b p.c p.in_range c.in-2.is tt _ c.quadrant_2.ensures

pub returns-in_err-quadrant_3-in_default : goal.returns-in_err-quadrant_3-in_default
unfolding RowIs
returns-in_err-quadrant_3-in_default c =
    let p = c.args.self.now in
    let q : p.quadrant ≡ 3 = omega arith in
    picked_row 3 p.mark p.quadrant p.a p.b p.c p.in_range q _ no_row (ap row_number c.from_residual.ensures) c.in_err-quadrant_3-in_default.ensures

pub returns-in_ok-quadrant_3-in_default : goal.returns-in_ok-quadrant_3-in_default
unfolding RowIs
returns-in_ok-quadrant_3-in_default c =
    let p = c.args.self.now in
    let q : p.quadrant ≡ 3 = omega arith in
    picked_row 3 p.mark p.quadrant p.a p.b p.c p.in_range q _ _ c.with_c.ensures c.in_ok-quadrant_3-in_default.ensures
