-- `isa::parts::Fields::quadrant_3` meets its contract: B 12 to 15 are two slots; the rest is the callee's.
use Rattle.isa.proofs.Arms.{one_row}
use native.Mathlib.Omega.{arith}
use Rattle.isa.proofs.parts.Fields.quadrant_3.Goals as goal

pub returns-in-12 : goal.returns-in-12
returns-in-12 c = let p = c.args.self.now in one_row 3 0 2 0 16 12 1 19 tt p.mark p.a p.b (omega arith)

pub returns-in_default : goal.returns-in_default
returns-in_default c = let p = c.args.self.now in one_row 3 0 2 0 16 13 3 18 tt p.mark p.a p.b (omega arith)
