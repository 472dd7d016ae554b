-- `isa::parts::Fields::quadrant_2` meets its contract: B 12 to 15 is one slot; the rest is the callee's.
use Rattle.isa.proofs.Arms.{one_row}
use native.Mathlib.Omega.{arith}
use Rattle.isa.proofs.parts.Fields.quadrant_2.Goals as goal

pub returns-in_default : goal.returns-in_default
returns-in_default c = let p = c.args.self.now in one_row 2 0 2 0 16 12 4 6 tt p.mark p.a p.b (omega arith)
