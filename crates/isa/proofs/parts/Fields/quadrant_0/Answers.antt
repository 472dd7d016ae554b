-- `isa::parts::Fields::quadrant_0` meets its contract: each arm is a stretch of fields over which the slot is what the arm answers.
use Rattle.isa.proofs.Arms.{one_row, by_a, parted}
use native.Mathlib.Omega.{arith}
use Rattle.isa.proofs.parts.Fields.quadrant_0.Goals as goal

pub returns-in-13 : goal.returns-in-13
returns-in-13 c = let p = c.args.self.now in one_row 0 0 2 0 16 13 1 27 tt p.mark p.a p.b (omega arith)

pub returns-in-0-to-11 : goal.returns-in-0-to-11
returns-in-0-to-11 c = let p = c.args.self.now in by_a 0 0 2 0 16 0 12 0 0 tt p.mark p.a p.b _ 16 (omega arith) (omega arith) c.two_operand_0.ensures

pub returns-in_default : goal.returns-in_default
returns-in_default c = let p = c.args.self.now in parted p.b 13 (λ h. one_row 0 0 2 0 16 12 1 1 tt p.mark p.a p.b (omega arith)) (λ h. one_row 0 0 2 0 16 14 2 1 tt p.mark p.a p.b (omega arith))
