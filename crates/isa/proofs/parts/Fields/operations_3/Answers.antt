-- `isa::parts::Fields::operations_3` meets its contract: each arm is a stretch of fields over which the slot is what the arm answers.
use native.Mathlib.Omega.{arith}
use lib.Dec.{eqb}
use Rattle.choice.specs.Pick.{pick}
use Rattle.isa.specs.Sets.{has}
use Rattle.isa.specs.Table.{shifts, no_row}
use Rattle.isa.proofs.Arms.{one_row, by_rule, by_b, some_listed}
use Rattle.isa.proofs.parts.Fields.operations_3.Goals as goal

pub returns-in-6 : goal.returns-in-6
returns-in-6 c = let p = c.args.self.now in by_rule 3 0 2 6 1 0 12 (λ m a b. pick (has shifts b) 17 no_row) tt p.mark p.a p.b _ (omega arith) (some_listed shifts 12 p.b _ _ _ c.is_shift.ensures c.requires c.then_some.ensures)

pub returns-in-7 : goal.returns-in-7
returns-in-7 c = let p = c.args.self.now in by_rule 3 0 2 7 1 0 12 (λ m a b. pick (eqb b 10) 22 (pick (has shifts b) 17 no_row)) tt p.mark p.a p.b _ (omega arith) c.shift_or_save.ensures

pub returns-in-12-to-15 : goal.returns-in-12-to-15
returns-in-12-to-15 c = let p = c.args.self.now in by_b 3 0 2 12 4 0 12 0 12 tt p.mark p.a p.b _ 12 (omega arith) (omega arith) c.one_operand_3.ensures

pub returns-in_default : goal.returns-in_default
returns-in_default c = let p = c.args.self.now in one_row 3 0 2 0 1 0 12 27 tt p.mark p.a p.b (omega arith)

pub returns-in_default-2 : goal.returns-in_default-2
returns-in_default-2 c = let p = c.args.self.now in one_row 3 0 2 3 2 0 12 27 tt p.mark p.a p.b (omega arith)

pub returns-in-1-to-2 : goal.returns-in-1-to-2
returns-in-1-to-2 c = let p = c.args.self.now in one_row 3 0 2 5 1 0 12 16 tt p.mark p.a p.b (omega arith)

pub returns-in-1-to-2-2 : goal.returns-in-1-to-2-2
returns-in-1-to-2-2 c = let p = c.args.self.now in one_row 3 0 2 1 2 0 12 16 tt p.mark p.a p.b (omega arith)
