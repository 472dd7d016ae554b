-- `isa::parts::Fields::operations_2` meets its contract: each arm is a stretch of fields over which the slot is what the arm answers.
use mathlib.Core.Path.{◌≡◌}
use Prim.Native.Nat.{◌<◌, ◌≤◌}
use native.Mathlib.Omega.{arith}
use lib.Dec.{eqb}
use Rattle.choice.specs.Pick.{pick}
use Rattle.isa.specs.Sets.{has}
use Rattle.isa.specs.Table.{shifts, no_row}
use Rattle.isa.proofs.Arms.{one_row, by_rule, by_b, parted, some_listed}
use Rattle.isa.proofs.parts.Fields.operations_2.Goals as goal

pub returns-then-self-eq0 : goal.returns-then-self-eq0
returns-then-self-eq0 c = let p = c.args.self.now in by_rule 2 0 1 6 1 0 12 (λ m a b. pick (has shifts b) 8 no_row) tt p.mark p.a p.b _ (omega arith) (some_listed shifts 12 p.b _ _ _ c.is_shift.ensures c.requires c.then_some.ensures)

pub returns-else-self-eq0 : goal.returns-else-self-eq0
returns-else-self-eq0 c = let p = c.args.self.now in by_b 2 1 1 6 1 0 12 1 6 tt p.mark p.a p.b _ 12 (omega arith) (omega arith) c.shift_or_check_2.ensures

pub returns-in-7 : goal.returns-in-7
returns-in-7 c = let p = c.args.self.now in by_rule 2 0 2 7 1 0 12 (λ m a b. pick (eqb b 10) 14 (pick (has shifts b) 8 no_row)) tt p.mark p.a p.b _ (omega arith) c.shift_or_save.ensures

pub returns-in-12-to-15 : goal.returns-in-12-to-15
returns-in-12-to-15 c = let p = c.args.self.now in by_b 2 0 2 12 4 0 12 0 12 tt p.mark p.a p.b _ 12 (omega arith) (omega arith) c.one_operand_2.ensures

pub returns-in_default : goal.returns-in_default
returns-in_default c = let p = c.args.self.now in one_row 2 0 2 0 1 0 12 27 tt p.mark p.a p.b (omega arith)

pub returns-in_default-2 : goal.returns-in_default-2
returns-in_default-2 c = let p = c.args.self.now in parted p.a 5 (λ h. one_row 2 0 2 3 2 0 12 27 tt p.mark p.a p.b (omega arith)) (λ h. one_row 2 0 2 9 1 0 12 27 tt p.mark p.a p.b (omega arith))

pub returns-in-8 : goal.returns-in-8
returns-in-8 c = let p = c.args.self.now in let lo : 8 ≤ p.a = grind arith in let hi : p.a < 12 = grind arith in let ne : p.a ≡ 9 → ⊥ = grind arith in parted p.a 9 (λ h. by_b 2 0 2 8 1 0 12 0 8 tt p.mark p.a p.b _ 12 (omega arith) (omega arith) c.prioritize_2.ensures) (λ h. by_b 2 0 2 10 2 0 12 0 8 tt p.mark p.a p.b _ 12 (omega arith) (omega arith) c.prioritize_2.ensures)

pub returns-in-1-to-2 : goal.returns-in-1-to-2
returns-in-1-to-2 c = let p = c.args.self.now in one_row 2 0 2 5 1 0 12 7 tt p.mark p.a p.b (omega arith)

pub returns-in-1-to-2-2 : goal.returns-in-1-to-2-2
returns-in-1-to-2-2 c = let p = c.args.self.now in one_row 2 0 2 1 2 0 12 7 tt p.mark p.a p.b (omega arith)
