-- `isa::look_up` meets its contract: no row, or the row of the family that was found.
use Rattle.isa.proofs.Answers.{look_none, look_row}
use native.Mathlib.Omega.{arith}
use Rattle.isa.proofs.look_up.Goals as goal

pub returns-in-None : goal.returns-in-None
returns-in-None c = look_none c.args.word (omega arith) c.of-fields.result c.of-fields.ensures c.family.result c.family.ensures c.in-None.is c.named.result c.named.ensures

pub returns-in-Some : goal.returns-in-Some
returns-in-Some c = look_row c.args.word (omega arith) c.of-fields.result c.of-fields.ensures c.family.result c.family.ensures c.in-Some.family c.in-Some.is c.named-in-Some.result c.named-in-Some.ensures _ (rw c.rule_of.ensures at c.rule_refusal.ensures)
