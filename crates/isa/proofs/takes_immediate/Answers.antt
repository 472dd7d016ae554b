-- `isa::takes_immediate` meets its contract: the row that takes the word says it, if there is one and its rule holds.
use mathlib.Core.Path.{◌∙◌}
use Rattle.isa.proofs.Answers.{immediate_none, immediate_refused, immediate_row}
use native.Mathlib.Omega.{arith}
use Rattle.isa.proofs.takes_immediate.Goals as goal

pub returns-then-is_none : goal.returns-then-is_none
returns-then-is_none c =
    c.asks_immediate.ensures
    ∙ immediate_row c.args.word (omega arith) c.of-fields.result c.of-fields.ensures c.in-Some.row c.in-Some.ensures c.named-named.result c.named-named.ensures _ c.rule_refusal.ensures _ c.is_none.ensures c.if-is_none.true

pub returns-else-is_none : goal.returns-else-is_none
returns-else-is_none c = immediate_refused c.args.word (omega arith) c.of-fields.result c.of-fields.ensures c.in-Some.row c.in-Some.ensures c.named-named.result c.named-named.ensures _ c.rule_refusal.ensures _ c.is_none.ensures c.if-is_none.false

pub returns-in-None : goal.returns-in-None
returns-in-None c = immediate_none c.args.word (omega arith) c.of-fields.result c.of-fields.ensures c.in-None.ensures
