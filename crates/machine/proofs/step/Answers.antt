-- `machine::step` meets its contract: each way out is what the cycle's judgement leads to.
use Rattle.machine.proofs.Decided.{looked_named}
use Rattle.machine.proofs.Steps.{refuses, waits_first, performs_last}
use Rattle.machine.proofs.step.Goals as goal

pub returns-in-Err : goal.returns-in-Err
returns-in-Err c =
    refuses c.args.ram.now c.args.core c.args.words _ c.in-Err.ensures _
    (looked_named c.args.core.waiting c.args.words.lines _ c.look_up-found.ensures)

pub returns-then-judged : goal.returns-then-judged
returns-then-judged c = rw c.waits.ensures (waits_first c.args.ram.now c.args.core c.args.words c.in-Ok.judged (c.in-Ok.ensures.0, c.in-Ok.ensures.1) _ c.latched-before.ensures c.if-judged.true)

pub returns : goal.returns
returns c = performs_last c.args.ram.now c.args.core c.args.words c.in-Ok.judged (c.in-Ok.ensures.0, c.in-Ok.ensures.1) _ c.latched-before.ensures c.if-judged.false _ _ c.performs.ensures
