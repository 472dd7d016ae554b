-- `run::run_cycles` meets its contract: `Before` holds before each cycle, and each way out has its law in proofs/Loop.
use mathlib.Core.Path.{refl, ap, ◌∙◌}
use native.Mathlib.Omega.{arith}
use Rattle.machine.specs.Cycles.{cycle_of}
use Rattle.machine.specs.Stepping.{machine_from}
use Rattle.run.proofs.Loop.{finishes, stops, refuses, again, cycle_cut}
use Rattle.run.proofs.run_cycles.Goals as goal

pub returns-then-budget-i : goal.returns-then-budget-i
returns-then-budget-i c = rw c.ended.ensures (stops c.loop-i.invariant c.requires.2 (omega (arith, c.loop-i-test.true, c.as_chunks.ensures.front_len)) c.if-budget-i.true)

pub returns-in-Err : goal.returns-in-Err
returns-in-Err c =
    rw (c.ended-in-Err.ensures, c.into.ensures)
    (refuses c.loop-i.invariant c.requires.2 (omega (arith, c.loop-i-test.true, c.as_chunks.ensures.front_len)) c.if-budget-i.false _
    (c.in-Err.ensures.turn ∙ ap (cycle_of (machine_from c.loop-i.ram c.loop-i.core)) (cycle_cut c.args.words.now _ c.loop-i.i c.as_chunks.ensures.front (omega (arith, c.loop-i-test.true, c.as_chunks.ensures.front_len)))) _ refl)

pub loop-i-preserved : goal.loop-i-preserved
loop-i-preserved c =
    rw c.instructions-completed.ensures
    (again c.loop-i.invariant c.requires.2 (omega (arith, c.loop-i-test.true, c.as_chunks.ensures.front_len)) c.if-budget-i.false _
    (c.in-Ok.ensures.turn ∙ ap (cycle_of (machine_from c.loop-i.ram c.loop-i.core)) (cycle_cut c.args.words.now _ c.loop-i.i c.as_chunks.ensures.front (omega (arith, c.loop-i-test.true, c.as_chunks.ensures.front_len)))) c.in-Ok.stepped.report _ refl c.put.ensures)

pub returns : goal.returns
returns c = rw c.ended-2.ensures (finishes c.loop-i.invariant c.requires.2 _ c.as_chunks.ensures.front_len (omega (arith, c.loop-i-test.false, c.as_chunks.ensures.front_len)))
