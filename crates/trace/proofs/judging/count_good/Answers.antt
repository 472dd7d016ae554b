-- `trace::judging::count_good` meets its contract: each test is a part of the definition.
use borrow.Author.Tests.{eq-eqb, ne_eqb, lt-leb, le-leb}
use Rattle.trace.specs.Blocks.{count_good}
use Rattle.trace.proofs.judging.count_good.Goals as goal

pub returns-then-count-ge1 : goal.returns-then-count-ge1
unfolding count_good
returns-then-count-ge1 c = rw (eq-eqb _ _ c.if-left-eq0.true, le-leb _ _ c.if-count-ge1.true)

pub returns-else-count-ge1 : goal.returns-else-count-ge1
unfolding count_good
returns-else-count-ge1 c = rw (eq-eqb _ _ c.if-left-eq0.true, lt-leb _ _ c.if-count-ge1.false)

pub returns-else-left-eq0 : goal.returns-else-left-eq0
unfolding count_good
returns-else-left-eq0 c = rw (ne_eqb _ _ c.if-left-eq0.false)
