-- `trace::copying::copy_all` meets its contract: the loop of proofs/Copied.
use Rattle.trace.proofs.Copied.{Before}
use Rattle.trace.proofs.copying.copy_all.Given as goal

abbrev pub invariant-loop-block : goal.invariant-loop-block
invariant-loop-block l = Before 3 l.blocks l.initial.cycles l.cycles l.block-index l.filled
