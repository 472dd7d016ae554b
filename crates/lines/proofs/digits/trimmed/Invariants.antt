-- `lines::digits::trimmed` meets its contract: the zeros so far are passed over.
use Rattle.std.proofs.Common.{◌≡◌, length}
use Rattle.choice.specs.Text.{trimmed}
use Rattle.lines.proofs.digits.trimmed.Given as goal

abbrev pub invariant-loop-rest : goal.invariant-loop-rest
invariant-loop-rest l = trimmed l.rest ≡ trimmed l.digits

abbrev pub decreases-loop-rest : goal.decreases-loop-rest
decreases-loop-rest l = length l.rest
