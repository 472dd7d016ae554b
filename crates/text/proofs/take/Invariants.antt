-- `text::take` meets its contract: what is left to take, from where it stands, comes to the same as all of it.
use Rattle.std.proofs.Common.{◌≡◌, drop}
use Rattle.text.specs.Taking.{take_from}
use Rattle.text.proofs.take.Given as goal

abbrev pub invariant-loop-i : goal.invariant-loop-i
invariant-loop-i l = take_from l.i l.state (drop l.i l.text) l.words ≡ take_from 0 l.initial.state l.text l.initial.words
