-- `machine::acting::acted` meets its contract: its parts are those of the definition.
use Rattle.machine.specs.Acting.{effect_of}
use Rattle.machine.proofs.acting.acted.Goals as goal

pub returns : goal.returns
unfolding effect_of
returns c = rw (c.effect_by.ensures, c.performed.ensures)
