-- `isa::decode` meets its contract: the lookup tells it.
use Rattle.isa.proofs.Answers.{decode_accepted, decode_refused}
use Rattle.isa.proofs.decode.Goals as goal

pub returns-in-None : goal.returns-in-None
returns-in-None c = decode_accepted c.args.word _ c.look_up-found.ensures c.in-None.is

pub returns-in-Some : goal.returns-in-Some
returns-in-Some c = decode_refused c.args.word _ c.look_up-found.ensures _ c.in-Some.is
