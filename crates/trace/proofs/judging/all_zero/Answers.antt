-- `trace::judging::all_zero` meets its contract: the definition goes byte by byte.
use Rattle.std.proofs.Common.{refl, rules}
use lib.Dec.{eqb}
use Rattle.std.proofs.lemmas.List.Recursion.{and_is}
use Rattle.trace.specs.Blocks.{all_zero}
use Rattle.trace.proofs.Words.{pick_and}
use Rattle.trace.proofs.judging.all_zero.Goals as goal

pub returns : goal.returns
returns c = and_is all_zero (λ x. eqb x 0) refl (λ x l. pick_and (eqb x 0) (all_zero l)) c.args.bytes.now 0 _ (search rules) (search rules)
