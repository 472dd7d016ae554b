-- `trace::checking::check_byte` meets its contract: the one expression is eight steps.
use mathlib.Core.Path.{sym}
use borrow.Author.Rules.{rules}
use Rattle.trace.proofs.Passes.{pass_is}
use Rattle.trace.proofs.checking.check_byte.Goals as goal

pub returns : goal.returns
returns c = rw c.from.ensures (sym (pass_is c.args.register c.args.byte (search rules) (search rules)))
