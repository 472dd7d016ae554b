-- `streams::digits::decimal` meets its contract: what is left goes on from the number so far.
use Rattle.std.proofs.Common.{◌≡◌, drop}
use Rattle.streams.specs.Digits.{decimal_from}
use Rattle.streams.proofs.digits.decimal.Given as goal

abbrev pub invariant-loop-digit : goal.invariant-loop-digit
invariant-loop-digit l = decimal_from l.number (drop l.digit-index l.digits) ≡ decimal_from 0 l.digits
