-- `streams::digits::hex` meets its contract: what is left goes on from the number so far.
use Rattle.std.proofs.Common.{◌≡◌, drop}
use Rattle.streams.specs.Digits.{hex_from}
use Rattle.streams.proofs.digits.hex.Given as goal

abbrev pub invariant-loop-digit : goal.invariant-loop-digit
invariant-loop-digit l = hex_from l.number (drop l.digit-index l.digits) ≡ hex_from 0 l.digits
