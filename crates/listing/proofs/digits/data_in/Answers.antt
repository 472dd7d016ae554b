use Rattle.std.proofs.Common.{arith}
use Rattle.listing.proofs.Hex.{four_read}
use Rattle.listing.proofs.digits.data_in.Goals as goal

pub returns : goal.returns
returns c =
    four_read c.args.text.now c.in_ok-digit_of.field-0 c.in_ok-high.field-0 c.in_ok-digit_of-2.field-0 c.in_ok-low.field-0 (omega arith)
    c.in_ok-digit_of.ensures c.in_ok-high.ensures c.in_ok-digit_of-2.ensures c.in_ok-low.ensures
