-- What an instruction sees: the named register, ACC, D and the I operand at its width, and the status (document 01, what the instructions
-- do).
use Rattle.std.specs.Prelude.{ℕ, ◌+◌, ◌*◌, ◌/◌, ◌%◌, get_or}
use Rattle.alu.specs.declared.Mode.{Mode}
use Rattle.alu.specs.Width.{width_of, low}
use Rattle.plan.specs.declared.Source.{Source}
use Rattle.plan.specs.declared.Source.TheVariants.{Zero, Ram, Acc, Latch, Immediate, LatchZeroExtended, LatchSignExtended}
use Rattle.machine.specs.declared.Registers.{Registers}
use Rattle.machine.specs.declared.View.{View}

-- what the register of an address holds
abbrev pub register_at : Registers → ℕ → ℕ
register_at r k = get_or r.ram (k % 32) 0

unfoldable pub view_of : Mode → ℕ → Registers → ℕ → View
view_of mode k r immediate = record {
  ram = low (width_of mode) (register_at r k);
  acc = low (width_of mode) r.acc;
  latch = low (width_of mode) r.latch;
  immediate = low (width_of mode) immediate;
  status = r.status;
}

-- D's low byte with zeros above it, and with its top bit above it (document 01, D(0E) and D(SE))
abbrev pub zero_extended : ℕ → ℕ
zero_extended x = x % 256

abbrev pub sign_extended : ℕ → ℕ
sign_extended x = x % 256 + x % 256 / 128 * 0xFF00

-- every operation takes its operands' parts at the width, so in byte mode only the low byte of either extension counts
abbrev pub operand_of : Source → View → ℕ
operand_of Zero v = 0
operand_of Ram v = v.ram
operand_of Acc v = v.acc
operand_of Latch v = v.latch
operand_of Immediate v = v.immediate
operand_of LatchZeroExtended v = zero_extended v.latch
operand_of LatchSignExtended v = sign_extended v.latch
