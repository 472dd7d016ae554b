-- What is written: the only place where a register changes (document 01, the machine and one cycle; what the instructions do).
use Rattle.std.specs.Prelude.{◌≡◌, ℕ, ◌/◌, ◌%◌, List, map, get_or, set}
use Rattle.choice.specs.Pick.{pick}
use Rattle.alu.specs.declared.Mode.{Mode}
use Rattle.alu.specs.Width.{width_of, write_back}
use Rattle.plan.specs.declared.Destination.{Destination}
use Rattle.plan.specs.declared.Destination.TheVariants.{ToY, ToAcc, ToRam, ToStatus, ToAccAndStatus}
use Rattle.machine.specs.declared.Waiting.{Waiting}
use Rattle.machine.specs.declared.Waiting.TheVariants.{Nothing}
use Rattle.machine.specs.declared.Registers.{Registers}
use Rattle.machine.specs.declared.Effect.{Effect}
use Rattle.machine.specs.Pins.{ien_high, both_low, dle_high}

-- DLE high: D takes the Y input, before the instruction reads it
abbrev pub latched : Registers → ℕ → ℕ → Registers
latched r input pins = record { ram = r.ram; acc = r.acc; latch = pick (dle_high pins) input r.latch; status = r.status; waiting = r.waiting }

abbrev pub with_waiting : Registers → Waiting → Registers
with_waiting r w = record { ram = r.ram; acc = r.acc; latch = r.latch; status = r.status; waiting = w }

-- what byte mode keeps of a word
abbrev pub upper_byte : ℕ → ℕ
upper_byte x = x / 256

-- a result in register k; the part above the width stays
abbrev pub ram_after : Destination → Mode → ℕ → ℕ → List ℕ → List ℕ
ram_after ToY mode k y ram = ram
ram_after ToAcc mode k y ram = ram
ram_after ToRam mode k y ram = set ram (k % 32) (write_back (width_of mode) (get_or ram (k % 32) 0) y)
ram_after ToStatus mode k y ram = ram
ram_after ToAccAndStatus mode k y ram = ram

abbrev pub acc_after : Destination → Mode → ℕ → ℕ → ℕ
acc_after ToY mode y acc = acc
acc_after ToAcc mode y acc = write_back (width_of mode) acc y
acc_after ToRam mode y acc = acc
acc_after ToStatus mode y acc = acc
acc_after ToAccAndStatus mode y acc = write_back (width_of mode) acc y

abbrev pub status_after : ℕ → ℕ → ℕ → ℕ
status_after old new pins = pick (both_low pins) new old

-- IEN low: RAM and ACC are written if named. IEN and SRE low: the status changes. Nothing waits any more
unfoldable pub settled_of : Mode → ℕ → Registers → Effect → ℕ → Registers
settled_of mode k r e pins = record {
  ram = pick (ien_high pins) r.ram (ram_after e.destination mode k e.result r.ram);
  acc = pick (ien_high pins) r.acc (acc_after e.destination mode e.result r.acc);
  latch = r.latch;
  status = status_after r.status e.status pins;
  waiting = Nothing;
}

-- for laws: the upper byte of each RAM word and of ACC is the same in both
pub record UpperBytesKept (start end : Registers) : Type 0 where
  pub ram : map upper_byte end.ram ≡ map upper_byte start.ram
  pub acc : upper_byte end.acc ≡ upper_byte start.acc
