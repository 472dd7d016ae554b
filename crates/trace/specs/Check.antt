-- The check of a block, by the machine's own CRCF (document 01, blocks).
use Rattle.std.specs.Prelude.{ℕ, zero, suc, ◌*◌, ◌%◌, List, [], ◌∷◌, replicate}
use Rattle.alu.specs.Width.{bit}
use Rattle.machine.specs.declared.Waiting.TheVariants.{Nothing}
use Rattle.machine.specs.declared.Machine.{Machine}
use Rattle.machine.specs.declared.Words.{Words}
use Rattle.machine.specs.Seeing.{register_at}
use Rattle.machine.specs.Cycles.{cycle_of}

-- the register is R0 and starts at 0; ACC has 1021
abbrev pub check_start : Machine
check_start = record { registers = record { ram = replicate 32 0; acc = 0x1021; latch = 0; status = 0; waiting = Nothing } }

-- CRCF on R0: quadrant 2, A 6, B 3, C 0, word mode; with pins 0 it is carried out, and no input is taken
abbrev pub crc_cycle : Words
crc_cycle = record { lines = 0xCC60; input = 0; pins = 0 }

-- a bit put into LINK, bit 4 of the status; CRCF reads no other
abbrev pub with_link : Machine → ℕ → Machine
with_link m b = record {
  registers = record { ram = m.registers.ram; acc = m.registers.acc; latch = m.registers.latch; status = 16 * (b % 2); waiting = m.registers.waiting };
}

abbrev pub check_bit : Machine → ℕ → Machine
check_bit m b = (cycle_of (with_link m b) crc_cycle).machine

-- the lowest n bits of a byte, the highest of them first
abbrev pub check_bits : ℕ → Machine → ℕ → Machine
check_bits zero m byte = m
check_bits (suc n) m byte = check_bits n (check_bit m (bit n byte)) byte

abbrev pub check_bytes : Machine → List ℕ → Machine
check_bytes m [] = m
check_bytes m (byte ∷ bytes) = check_bytes (check_bits 8 m byte) bytes

unfoldable pub check_of : List ℕ → ℕ
check_of bytes = register_at (check_bytes check_start bytes).registers 0
