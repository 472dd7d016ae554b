-- For the contract of a private part and a law: the check on the register alone (document 02, §6); of the machine in specs/Check only the register and
-- the incoming bit are carried.
-- `fold_bits` is for the contract of a pass over a byte, `fold_bytes` for `check_fold` (proofs/Folded), which says that it is the same check.
use Rattle.std.specs.Prelude.{ℕ, zero, suc, ◌*◌, ◌%◌, List, [], ◌∷◌}
use Rattle.alu.specs.Width.{bit}
use Rattle.alu.specs.Operations.{crc_forward}

-- the register after a bit: CRCF's result at 16 bits, with 1021 in ACC and the bit in LINK, bit 4 of the status
abbrev pub fold_bit : ℕ → ℕ → ℕ
fold_bit register b = (crc_forward 16 register 0x1021 (16 * (b % 2))).result

-- after the lowest n bits of a byte, the highest of them first
abbrev pub fold_bits : ℕ → ℕ → ℕ → ℕ
fold_bits zero register byte = register
fold_bits (suc n) register byte = fold_bits n (fold_bit register (bit n byte)) byte

abbrev pub fold_bytes : ℕ → List ℕ → ℕ
fold_bytes register [] = register
fold_bytes register (byte ∷ bytes) = fold_bytes (fold_bits 8 register byte) bytes
