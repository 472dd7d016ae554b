-- Two outside vectors, for the nine bytes "123456789": what is customarily called CRC-16/XMODEM leaves 31C3, and CRC-16/KERMIT, each byte's lowest bit
-- first and by CRCR, leaves 2189. The quotients are given; the proof multiplies them.
use mathlib.Core.Path.{◌≡◌, refl}
use mathlib.Core.List.{List, [], ◌∷◌}
use Prim.Native.Nat.{ℕ}
use native.Mathlib.Omega.{arith}
use Rattle.machine.specs.declared.Machine.{Machine}
use Rattle.machine.specs.declared.Words.{Words}
use Rattle.machine.specs.Seeing.{register_at}
use Rattle.run.specs.Leading.{Leads}
use Rattle.remainder.specs.Remainder.{forward, reverse, Feeds, dividend, divisor, Remainder, mirror, Ready}
use Rattle.remainder.specs.Bytes.{high_first, low_first, bits_of}
use Rattle.remainder.proofs.Laws.{remainder_left}
use Rattle.remainder.proofs.Unique.{known_remainder}

abbrev nine : List ℕ
nine = 0x31 ∷ 0x32 ∷ 0x33 ∷ 0x34 ∷ 0x35 ∷ 0x36 ∷ 0x37 ∷ 0x38 ∷ 0x39 ∷ []

high_divided : Remainder (divisor 0x1021) (dividend 0 (bits_of high_first nine)) 0x31C3
high_divided = record { quotient = high_first 72 0x321512A9EC6416B5A3; makes = refl; small = omega arith }

low_divided : Remainder (divisor 0x1021) (dividend 0 (bits_of low_first nine)) 0x9184
low_divided = record { quotient = high_first 72 0x841D1A31EE8856F104; makes = refl; small = omega arith }

-- in the register, after the bytes have been put through it from 0
module _ (k : ℕ) (cycles : List Words) (m : Machine) where
  pub xmodem : Ready forward k 0 0x1021 m.registers → Feeds forward k (bits_of high_first nine) cycles
      → (n : Machine) × Leads m cycles n × (register_at n.registers k ≡ 0x31C3)
  xmodem ready feeds =
      let left = remainder_left forward k 0 0x1021 (bits_of high_first nine) cycles m ready feeds in
      (left.0, left.1, known_remainder forward k 0 0x1021 (bits_of high_first nine) m.registers left.0.registers 0x31C3 (omega arith) left.2 high_divided)

  pub kermit : Ready reverse k 0 0x1021 m.registers → Feeds reverse k (bits_of low_first nine) cycles
      → (n : Machine) × Leads m cycles n × (register_at n.registers k ≡ 0x2189)
  unfolding mirror
  kermit ready feeds =
      let left = remainder_left reverse k 0 0x1021 (bits_of low_first nine) cycles m ready feeds in
      (left.0, left.1, known_remainder reverse k 0 0x1021 (bits_of low_first nine) m.registers left.0.registers 0x9184 (omega arith) left.2 low_divided)

-- where ACC has 8408
pub mirrored_polynomial : mirror 16 0x1021 ≡ 0x8408
unfolding mirror
mirrored_polynomial = refl
