-- The check of some bytes, which document 01 works out by CRCF, is a remainder: that of their bits moved up by 16, divided by x^16 plus the
-- polynomial 1021.
use mathlib.Core.Path.{◌≡◌, refl}
use mathlib.Core.Bool.{Bool, true}
use mathlib.Core.List.{List, [], ◌∷◌, ◌++◌, append-nil, append_assoc}
use Prim.Native.Nat.{ℕ, zero, suc, ◌*◌, ◌%◌}
use native.Mathlib.Omega.{arith}
use borrow.Author.Tests.{eqb-true}
use lib.Dec.{eqb}
use Rattle.alu.specs.Width.{bit}
use Rattle.alu.specs.Flags.{stored_link}
use Rattle.alu.proofs.Bits.{bit_cases, bit_lt}
use Rattle.trace.specs.Check.{check_of}
use Rattle.trace.specs.Layout.{checked_bytes, part}
use Rattle.trace.specs.Blocks.{check_held, check_good}
use Rattle.trace.specs.Folding.{fold_bit, fold_bits, fold_bytes}
use Rattle.trace.proofs.Folded.{check_fold}
use Rattle.remainder.specs.Remainder.{digit, dividend, divisor, Remainder}
use Rattle.remainder.specs.Bytes.{high_first, bits_of}
use Rattle.remainder.proofs.Division.{no_bits, one_bit}

-- after some bits of the bytes
abbrev Left : List Bool → ℕ → Type 0
Left bits r = Remainder (divisor 0x1021) (dividend 0 bits) r

bit_in_link : (n byte : ℕ) → stored_link (16 * (bit n byte % 2)) ≡ digit (eqb (bit n byte) 1)
bit_in_link n byte = bit_cases (λ (b : ℕ). stored_link (16 * (b % 2)) ≡ digit (eqb b 1)) refl refl (bit n byte) (bit_lt n byte)

bits_left : (n : ℕ) (bits : List Bool) (r byte : ℕ) → Left bits r → Left (bits ++ high_first n byte) (fold_bits n r byte)
bits_left zero bits r byte h = rw append-nil h
bits_left (suc n) bits r byte h =
    let b : Bool = eqb (bit n byte) 1 in
    let more = one_bit 0x1021 0 bits b r (16 * (bit n byte % 2)) (omega arith) (bit_in_link n byte) h in
    rw append_assoc at (bits_left n (bits ++ b ∷ []) (fold_bit r (bit n byte)) byte more)

bytes_left : (bytes : List ℕ) (bits : List Bool) (r : ℕ) → Left bits r → Left (bits ++ bits_of high_first bytes) (fold_bytes r bytes)
bytes_left [] bits r h = rw append-nil h
bytes_left (byte ∷ bytes) bits r h = rw append_assoc at (bytes_left bytes (bits ++ high_first 8 byte) (fold_bits 8 r byte) (bits_left 8 bits r byte h))

pub check_remainder : (bytes : List ℕ) → Remainder (divisor 0x1021) (dividend 0 (bits_of high_first bytes)) (check_of bytes)
check_remainder bytes = rw (check_fold bytes) (bytes_left bytes [] 0 (no_bits 0x1021 0 (omega arith)))

-- so the check word of a block that 12 does not refuse is the remainder of its bytes 0 to 509
pub block_remainder : (block : List ℕ) → check_good block ≡ true
    → Remainder (divisor 0x1021) (dividend 0 (bits_of high_first (part 0 checked_bytes block))) (check_held block)
unfolding check_good
block_remainder block good =
    let bytes = part 0 checked_bytes block in
    rw (eqb-true (check_of bytes) (check_held block) good) at (check_remainder bytes)
