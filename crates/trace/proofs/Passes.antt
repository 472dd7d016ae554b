-- A pass over a byte: eight steps of the fold in one expression. Steps are linear, so a register and a byte fall into three parts, each of 256
-- values, which are computed.
-- The law: `pass_is`.
use mathlib.Core.Path.{◌≡◌, refl, sym, ap, ap₂, ◌∙◌}
use Prim.Native.Nat.{ℕ, zero, suc, ◌*◌, ◌/◌, ◌%◌, ◌^◌, ◌<◌}
use native.Mathlib.Omega.{arith}
use lib.Bits.{bit_xor, xor_lt, xor_mod, xor_comm, xor_shifted, xor_zero_r}
use Rattle.choice.proofs.Spans.{equal_below}
use Rattle.alu.specs.Width.{bit}
use Rattle.alu.specs.Flags.{stored_link, plain, linked, flagged, with_sign}
use Rattle.alu.specs.Operations.{moved_up, crc_step, crc_forward}
use Rattle.alu.proofs.Bits.{bit_xor_lem}
use Rattle.alu.proofs.Xors.{xor_assoc, xor_shl, xor_back}
use Rattle.alu.proofs.Linear.{crc_linear}
use Rattle.trace.specs.Folding.{fold_bit, fold_bits}

link_linear : (a b : ℕ) → stored_link (16 * (bit_xor a b % 2)) ≡ bit_xor (stored_link (16 * (a % 2))) (stored_link (16 * (b % 2)))
link_linear a b =
    let e : (x : ℕ) → stored_link (16 * (x % 2)) ≡ x % 2 = λ x. omega arith in
    e (bit_xor a b) ∙ xor_mod a b 1 ∙ ap₂ bit_xor (sym (e a)) (sym (e b))

bit_linear : (r s a b : ℕ) → fold_bit (bit_xor r s) (bit_xor a b) ≡ bit_xor (fold_bit r a) (fold_bit s b)
bit_linear r s a b = crc_linear 16 0x1021 r s (16 * (a % 2)) (16 * (b % 2)) (16 * (bit_xor a b % 2)) (link_linear a b)

bits_linear : (n r s a b : ℕ) → fold_bits n (bit_xor r s) (bit_xor a b) ≡ bit_xor (fold_bits n r a) (fold_bits n s b)
bits_linear zero r s a b = refl
bits_linear (suc n) r s a b =
    ap (λ (x : ℕ). fold_bits n x (bit_xor a b)) (ap (fold_bit (bit_xor r s)) (bit_xor_lem n a b) ∙ bit_linear r s (bit n a) (bit n b))
    ∙ bits_linear n (fold_bit r (bit n a)) (fold_bit s (bit n b)) a b

-- what comes over the register: the 1s of 1021, at 12, 5 and 0, for each 1 of what is fed
abbrev over : ℕ → ℕ
over fed = bit_xor (bit_xor (fed * 2 ^ 12 % 2 ^ 16) (fed * 2 ^ 5 % 2 ^ 16)) fed

-- The three parts. An upper byte, where the incoming bits are all 0: each of its bits is fed, and the first four once more, four steps later,
-- when the 1 at 12 leaves.
upper : (x : ℕ) → x < 2 ^ 8 → fold_bits 8 (x * 2 ^ 8) 0 ≡ over (bit_xor x (x / 2 ^ 4))
unfolding plain linked flagged with_sign moved_up crc_step crc_forward
upper x = equal_below (λ y. fold_bits 8 (y * 2 ^ 8) 0) (λ y. over (bit_xor y (y / 2 ^ 4))) (2 ^ 8) x tt

-- an upper byte that meets the same byte leaves nothing
met : (x : ℕ) → x < 2 ^ 8 → fold_bits 8 (x * 2 ^ 8) x ≡ 0
unfolding plain linked flagged with_sign moved_up crc_step crc_forward
met x = equal_below (λ y. fold_bits 8 (y * 2 ^ 8) y) (λ y. 0) (2 ^ 8) x tt

-- a lower byte moves up
lower : (x : ℕ) → x < 2 ^ 8 → fold_bits 8 x 0 ≡ x * 2 ^ 8
unfolding plain linked flagged with_sign moved_up crc_step crc_forward
lower x = equal_below (λ y. fold_bits 8 y 0) (λ y. y * 2 ^ 8) (2 ^ 8) x tt

module _ (register byte : ℕ) (word : register < 2 ^ 16) (small : byte < 2 ^ 8) where
  -- where the upper byte and the incoming bits differ
  abbrev differ : ℕ
  differ = bit_xor (register / 2 ^ 8) byte

  abbrev rest : ℕ
  rest = register % 2 ^ 8

  parted : register ≡ bit_xor (differ * 2 ^ 8) (bit_xor (byte * 2 ^ 8) rest)
  parted =
      sym
      (sym (xor_assoc (differ * 2 ^ 8) (byte * 2 ^ 8) rest)
      ∙ ap (λ (m : ℕ). bit_xor m rest) (xor_shl differ byte 8 ∙ ap (λ (m : ℕ). m * 2 ^ 8) (xor_back (register / 2 ^ 8) byte))
      ∙ xor_shifted (register / 2 ^ 8) 8 rest (omega arith) ∙ omega arith)

  pub pass_is : fold_bits 8 register byte ≡ bit_xor (register * 2 ^ 8 % 2 ^ 16) (over (bit_xor differ (differ / 2 ^ 4)))
  pass_is =
      let up : rest * 2 ^ 8 ≡ register * 2 ^ 8 % 2 ^ 16 = omega arith in
      ap (λ (r : ℕ). fold_bits 8 r byte) parted
      ∙ bits_linear 8 (differ * 2 ^ 8) (bit_xor (byte * 2 ^ 8) rest) 0 byte
      ∙ ap₂ bit_xor (upper differ (xor_lt 8 (register / 2 ^ 8) byte (omega arith) small))
      (ap (fold_bits 8 (bit_xor (byte * 2 ^ 8) rest)) (sym (xor_zero_r byte)) ∙ bits_linear 8 (byte * 2 ^ 8) rest byte 0
      ∙ ap₂ bit_xor (met byte small) (lower rest (omega arith)) ∙ up)
      ∙ xor_comm (over (bit_xor differ (differ / 2 ^ 4))) (register * 2 ^ 8 % 2 ^ 16)
