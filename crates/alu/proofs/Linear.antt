-- CRCF is linear: its result for the xor of two registers, with the xor of their LINKs and the same ACC, is the xor of its results for each.
use mathlib.Core.Path.{◌≡◌, refl, sym, ap, ap₂, ◌∙◌}
use Prim.Native.Nat.{ℕ, ◌-◌, ◌*◌, ◌%◌, ◌^◌, ◌<◌}
use native.Mathlib.Nat.{add-zero}
use lib.Bits.{bit_xor, xor_lt, xor_mod, xor_self, xor_zero_r}
use Rattle.alu.specs.Width.{bit}
use Rattle.alu.specs.Flags.{stored_link, plain, linked, with_sign}
use Rattle.alu.specs.Operations.{gated, moved_up, crc_step, crc_forward}
use Rattle.alu.proofs.Bits.{bits, bit_lt, bit_xor_lem}
use Rattle.alu.proofs.Xors.{xor_exchange, xor_shl}

up_linear : (w r s : ℕ) → moved_up w (bit_xor r s) 0 ≡ bit_xor (moved_up w r 0) (moved_up w s 0)
unfolding moved_up
up_linear w r s = simp add-zero (ap (λ (x : ℕ). x % 2 ^ w) (sym (xor_shl r s 1)) ∙ xor_mod (r * 2) (s * 2) w)

gated_linear : (acc f g : ℕ) → f < 2 → g < 2 → gated (bit_xor f g) acc ≡ bit_xor (gated f acc) (gated g acc)
gated_linear acc = bits (λ (f g : ℕ). gated (bit_xor f g) acc ≡ bit_xor (gated f acc) (gated g acc)) refl refl (sym (xor_zero_r acc)) (sym (xor_self acc))

module _ (w acc : ℕ) where
  -- whether ACC comes over the register: it does where LINK and the bit that leaves differ
  abbrev pub fed : ℕ → ℕ → ℕ
  fed register status = bit_xor (stored_link status) (bit (w - 1) register)

  pub fed_lt : (register status : ℕ) → fed register status < 2
  fed_lt register status = xor_lt 1 (stored_link status) (bit (w - 1) register) (bit_lt 4 status) (bit_lt (w - 1) register)

  pub step_is : (register status : ℕ) → (crc_forward w register acc status).result ≡ bit_xor (moved_up w register 0) (gated (fed register status) acc)
  unfolding plain linked with_sign crc_step crc_forward
  step_is register status = refl

  module _ (r s p q both : ℕ) (link : stored_link both ≡ bit_xor (stored_link p) (stored_link q)) where
    fed_linear : fed (bit_xor r s) both ≡ bit_xor (fed r p) (fed s q)
    fed_linear = ap₂ bit_xor link (bit_xor_lem (w - 1) r s) ∙ xor_exchange (stored_link p) (stored_link q) (bit (w - 1) r) (bit (w - 1) s)

    pub crc_linear : (crc_forward w (bit_xor r s) acc both).result ≡ bit_xor (crc_forward w r acc p).result (crc_forward w s acc q).result
    crc_linear =
        step_is (bit_xor r s) both
        ∙ ap₂ (λ (m f : ℕ). bit_xor m (gated f acc)) (up_linear w r s) fed_linear
        ∙ ap (bit_xor (bit_xor (moved_up w r 0) (moved_up w s 0))) (gated_linear acc (fed r p) (fed s q) (fed_lt r p) (fed_lt s q))
        ∙ xor_exchange (moved_up w r 0) (moved_up w s 0) (gated (fed r p) acc) (gated (fed s q) acc)
        ∙ sym (ap₂ bit_xor (step_is r p) (step_is s q))
