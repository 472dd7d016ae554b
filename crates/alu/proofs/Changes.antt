-- What every operation does to the result and the status: bounds, what stays, and which kind changes which bit.
-- The laws, in this order: `plus_carry`, `result_lt`, `flags_stay`, `link_stays`, `status_lt`, `zero_flag`, `sign_flag_lem`, `no_carry`.
use mathlib.Core.Path.{◌≡◌, sym, ap, ◌∙◌}
use Prim.Native.Nat.{ℕ, ◌+◌, ◌-◌, ◌/◌, ◌%◌, ◌^◌, ◌<◌}
use native.Mathlib.Nat.{mod-eq_of_lt}
use native.Mathlib.Omega.{arith}
use lib.Dec.{T, lit<}
use lib.Bits.{bit_xor, xor_lt}
use Rattle.choice.specs.Pick.{pick}
use Rattle.alu.specs.declared.Outcome.{Outcome}
use Rattle.alu.specs.declared.Operation.{Operation}
use Rattle.alu.specs.Width.{bit, low}
use Rattle.alu.specs.Flags.{stored_c, stored_n, stored_ovr, stored_link, sign_flag, flagged, with_sign, plain, linked}
use Rattle.alu.specs.Operations.{plus, xnor_sign, carry_into, outcome_of}
use Rattle.alu.proofs.Fits.{low_lt}
use Rattle.alu.proofs.Bits.{bit_lt, bit_low}
use Rattle.alu.specs.Kinds.{Kind, keeps_link, clears_carry, shows_sign, kind_of}
use Rattle.alu.proofs.Shapes.{Shape, summed, bare, unsigned, moved, shape}

-- The status byte's own laws.

module _ (z c n ovr status : ℕ) where
  flagged_stays : flagged z c n ovr status / 16 ≡ status / 16
  unfolding flagged
  flagged_stays = omega arith

  pub flagged_zero : bit 0 (flagged z c n ovr status) ≡ z % 2
  unfolding flagged
  flagged_zero = omega arith

  pub flagged_c : stored_c (flagged z c n ovr status) ≡ c % 2
  unfolding flagged
  flagged_c = omega arith

  pub flagged_n : stored_n (flagged z c n ovr status) ≡ n % 2
  unfolding flagged
  flagged_n = omega arith

  pub flagged_ovr : stored_ovr (flagged z c n ovr status) ≡ ovr % 2
  unfolding flagged
  flagged_ovr = omega arith

module _ (out : ℕ) (o : Outcome) where
  linked_flags : (linked out o).status / 32 ≡ o.status / 32
  unfolding linked
  linked_flags = omega arith

  pub linked_link : stored_link (linked out o).status ≡ out % 2
  unfolding linked
  linked_link = omega arith

  linked_below : (linked out o).status % 16 ≡ o.status % 16
  unfolding linked
  linked_below = omega arith

-- the four low bits are seen in what is left of 16
same_low_bits : (i s t : ℕ) → i < 4 → s % 16 ≡ t % 16 → bit i s ≡ bit i t
same_low_bits i s t h e = sym (bit_low 4 i s h) ∙ ap (bit i) e ∙ bit_low 4 i t h

-- the flags of a result that carries nothing
module _ (w n y status : ℕ) (h : y < 2 ^ w) where
  with_sign_zero : bit 0 (with_sign w n y status).status ≡ 1 - (with_sign w n y status).result
  unfolding with_sign
  with_sign_zero = flagged_zero _ _ _ _ _ ∙ rw (mod-eq_of_lt h) (omega arith)

  with_sign_sign : stored_n (with_sign w n y status).status ≡ n % 2
  unfolding with_sign
  with_sign_sign = flagged_n _ _ _ _ _

  with_sign_carry : stored_c (with_sign w n y status).status ≡ 0
  unfolding with_sign
  with_sign_carry = flagged_c _ _ _ _ _

  with_sign_overflow : stored_ovr (with_sign w n y status).status ≡ 0
  unfolding with_sign
  with_sign_overflow = flagged_ovr _ _ _ _ _

  with_sign_stays : (with_sign w n y status).status / 16 ≡ status / 16
  unfolding with_sign
  with_sign_stays = flagged_stays _ _ _ _ _

-- the flags of a sum
module _ (w a b k status : ℕ) where
  plus_zero : bit 0 (plus w a b k status).status ≡ 1 - (plus w a b k status).result
  unfolding plus
  plus_zero = flagged_zero _ _ _ _ _ ∙ omega arith

  pub plus_carry : stored_c (plus w a b k status).status ≡ carry_into w a b k
  unfolding plus
  plus_carry = flagged_c _ _ _ _ _ ∙ omega arith

  plus_sign : 0 < w → stored_n (plus w a b k status).status ≡ bit (w - 1) (plus w a b k status).result
  unfolding plus
  plus_sign wide = flagged_n _ _ _ _ _ ∙ omega arith ∙ sym (bit_low w (w - 1) (a + b + k) (omega arith))

  pub plus_overflow : stored_ovr (plus w a b k status).status ≡ bit_xor (carry_into w a b k) (carry_into (w - 1) a b k)
  unfolding plus
  plus_overflow =
      flagged_ovr _ _ _ _ _
      ∙ mod-eq_of_lt (xor_lt 1 (carry_into w a b k) (carry_into (w - 1) a b k)
      (bit_lt w (low w a + low w b + k)) (bit_lt (w - 1) (low (w - 1) a + low (w - 1) b + k)))

  plus_stays : (plus w a b k status).status / 16 ≡ status / 16
  unfolding plus
  plus_stays = flagged_stays _ _ _ _ _

-- By shape.

module _ (w : ℕ) (wide : 0 < w) (status : ℕ) where
  result_by : {kind : Kind} {o : Outcome} → Shape w status kind o → o.result < 2 ^ w
  unfolding plus plain with_sign linked
  result_by (summed a b k) = low_lt w (a + b + k)
  result_by (bare y h) = h
  result_by (unsigned y h) = h
  result_by (moved out y h) = h

  link_by : {kind : Kind} {o : Outcome} → Shape w status kind o → T (keeps_link kind) → o.status / 16 ≡ status / 16
  unfolding plain
  link_by (summed a b k) t = plus_stays w a b k status
  link_by (bare y h) t = with_sign_stays w (sign_flag w y) y status h
  link_by (unsigned y h) t = with_sign_stays w (xnor_sign w y) y status h
  link_by (moved out y h) t = absurd t

  flags_by : {kind : Kind} {o : Outcome} → Shape w status kind o → o.status / 32 ≡ status / 32
  unfolding plain
  flags_by (summed a b k) = omega (arith, plus_stays w a b k status)
  flags_by (bare y h) = omega (arith, with_sign_stays w (sign_flag w y) y status h)
  flags_by (unsigned y h) = omega (arith, with_sign_stays w (xnor_sign w y) y status h)
  flags_by (moved out y h) = linked_flags out (plain w y status) ∙ omega (arith, with_sign_stays w (sign_flag w y) y status h)

  zero_by : {kind : Kind} {o : Outcome} → Shape w status kind o → bit 0 o.status ≡ 1 - o.result
  unfolding plain linked
  zero_by (summed a b k) = plus_zero w a b k status
  zero_by (bare y h) = with_sign_zero w (sign_flag w y) y status h
  zero_by (unsigned y h) = with_sign_zero w (xnor_sign w y) y status h
  zero_by (moved out y h) =
      same_low_bits 0 _ _ (lit< tt) (linked_below out (plain w y status)) ∙ with_sign_zero w (sign_flag w y) y status h

  sign_by : {kind : Kind} {o : Outcome} → Shape w status kind o → stored_n o.status ≡ pick (shows_sign kind) (bit (w - 1) o.result) 0
  unfolding plain linked with_sign xnor_sign
  sign_by (summed a b k) = plus_sign w a b k status wide
  sign_by (bare y h) = with_sign_sign w (sign_flag w y) y status h ∙ omega arith
  sign_by (unsigned y h) = with_sign_sign w (xnor_sign w y) y status h
  sign_by (moved out y h) =
      same_low_bits 2 _ _ (lit< tt) (linked_below out (plain w y status)) ∙ with_sign_sign w (sign_flag w y) y status h ∙ omega arith

  carry_by : {kind : Kind} {o : Outcome} → Shape w status kind o → T (clears_carry kind)
      → (stored_c o.status ≡ 0) × (stored_ovr o.status ≡ 0)
  unfolding plain
  carry_by (summed a b k) t = absurd t
  carry_by (bare y h) t = (with_sign_carry w (sign_flag w y) y status h, with_sign_overflow w (sign_flag w y) y status h)
  carry_by (unsigned y h) t = (with_sign_carry w (xnor_sign w y) y status h, with_sign_overflow w (xnor_sign w y) y status h)
  carry_by (moved out y h) t = (
    same_low_bits 1 _ _ (lit< tt) (linked_below out (plain w y status)) ∙ with_sign_carry w (sign_flag w y) y status h,
    same_low_bits 3 _ _ (lit< tt) (linked_below out (plain w y status)) ∙ with_sign_overflow w (sign_flag w y) y status h,
  )

-- Of every operation.

module _ (w : ℕ) (wide : 0 < w) (operation : Operation) (status : ℕ) where
  -- a result is below the width
  pub result_lt : (outcome_of w operation status).result < 2 ^ w
  result_lt = result_by w wide status (shape w wide operation status)

  -- Flag1 to Flag3 stay
  pub flags_stay : (outcome_of w operation status).status / 32 ≡ status / 32
  flags_stay = flags_by w wide status (shape w wide operation status)

  -- LINK stays too, unless the operation shifts or steps a check
  pub link_stays : T (keeps_link (kind_of operation)) → (outcome_of w operation status).status / 16 ≡ status / 16
  link_stays = link_by w wide status (shape w wide operation status)

  pub status_lt : status < 256 → (outcome_of w operation status).status < 256
  status_lt h = omega (arith, flags_stay)

  -- Z is 1 exactly for a result of 0
  pub zero_flag : bit 0 (outcome_of w operation status).status ≡ 1 - (outcome_of w operation status).result
  zero_flag = zero_by w wide status (shape w wide operation status)

  -- N is the result's top bit, but 0 after XNOR
  pub sign_flag_lem : stored_n (outcome_of w operation status).status
      ≡ pick (shows_sign (kind_of operation)) (bit (w - 1) (outcome_of w operation status).result) 0
  sign_flag_lem = sign_by w wide status (shape w wide operation status)

  -- C and OVR become 0, but for sums
  pub no_carry : T (clears_carry (kind_of operation))
      → (stored_c (outcome_of w operation status).status ≡ 0) × (stored_ovr (outcome_of w operation status).status ≡ 0)
  no_carry = carry_by w wide status (shape w wide operation status)
