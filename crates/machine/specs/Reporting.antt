-- CT and T and, for a law, the known bits of Y (document 01, the machine and one cycle; the report).
use Rattle.std.specs.Prelude.{◌≡◌, ◌⊎◌, ℕ, ◌-◌, ◌%◌, List, [], ◌∷◌, get_or}
use Rattle.std.specs.Int.Bits.{bit_and, bit_or, bit_xor}
use Rattle.choice.specs.Pick.{pick}
use Rattle.alu.specs.Width.{bit}
use Rattle.alu.specs.Flags.{stored_c, stored_n, stored_ovr, stored_link}
use Rattle.plan.specs.declared.Chooser.{Chooser}
use Rattle.plan.specs.declared.Chooser.TheVariants.{Pins, Instruction}
use Rattle.machine.specs.Pins.{ien_high, oe_t_high, t_inputs}

-- no CT
abbrev pub no_ct : ℕ
no_ct = 2

-- T is not driven
abbrev pub no_t : ℕ
no_t = 16

abbrev pub stored_z : ℕ → ℕ
stored_z status = status % 2

-- codes 0 to 11, and none for 12 to 15
abbrev pub conditions : ℕ → List ℕ
conditions s =
    bit_or (bit_xor (stored_n s) (stored_ovr s)) (stored_z s) ∷ bit_xor (stored_n s) (stored_ovr s) ∷ stored_z s ∷ stored_ovr s
    ∷ 0 ∷ stored_c s ∷ bit_or (stored_z s) (1 - stored_c s) ∷ stored_n s
    ∷ stored_link s ∷ bit 5 s ∷ bit 6 s ∷ bit 7 s
    ∷ no_ct ∷ no_ct ∷ no_ct ∷ no_ct ∷ []

unfoldable pub condition_of : ℕ → ℕ → ℕ
condition_of code s = get_or (conditions s) (code % 16) 0

-- the T inputs choose with OE_T low
abbrev pub ct_by_pins : ℕ → ℕ → ℕ
ct_by_pins s pins = pick (oe_t_high pins) no_ct (condition_of (t_inputs pins) s)

-- an instruction chooses with IEN low
abbrev pub ct_of : Chooser → ℕ → ℕ → ℕ
ct_of Pins s pins = ct_by_pins s pins
ct_of (Instruction code) s pins = pick (ien_high pins) (ct_by_pins s pins) (condition_of code s)

abbrev pub t_of : ℕ → ℕ → ℕ
t_of s pins = pick (oe_t_high pins) (s % 16) no_t

-- for a law, what a report knows of Y: no bit, those of the low byte or all, and Y has none outside them (document 01, the report)
pub record KnownBits (y mask : ℕ) : Type 0 where
  pub masks : (mask ≡ 0x0000) ⊎ ((mask ≡ 0x00FF) ⊎ (mask ≡ 0xFFFF))
  pub inside : bit_and y mask ≡ y
