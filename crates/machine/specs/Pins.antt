-- The pins of a cycle, by their levels (document 01, the machine and one cycle).
use Rattle.std.specs.Prelude.{ℕ, ◌/◌, ◌%◌, Bool, true, not, eqb}
use Rattle.choice.specs.Pick.{pick}

-- bit 0: RAM and ACC are written, and an instruction chooses CT, with IEN low
abbrev pub ien_high : ℕ → Bool
ien_high pins = eqb (pins % 2) 1

-- bits 0 and 1: the status changes with IEN and SRE both low
abbrev pub both_low : ℕ → Bool
both_low pins = eqb (pins % 4) 0

-- bit 2: D takes the Y input with DLE high
abbrev pub dle_high : ℕ → Bool
dle_high pins = eqb (pins / 4 % 2) 1

-- bit 3: Y is not shown with OE_Y high
abbrev pub oe_y_high : ℕ → Bool
oe_y_high pins = eqb (pins / 8 % 2) 1

-- bit 4: with OE_T high T is driven, and with it low the T inputs choose CT
abbrev pub oe_t_high : ℕ → Bool
oe_t_high pins = eqb (pins / 16 % 2) 1

-- bits 8 to 11: T1 to T4 as inputs, T1 the lowest
abbrev pub t_inputs : ℕ → ℕ
t_inputs pins = pins / 256 % 16

-- refusal 5: a bit of 5 to 7 or of 12 to 15 is 1
abbrev pub stray_pin : ℕ → Bool
stray_pin pins = pick (eqb (pins / 32 % 8) 0) (not (eqb (pins / 4096) 0)) true

-- refusal 6: DLE high with OE_Y low, bits 2 and 3
abbrev pub bus_clash : ℕ → Bool
bus_clash pins = eqb (pins / 4 % 4) 1
