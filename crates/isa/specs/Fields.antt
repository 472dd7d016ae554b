-- The fields of an instruction word (document 01, the instruction list).
use Rattle.std.specs.Prelude.{ℕ, ◌+◌, ◌*◌, ◌/◌, ◌%◌, eqb}
use Rattle.choice.specs.Pick.{pick}
use Rattle.alu.specs.declared.Mode.{Mode}
use Rattle.alu.specs.declared.Mode.TheVariants.{Byte, Word}

-- bit 15 of a word, the mode's mark; a number past 16 bits has no mark of a mode
abbrev pub mark_of : ℕ → ℕ
mark_of w = w / 0x8000

-- bits 14 and 13
abbrev pub quadrant_of : ℕ → ℕ
quadrant_of w = w / 0x2000 % 4

-- bits 12 to 9
abbrev pub field_a : ℕ → ℕ
field_a w = w / 0x200 % 16

-- bits 8 to 5
abbrev pub field_b : ℕ → ℕ
field_b w = w / 0x20 % 16

-- bits 4 to 0
abbrev pub field_c : ℕ → ℕ
field_c w = w % 32

-- the word that has these fields
abbrev pub word_of : ℕ → ℕ → ℕ → ℕ → ℕ → ℕ
word_of mark q a b c = mark * 0x8000 + q * 0x2000 + a * 0x200 + b * 0x20 + c

-- mark 0 is byte mode, 1 is word mode
abbrev pub mode_of : ℕ → Mode
mode_of mark = pick (eqb mark 0) Byte Word

-- and back
abbrev pub mark_for : Mode → ℕ
mark_for Byte = 0
mark_for Word = 1
