-- Words and their parts at a width.
use Rattle.std.specs.Prelude.{ℕ, ◌+◌, ◌-◌, ◌*◌, ◌/◌, ◌%◌, ◌^◌}
use Rattle.alu.specs.declared.Mode.{Mode}
use Rattle.alu.specs.declared.Mode.TheVariants.{Byte, Word}

-- byte mode works on 8 bits, word mode on 16 (document 01, what the instructions do)
abbrev pub width_of : Mode → ℕ
width_of Byte = 8
width_of Word = 16

-- bit i of a number, bit 0 the lowest
abbrev pub bit : ℕ → ℕ → ℕ
bit i x = x / 2 ^ i % 2

-- all that an operation of width w sees of an operand: its low byte in byte mode (document 01, what the instructions do)
abbrev pub low : ℕ → ℕ → ℕ
low w x = x % 2 ^ w

-- every bit below the width turned over
unfoldable pub complement : ℕ → ℕ → ℕ
complement w x = 2 ^ w - 1 - low w x

-- a destination that held old takes the result: it changes below the width, and above stays (document 01, what the instructions do)
unfoldable pub write_back : ℕ → ℕ → ℕ → ℕ
write_back w old result = old / 2 ^ w * 2 ^ w + low w result
