-- The lines that are printed of a run (document 01, examples).
use Rattle.std.specs.Prelude.{ℕ, List, [], ◌∷◌, ◌++◌, eqb}
use Rattle.choice.specs.Pick.{pick}
use Rattle.choice.specs.Text.{newline, blank, dash, numeral, hex, decimal, digit_or_none, ascii}
use Rattle.machine.specs.declared.Waiting.{Waiting}
use Rattle.machine.specs.declared.Waiting.TheVariants.{Nothing, Held}
use Rattle.machine.specs.declared.Registers.{Registers}
use Rattle.machine.specs.Reporting.{no_ct, no_t}
use Rattle.run.specs.declared.Ending.{Ending}
use Rattle.run.specs.declared.Ending.TheVariants.{Done, Stopped, Refused}

-- a field and more, with a blank between them, and the line's end
abbrev pub line_of : List ℕ → List (List ℕ) → List ℕ
line_of field [] = field ++ newline ∷ []
line_of field (next ∷ fields) = field ++ blank ∷ line_of next fields

-- an accepted cycle: its number, Y, its mask, CT and T
unfoldable pub cycle_line : ℕ → ℕ → ℕ → ℕ → ℕ → List ℕ
cycle_line number y mask ct t = line_of (decimal number) (hex 4 y ∷ hex 4 mask ∷ (digit_or_none no_ct ct ∷ []) ∷ (digit_or_none no_t t ∷ []) ∷ [])

-- the word that waits, or "-"
abbrev pub waiting_text : Waiting → List ℕ
waiting_text Nothing = dash ∷ []
waiting_text (Held w) = hex 4 w

-- the state: "acc", "d", "st" and "wait", each before its value
unfoldable pub state_line : Registers → List ℕ
state_line r =
    line_of (97 ∷ 99 ∷ 99 ∷ []) (
    hex 4 r.acc
    ∷ (100 ∷ []) ∷ hex 4 r.latch
    ∷ (115 ∷ 116 ∷ []) ∷ hex 2 r.status
    ∷ (119 ∷ 97 ∷ 105 ∷ 116 ∷ []) ∷ waiting_text r.waiting
    ∷ [])

-- "r" with two digits, and the value; no text at all for a register that is 0
unfoldable pub register_line : ℕ → ℕ → List ℕ
register_line number value = pick (eqb value 0) [] (line_of (114 ∷ numeral 10 2 number) (hex 4 value ∷ []))

-- "refused" with the number, of a word in a listing (document 02, request 1)
unfoldable pub word_refused_line : ℕ → List ℕ
word_refused_line number = line_of (ascii "refused") (decimal number ∷ [])

-- "refused" with the number, "at", and the index
unfoldable pub refused_line : ℕ → ℕ → List ℕ
refused_line number index = line_of (114 ∷ 101 ∷ 102 ∷ 117 ∷ 115 ∷ 101 ∷ 100 ∷ []) (decimal number ∷ (97 ∷ 116 ∷ []) ∷ decimal index ∷ [])

-- the end: "done" or "stopped" with the accepted count, or the refusal
unfoldable pub last_line : Ending → ℕ → List ℕ
last_line Done accepted = line_of (100 ∷ 111 ∷ 110 ∷ 101 ∷ []) (decimal accepted ∷ [])
last_line Stopped accepted = line_of (115 ∷ 116 ∷ 111 ∷ 112 ∷ 112 ∷ 101 ∷ 100 ∷ []) (decimal accepted ∷ [])
last_line (Refused number index) accepted = refused_line number index
