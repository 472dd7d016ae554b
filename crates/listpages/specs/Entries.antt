-- The line of one word of a trace in a listing, and the line that answers one line of a listing (document 02, request 1, and docs/DECISIONS.md).
use Rattle.std.specs.Prelude.{ℕ, Bool, true, false, List, [], ◌∷◌, ◌++◌}
use Rattle.std.proofs.Math.Option.{Option, none, some}
use Rattle.choice.specs.Pick.{pick}
use Rattle.choice.specs.Tells.{Tells, Placed}
use Rattle.choice.specs.Text.{newline, hex}
use Rattle.isa.specs.Words.{decode_of, takes_immediate}
use Rattle.lines.specs.Lines.{word_refused_line, refused_line}
use Rattle.listing.specs.Lines.{line_of, word_of}
use Rattle.listing.specs.Data.{data_line, data_of}

-- an instruction, or "refused" and its number
abbrev pub instruction_line : Tells (List ℕ) → List ℕ
instruction_line t = elim t.value [ some line ↦ line ++ newline ∷ [] | none ↦ word_refused_line t.number ]

-- the line of a word: data where an instruction waits for its operand, or an instruction
unfoldable pub entry_line : Bool → ℕ → List ℕ
entry_line waits w = pick waits (data_line w ++ newline ∷ []) (instruction_line (line_of w))

-- after data, and after a refused word, the next one is an instruction
abbrev pub waits_after : Bool → ℕ → Bool
waits_after waits w = pick waits false (takes_immediate w)

-- the number of a word that is refused, 0 for data and for an accepted word
abbrev pub refusal_at : Bool → ℕ → ℕ
refusal_at waits w = pick waits 0 (decode_of w).number

-- what a line of a listing tells: data where an instruction waits for it, or an instruction
unfoldable pub line_tells : Bool → List ℕ → Placed ℕ
line_tells waits line = pick waits (data_of line) (word_of line)

abbrev pub answer_by : Placed ℕ → List ℕ
answer_by p = elim p.told.value [ some w ↦ hex 4 w ++ newline ∷ [] | none ↦ refused_line p.told.number p.index ]

-- the word in hex, or the refusal and its column
unfoldable pub answer_line : Bool → List ℕ → List ℕ
answer_line waits line = answer_by (line_tells waits line)

-- after data, and after a refused line, the next one is an instruction
abbrev pub waits_by : Bool → Option ℕ → Bool
waits_by waits none = false
waits_by waits (some w) = waits_after waits w

unfoldable pub waits_next : Bool → List ℕ → Bool
waits_next waits line = waits_by waits (line_tells waits line).told.value

abbrev pub is_none : Option ℕ → Bool
is_none none = true
is_none (some w) = false

unfoldable pub is_refused : Bool → List ℕ → Bool
is_refused waits line = is_none (line_tells waits line).told.value
