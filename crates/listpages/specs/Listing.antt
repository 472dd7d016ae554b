-- What `listtrace` writes of a trace, and what it says of it (document 02, request 1; what is said is ours, docs/DECISIONS.md).
use Rattle.std.specs.Prelude.{ℕ, zero, suc, ◌+◌, Bool, false, List, [], ◌∷◌, eqb, length, Option, Some, None}
use Rattle.choice.specs.Pick.{pick}
use Rattle.run.specs.Splitting.{cycle_at, cycles_in}
use Rattle.trace.specs.Layout.{words_per_record}
use Rattle.trace.specs.Reading.{read_words}
use Rattle.lines.specs.declared.Program.TheVariants.{ListTrace}
use Rattle.lines.specs.declared.Remark.{Remark}
use Rattle.lines.specs.declared.Remark.TheVariants.{Refusal}
use Rattle.lines.specs.Lines.{refused_line}
use Rattle.lines.specs.Remarks.{remark_line}
use Rattle.pages.specs.Running.{reading_of, if_accepted, refusal_said}
use Rattle.listpages.specs.Walking.{text_from}
use Rattle.listpages.specs.Entries.{entry_line, waits_after, refusal_at}

-- the words on the instruction lines of n cycles, from cycle i on, and of all cycles
abbrev pub line_word : List ℕ → ℕ → ℕ
line_word words i = (cycle_at words i).lines

abbrev pub line_words_from : List ℕ → ℕ → ℕ → List ℕ
line_words_from words i zero = []
line_words_from words i (suc n) = line_word words i ∷ line_words_from words (i + 1) n

abbrev pub line_words : List ℕ → List ℕ
line_words words = line_words_from words 0 (cycles_in (length words))

-- a line for each; at the beginning no instruction waits
unfoldable pub list_text : List ℕ → List ℕ
list_text words = text_from entry_line waits_after false (line_words words)

-- of the first refused word, the first of them being that of cycle i, it is said why
abbrev pub said_from : Bool → ℕ → List ℕ → List ℕ
said_from waits i [] = []
said_from waits i (w ∷ ws) =
    pick (eqb (refusal_at waits w) 0) (said_from (waits_after waits w) (i + 1) ws) (remark_line ListTrace (Refusal (refusal_at waits w) i w 0))

unfoldable pub list_said : List ℕ → List ℕ
list_said words = said_from false 0 (line_words words)

-- for the contract of a part: what is said, if anything is
abbrev pub said_by : Option Remark → List ℕ
said_by None = []
said_by (Some remark) = remark_line ListTrace remark

-- of a trace: its cycles, or the one line of the refusal
unfoldable pub listed_text : List ℕ → List ℕ
listed_text trace = if_accepted (reading_of trace) (list_text (read_words words_per_record trace)) refused_line

unfoldable pub listed_said : List ℕ → List ℕ
listed_said trace = if_accepted (reading_of trace) (list_said (read_words words_per_record trace)) (refusal_said ListTrace)
