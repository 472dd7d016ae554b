-- What is said to a person on standard error, one line per remark: which program says it, and what. Document 01 has the refusal numbers and what they
-- are for; the words are ours (docs/DECISIONS.md).
use Rattle.std.specs.Prelude.{ℕ, List, [], ◌∷◌, ◌++◌, eqb}
use Rattle.choice.specs.Pick.{pick}
use Rattle.choice.specs.Text.{newline, hex, decimal, ascii}
use Rattle.lines.specs.declared.Program.{Program}
use Rattle.lines.specs.declared.Program.TheVariants.{RunTrace, PackTrace, UnpackTrace, ListTrace, ReadList}
use Rattle.lines.specs.declared.remarks.Subject.{Subject}
use Rattle.lines.specs.declared.remarks.Subject.TheVariants.{Whole, Block, Word, Pins}
use Rattle.lines.specs.declared.Remark.{Remark}
use Rattle.lines.specs.declared.Remark.TheVariants.{NoInput, NoOutput, Waits, Marked, Unnamed, Refusal, Unread, LongLine}

abbrev pub name_of : Program → List ℕ
name_of RunTrace = ascii "runtrace"
name_of PackTrace = ascii "packtrace"
name_of UnpackTrace = ascii "unpacktrace"
name_of ListTrace = ascii "listtrace"
name_of ReadList = ascii "readlist"

-- a refusal's number, what is at fault (all of the input, a block, a cycle's instruction word, or its pins), and why
pub record Meaning : Type 0 where
  pub number : ℕ
  pub subject : Subject
  pub why : List ℕ

abbrev pub means : ℕ → Subject → List ℕ → Meaning
means k s why = record { number = k; subject = s; why = why }

-- document 01's table of refusals, a row for each number
abbrev pub meanings : List Meaning
meanings =
    means 1 Whole (ascii "the words are not whole cycles of three")
    ∷ means 2 Whole (ascii "there are more than 4,096 cycles or 49 blocks")
    ∷ means 3 Whole (ascii "there is no room for what comes out")
    ∷ means 4 Whole (ascii "a word waits that takes no operand")
    ∷ means 5 Pins (ascii "have a bit on that must be 0")
    ∷ means 6 Pins (ascii "have DLE high while OE_Y is low")
    ∷ means 7 Word (ascii "is not on the instruction list")
    ∷ means 8 Word (ascii "is a prioritize with ACC as source and as mask")
    ∷ means 9 Word (ascii "is a bit instruction in byte mode with n over 7")
    ∷ means 10 Word (ascii "takes an operand and is begun with IEN high")
    ∷ means 11 Whole (ascii "the length is not a multiple of 512 bytes")
    ∷ means 12 Block (ascii "its check is not that of its bytes")
    ∷ means 13 Block (ascii "its number is not its place in the trace")
    ∷ means 14 Block (ascii "its count, its byte 3 or its filling is wrong")
    ∷ []

-- the row of a number; a number that is not in the table has no reason
abbrev pub row_for : ℕ → List Meaning → Meaning
row_for k [] = means k Whole []
row_for k (m ∷ ms) = pick (eqb k m.number) m (row_for k ms)

unfoldable pub meaning_of : ℕ → Meaning
meaning_of k = row_for k meanings

-- where it is: a block or a cycle by its index, and the cycle's word or pins in hex
abbrev pub place_text : Subject → ℕ → ℕ → ℕ → List ℕ
place_text Whole index w p = ascii "as a whole: "
place_text Block index w p = (ascii "at block " ++ (decimal index ++ 58 ∷ [])) ++ ascii " "
place_text Word index w p = (ascii "at cycle " ++ (decimal index ++ 58 ∷ [])) ++ (ascii " the word " ++ (hex 4 w ++ 32 ∷ []))
place_text Pins index w p = (ascii "at cycle " ++ (decimal index ++ 58 ∷ [])) ++ (ascii " the pins " ++ (hex 4 p ++ 32 ∷ []))

-- where, why, and the line's end
abbrev pub reason_text : Meaning → ℕ → ℕ → ℕ → List ℕ
reason_text m index w p = place_text m.subject index w p ++ (m.why ++ newline ∷ [])

-- "refused " with the number, where and why
abbrev pub refusal_text : ℕ → ℕ → ℕ → ℕ → List ℕ
refusal_text k index w p = (ascii "refused " ++ (decimal k ++ 32 ∷ [])) ++ reason_text (meaning_of k) index w p

-- what is said, and the line's end
unfoldable pub remark_text : Remark → List ℕ
remark_text NoInput = ascii "standard input cannot be read" ++ newline ∷ []
remark_text NoOutput = ascii "standard output cannot be written" ++ newline ∷ []
remark_text (Waits w) = ascii "note: the run ends waiting for the operand of " ++ (hex 4 w ++ newline ∷ [])
remark_text Marked = ascii "the text begins with a byte order mark" ++ newline ∷ []
remark_text (Unnamed count) = ascii "more lines that cannot be read: " ++ (decimal count ++ newline ∷ [])
remark_text (Refusal k index w p) = refusal_text k index w p
remark_text (Unread count) = ascii "lines that cannot be read: " ++ (decimal count ++ newline ∷ [])
remark_text LongLine = ascii "a line is longer than 4,095 bytes" ++ newline ∷ []

-- the program's name, ": " and what it says
unfoldable pub remark_line : Program → Remark → List ℕ
remark_line program remark = (name_of program ++ ascii ": ") ++ remark_text remark
