-- A trace as text: one line of hex words per cycle, and what is said of a line that cannot be read. Document 01 says nothing of traces as
-- text: the form is ours (docs/DECISIONS.md).
use Prim.{Unit}
use Rattle.std.specs.Prelude.{ℕ, zero, suc, ◌*◌, ◌/◌, ◌<◌, List, [], ◌∷◌, ◌++◌, ltb, length, take, drop, None}
use Rattle.choice.specs.Pick.{pick}
use Rattle.choice.specs.Text.{newline, blank, hex, decimal}
use Rattle.text.specs.declared.Expected.{Expected}
use Rattle.text.specs.declared.Expected.TheVariants.{Digit, Blank, Word, LineEnd}
use Rattle.text.specs.declared.Fault.{Fault}
use Rattle.text.specs.Lines.{words_per_line}
use Rattle.text.specs.declared.Place.TheVariants.{Between}
use Rattle.text.specs.Taking.{Took, stops_at, reader, one_more}

-- what stands after a word, with these words still to come
abbrev pub after_word : List ℕ → ℕ
after_word [] = newline
after_word (x ∷ words) = blank

-- the words of a line, and its end; no text for no words
abbrev pub words_text : List ℕ → List ℕ
words_text [] = []
words_text (x ∷ words) = (hex 4 x ++ after_word words ∷ []) ++ words_text words

-- the line of cycle i of some cycle words, and no text where there is none
unfoldable pub words_line : List ℕ → ℕ → List ℕ
words_line words i = pick (ltb i (length words / words_per_line)) (words_text (take words_per_line (drop (words_per_line * i) words))) []

-- the lines of n cycles one after another, from cycle i on; and those of all whole cycles
abbrev pub text_from : List ℕ → ℕ → ℕ → List ℕ
text_from words i zero = []
text_from words i (suc n) = words_line words i ++ text_from words (suc i) n

abbrev pub text_of : List ℕ → List ℕ
text_of words = text_from words 0 (length words / words_per_line)

-- every word has 16 bits, as those of a slice of u16 have
abbrev pub AllWords : List ℕ → Type 0
AllWords [] = Unit {0}
AllWords (x ∷ words) = (x < 65536) × AllWords words

-- "a hex digit", "a blank", "a word" or "the end of the line", and the message's end
abbrev pub expected_text : Expected → List ℕ
expected_text Digit = 97 ∷ 32 ∷ 104 ∷ 101 ∷ 120 ∷ 32 ∷ 100 ∷ 105 ∷ 103 ∷ 105 ∷ 116 ∷ newline ∷ []
expected_text Blank = 97 ∷ 32 ∷ 98 ∷ 108 ∷ 97 ∷ 110 ∷ 107 ∷ newline ∷ []
expected_text Word = 97 ∷ 32 ∷ 119 ∷ 111 ∷ 114 ∷ 100 ∷ newline ∷ []
expected_text LineEnd =
    116 ∷ 104 ∷ 101 ∷ 32 ∷ 101 ∷ 110 ∷ 100 ∷ 32 ∷ 111 ∷ 102 ∷ 32 ∷ 116 ∷ 104 ∷ 101 ∷ 32 ∷ 108 ∷ 105 ∷ 110 ∷ 101 ∷ newline ∷ []

-- "line ", its number and ","; " column ", its number and ":"; " expected " and what was
unfoldable pub fault_line : Fault → List ℕ
fault_line f =
    (108 ∷ 105 ∷ 110 ∷ 101 ∷ 32 ∷ [])
    ++ ((decimal f.line ++ 44 ∷ [])
    ++ ((32 ∷ 99 ∷ 111 ∷ 108 ∷ 117 ∷ 109 ∷ 110 ∷ 32 ∷ [])
    ++ ((decimal f.column ++ 58 ∷ [])
    ++ ((32 ∷ 101 ∷ 120 ∷ 112 ∷ 101 ∷ 99 ∷ 116 ∷ 101 ∷ 100 ∷ 32 ∷ [])
    ++ expected_text f.expected))))

-- for laws: the number of the line after n more
abbrev pub lines_after : ℕ → ℕ → ℕ
lines_after zero l = l
lines_after (suc n) l = lines_after n (one_more l)

-- for a law: what comes of all of it, from the start of a text: every word found, in its place, and no fault
abbrev pub all_read : List ℕ → List ℕ → Took
all_read all words =
    stops_at (reader (lines_after (length all / words_per_line) 1) 1 0 Between (length all) 0) (5 * words_per_line * (length all / words_per_line)) None (all ++ drop (length all) words)
