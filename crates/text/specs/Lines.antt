-- What a byte does to the line that is being read. A line has no word, or `words_per_line` words of four hex digits with blanks between them;
-- a comment may follow. The form is ours (docs/DECISIONS.md).
use Rattle.std.specs.Prelude.{ℕ, ◌+◌, ◌*◌, ◌%◌, eqb, ltb}
use Rattle.choice.specs.Pick.{pick}
use Rattle.text.specs.declared.Kind.{Kind}
use Rattle.text.specs.declared.Kind.TheVariants.{Over, Blank, Digit, Other}
use Rattle.text.specs.declared.Expected.{Expected}
use Rattle.text.specs.declared.Place.{Place}
use Rattle.text.specs.declared.Place.TheVariants.{Between, Within, After, Rest}
use Rattle.text.specs.declared.Met.{Met}
use Rattle.text.specs.declared.Move.{Move}

-- the words of a line are those of a cycle (document 01, the machine and one cycle)
abbrev pub words_per_line : ℕ
words_per_line = 3

-- a word has four digits: those before its last
abbrev pub last_digit : ℕ
last_digit = 3

abbrev pub move : Place → ℕ → Met → Move
move place words met = record { place = place; words = words; met = met }

-- a fault: the rest of the line is passed over
abbrev pub fault : ℕ → Expected → Move
fault words e = move Rest words (Met.Fault e)

-- what is expected while words are missing; with all of them there, the line's end
abbrev pub or_end : ℕ → Expected → Expected
or_end words e = pick (ltb words words_per_line) e Expected.LineEnd

-- the words of a line are over: a fault, unless it has none or all of them
abbrev pub over : ℕ → Move
over words = pick (eqb words 0) (move Rest words Met.Nothing) (pick (ltb words words_per_line) (fault words Expected.Word) (move Rest words Met.Nothing))

-- a digit where a word may begin
abbrev pub begun : ℕ → ℕ → Move
begun words v = pick (ltb words words_per_line) (move (Within 1 v) words Met.Nothing) (fault words Expected.LineEnd)

-- a value with one more digit below it. A word begun has less than four digits, and a digit is below 16; the remainders are for readers that
-- no text leads to
abbrev pub with_digit : ℕ → ℕ → ℕ
with_digit value v = value % 4096 * 16 + v % 16

abbrev pub one_word_more : ℕ → ℕ
one_word_more words = pick (ltb words words_per_line) (words + 1) words

-- a digit of a word that is begun, which may be its last
abbrev pub grown : ℕ → ℕ → ℕ → ℕ → Move
grown digits value words v =
    pick (ltb digits last_digit)
    (move (Within (digits + 1) (with_digit value v)) words Met.Nothing)
    (move After (one_word_more words) (Met.Word (with_digit value v)))

-- by the place in the line, how many of its words are read, and what the byte is
unfoldable pub move_of : Place → ℕ → Kind → Move
move_of Between words Over = over words
move_of Between words Blank = move Between words Met.Nothing
move_of Between words (Digit v) = begun words v
move_of Between words Other = fault words (or_end words Expected.Digit)
move_of (Within digits value) words Over = fault words Expected.Digit
move_of (Within digits value) words Blank = fault words Expected.Digit
move_of (Within digits value) words (Digit v) = grown digits value words v
move_of (Within digits value) words Other = fault words Expected.Digit
move_of After words Over = over words
move_of After words Blank = move Between words Met.Nothing
move_of After words (Digit v) = fault words (or_end words Expected.Blank)
move_of After words Other = fault words (or_end words Expected.Blank)
move_of Rest words kind = move Rest words Met.Nothing
