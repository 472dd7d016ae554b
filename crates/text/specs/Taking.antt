-- A text taken byte by byte, and the words that it leaves. The form of the text is ours (docs/DECISIONS.md).
use Rattle.std.specs.Prelude.{◌≡◌, ℕ, suc, ◌+◌, List, [], ◌∷◌, length, set, eqb, ltb, Option, Some, None}
use Rattle.choice.specs.Pick.{pick}
use Rattle.text.specs.declared.Place.TheVariants.{Between}
use Rattle.text.specs.declared.Expected.{Expected}
use Rattle.text.specs.declared.Met.{Met}
use Rattle.text.specs.declared.Move.{Move}
use Rattle.text.specs.declared.Reader.{Reader}
use Rattle.text.specs.declared.Fault.{Fault}
use Rattle.text.specs.declared.Taken.{Taken}
use Rattle.text.specs.Bytes.{line_feed, kind_of}
use Rattle.text.specs.Lines.{move_of}
use Rattle.text.specs.declared.Place.{Place}

-- before the first byte: line 1, column 1
abbrev pub start_of : Reader
start_of = record { line = 1; column = 1; words = 0; place = Between; found = 0; faults = 0 }

-- lines, columns and faults are counted as far as 64 bits go
abbrev pub most_counted : ℕ
most_counted = 0xFFFFFFFFFFFFFFFF

abbrev pub one_more : ℕ → ℕ
one_more x = pick (ltb x most_counted) (x + 1) x

-- the reader after a byte: in the next column or, after a line feed, in the next line
abbrev pub next_column : Reader → Move → Reader
next_column s m = record { line = s.line; column = one_more s.column; words = m.words; place = m.place; found = s.found; faults = s.faults }

abbrev pub next_line : Reader → Reader
next_line s = record { line = one_more s.line; column = 1; words = 0; place = Between; found = s.found; faults = s.faults }

unfoldable pub passed : Reader → Move → ℕ → Reader
passed s m b = pick (eqb b line_feed) (next_line s) (next_column s m)

-- a word is kept where there is room, and words beyond that are not counted
abbrev pub kept_word : ℕ → ℕ → List ℕ → List ℕ
kept_word at x words = pick (ltb at (length words)) (set words at x) words

abbrev pub with_word : Reader → ℕ → Reader
with_word s room = record {
  line = s.line;
  column = s.column;
  words = s.words;
  place = s.place;
  found = pick (ltb s.found room) (s.found + 1) s.found;
  faults = s.faults;
}

abbrev pub with_fault : Reader → Reader
with_fault s = record { line = s.line; column = s.column; words = s.words; place = s.place; found = s.found; faults = one_more s.faults }

abbrev pub fault_at : Reader → Expected → Fault
fault_at s e = record { line = s.line; column = s.column; expected = e }

-- an answer, and the lent words afterwards
pub record Took : Type 0 where
  pub taken : Taken
  pub words : List ℕ

abbrev pub stops_at : Reader → ℕ → Option Fault → List ℕ → Took
stops_at s i f words = record { taken = record { reader = s; bytes = i; fault = f }; words = words }

-- what the next byte of a text does
abbrev pub move_at : Reader → ℕ → Move
move_at s b = move_of s.place s.words (kind_of b)

-- what follows, by what the byte brings: nothing, a word, or a fault
abbrev pub met_by : {A : Type 0} → Met → A → (ℕ → A) → (Expected → A) → A
met_by Met.Nothing nothing word fault = nothing
met_by (Met.Word x) nothing word fault = word x
met_by (Met.Fault e) nothing word fault = fault e

-- the bytes of a text one after another, i of them taken already, up to the end or the first fault
unfoldable pub take_from : ℕ → Reader → List ℕ → List ℕ → Took
take_from i s [] words = stops_at s i None words
take_from i s (b ∷ bytes) words =
    met_by (move_at s b).met
    (take_from (suc i) (passed s (move_at s b) b) bytes words)
    (λ x. take_from (suc i) (with_word (passed s (move_at s b) b) (length words)) bytes (kept_word s.found x words))
    (λ e. stops_at (with_fault (passed s (move_at s b) b)) (suc i) (Some (fault_at s e)) words)

-- what `take` promises: its answer, and the lent words before and after
pub record Takes (s : Reader) (text : List ℕ) (r : Taken) (before after : List ℕ) : Type 0 where
  pub taken : r ≡ (take_from 0 s text before).taken
  pub written : after ≡ (take_from 0 s text before).words

-- for laws: what follows a piece of a text: the next piece, unless there was a fault
abbrev pub goes_on : Took → List ℕ → Took
goes_on t rest = elim t.taken.fault [ None ↦ take_from t.taken.bytes t.taken.reader rest t.words | Some f ↦ t ]

-- for laws: a reader, by its parts
abbrev pub reader : ℕ → ℕ → ℕ → Place → ℕ → ℕ → Reader
reader line column words place found faults = record { line = line; column = column; words = words; place = place; found = found; faults = faults }
