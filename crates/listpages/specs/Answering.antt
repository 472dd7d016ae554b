-- What `readlist` writes of the lines of a listing (document 02, request 1), and how many of them it counts as refused.
use Rattle.std.specs.Prelude.{◌≡◌, ℕ, Bool, List, [], ◌∷◌, ◌==◌, eqb, length, take, position}
use Rattle.std.specs.Option.{unwrap_or}
use Rattle.choice.specs.Pick.{pick}
use Rattle.choice.specs.Tells.{Placed}
use Rattle.choice.specs.Text.{newline}
use Rattle.text.specs.Taking.{one_more}
use Rattle.lines.specs.Answers.{Makes}
use Rattle.listpages.specs.declared.Reading.{Reading}
use Rattle.listpages.specs.declared.LinesRead.{LinesRead}
use Rattle.listpages.specs.Walking.{text_from, state_after}
use Rattle.listpages.specs.Entries.{answer_line, waits_by, waits_next, is_none, is_refused}

-- a byte in front of the first of some lines
abbrev pub in_front : ℕ → List (List ℕ) → List (List ℕ)
in_front b [] = (b ∷ []) ∷ []
in_front b (line ∷ lines) = (b ∷ line) ∷ lines

-- the lines of a text: each ends in a line feed, but the last one may lack it
abbrev pub lines_of : List ℕ → List (List ℕ)
lines_of [] = []
lines_of (b ∷ bytes) = pick (eqb b newline) ([] ∷ lines_of bytes) (in_front b (lines_of bytes))

-- a reader after a line: whether data is next, and how many lines were refused
abbrev pub counted : Bool → ℕ → ℕ
counted refused k = pick refused (one_more k) k

abbrev pub after_line : Reading → List ℕ → Reading
after_line s line = record { waits = waits_next s.waits line; refused = counted (is_refused s.waits line) s.refused }

abbrev pub answer_to : Reading → List ℕ → List ℕ
answer_to s line = answer_line s.waits line

-- the answers to some lines, and the reader after them
unfoldable pub answers_of : Reading → List (List ℕ) → List ℕ
answers_of s lines = text_from answer_to after_line s lines

unfoldable pub reading_after : Reading → List (List ℕ) → Reading
reading_after s lines = state_after after_line s lines

-- so many bytes are taken at once
abbrev pub piece_bytes : ℕ
piece_bytes = 4096

abbrev pub piece_lines : List ℕ → List (List ℕ)
piece_lines bytes = lines_of (take piece_bytes bytes)

-- what `read_lines` promises: the reader after the lines of what is taken, and the answers in the lent slice
pub record ReadsLines (s : Reading) (bytes : List ℕ) (r : LinesRead) (out out' : List ℕ) : Type 0 where
  pub reading : r.reading ≡ reading_after s (piece_lines bytes)
  pub written : Makes (answers_of s (piece_lines bytes)) r.output out out'

-- for the contracts of the parts: the reader after a line by what it tells; and the end of the first line of some
-- bytes, which is its line feed or the end of the bytes
abbrev pub after_answer : Reading → Placed ℕ → Reading
after_answer s p = record { waits = waits_by s.waits p.told.value; refused = counted (is_none p.told.value) s.refused }

abbrev pub line_end : List ℕ → ℕ
line_end bytes = unwrap_or (position (λ b. b == newline) bytes) (length bytes)
