-- What `packtrace` makes of a text, and what it says of it. Document 01 says nothing of traces as text: the form is ours (docs/DECISIONS.md).
use Rattle.std.specs.Prelude.{◌≡◌, ℕ, ◌-◌, Bool, false, List, [], ◌∷◌, ◌++◌, eqb, ltb, length, take, get_or, drop, Some, None}
use Rattle.choice.specs.Pick.{pick}
use Rattle.choice.specs.Tells.{Placed}
use Rattle.text.specs.declared.Reader.{Reader}
use Rattle.text.specs.declared.Fault.{Fault}
use Rattle.text.specs.Bytes.{line_feed}
use Rattle.text.specs.Taking.{one_more, passed, kept_word, with_word, with_fault, fault_at, move_at, met_by, Took}
use Rattle.trace.specs.Layout.{words_per_record}
use Rattle.trace.specs.Writing.{trace_of, write_of}
use Rattle.lines.specs.declared.Program.TheVariants.{PackTrace}
use Rattle.lines.specs.declared.Remark.TheVariants.{Marked, Unnamed}
use Rattle.lines.specs.Answers.{Makes}
use Rattle.lines.specs.Words.{fault_line}
use Rattle.lines.specs.Remarks.{remark_line}
use Rattle.pages.specs.declared.PieceTaken.{PieceTaken}
use Rattle.pages.specs.declared.Written.{Written}
use Rattle.pages.specs.Writing.{Writes}
use Rattle.pages.specs.Running.{if_accepted, refusal_said}

-- the reader after some bytes of a text, the lent words, and the lines that cannot be read, in their order
pub record Gathered : Type 0 where
  pub reader : Reader
  pub words : List ℕ
  pub faults : List Fault

abbrev pub fault_then : Fault → Gathered → Gathered
fault_then f g = record { reader = g.reader; words = g.words; faults = f ∷ g.faults }

-- the bytes of a text one after another, to its end: as `take_from` (text, specs/Taking) does it up to the first fault
unfoldable pub gather_from : Reader → List ℕ → List ℕ → Gathered
gather_from s [] words = record { reader = s; words = words; faults = [] }
gather_from s (b ∷ bytes) words =
    met_by (move_at s b).met
    (gather_from (passed s (move_at s b) b) bytes words)
    (λ x. gather_from (with_word (passed s (move_at s b) b) (length words)) bytes (kept_word s.found x words))
    (λ e. fault_then (fault_at s e) (gather_from (with_fault (passed s (move_at s b) b)) bytes words))

-- twenty bad lines of a text are named
abbrev pub most_named : ℕ
most_named = 20

-- the lines that name these faults, k lines of the text being bad already
abbrev pub named_from : ℕ → List Fault → List ℕ
named_from k [] = []
named_from k (f ∷ faults) = pick (ltb k most_named) (fault_line f) [] ++ named_from (one_more k) faults

-- a byte order mark: EF BB BF, FF FE or FE FF; past the end of a text `get_or` gives 0, which none has
abbrev pub is_mark : ℕ → ℕ → ℕ → Bool
is_mark a b c =
    pick (eqb a 0xEF) (pick (eqb b 0xBB) (eqb c 0xBF) false)
    (pick (eqb a 0xFF) (eqb b 0xFE)
    (pick (eqb a 0xFE) (eqb b 0xFF) false))

-- before the first byte of a text. A mark is looked for in the first piece alone, which has three bytes or is the whole text (docs/DECISIONS.md)
abbrev pub at_start : Reader → Bool
at_start s = pick (eqb s.line 1) (eqb s.column 1) false

abbrev pub mark_said : Reader → List ℕ → List ℕ
mark_said s text = pick (at_start s) (pick (is_mark (get_or text 0 0) (get_or text 1 0) (get_or text 2 0)) (remark_line PackTrace Marked) []) []

-- what is said of a piece of a text: its mark, where it is the first piece, and its bad lines
unfoldable pub piece_said : Reader → List ℕ → List ℕ → List ℕ
piece_said s text words = mark_said s text ++ named_from s.faults (gather_from s text words).faults

-- what `take_text` promises: its answer, and the lent words and the lent slice before and after
pub record TakesPiece (s : Reader) (text : List ℕ) (r : PieceTaken) (words errors words' errors' : List ℕ) : Type 0 where
  pub reader : r.reader ≡ (gather_from s text words).reader
  pub kept : words' ≡ (gather_from s text words).words
  pub told : Makes (piece_said s text words) r.said errors errors'

-- the end of a text ends its last line
abbrev pub ended_from : Reader → List ℕ → Gathered
ended_from s words = gather_from s (line_feed ∷ []) words

-- the words found, as many as there are
abbrev pub found_words : Gathered → List ℕ
found_words g = take g.reader.found g.words

-- words as a trace in this room, and what is said where the writer refuses them
abbrev pub writing_of : List ℕ → ℕ → Placed ℕ
writing_of words room = write_of words_per_record (length words) room

abbrev pub written_text : List ℕ → ℕ → List ℕ
written_text words room = if_accepted (writing_of words room) (trace_of words_per_record words) (λ (number index : ℕ). [])

abbrev pub written_said : List ℕ → ℕ → List ℕ
written_said words room = if_accepted (writing_of words room) [] (refusal_said PackTrace)

-- a text with a bad line makes nothing
abbrev pub if_sound : Gathered → List ℕ → List ℕ
if_sound g text = pick (eqb g.reader.faults 0) text []

unfoldable pub packed_text : Gathered → ℕ → List ℕ
packed_text g room = if_sound g (written_text (found_words g) room)

-- how many bad lines were not named
abbrev pub unnamed_said : ℕ → List ℕ
unnamed_said k = pick (ltb most_named k) (remark_line PackTrace (Unnamed (k - most_named))) []

-- what is said at the end of a text: a fault of its last line, how many more there are, and the writer's refusal
unfoldable pub packed_said : Reader → Gathered → ℕ → List ℕ
packed_said s g room = named_from s.faults g.faults ++ (unnamed_said g.reader.faults ++ if_sound g (written_said (found_words g) room))

-- what `end_text` promises: its answer, and the lent words, trace and slice before and after
pub record EndsText (s : Reader) (r : Written) (words out errors words' out' errors' : List ℕ) : Type 0 where
  pub kept : words' ≡ (ended_from s words).words
  pub written : Writes (packed_text (ended_from s words) (length out)) (packed_said s (ended_from s words) (length out)) r out errors out' errors'

-- for a law: some bytes, and then more
abbrev pub gather_on : Gathered → List ℕ → Gathered
gather_on g more = record {
  reader = (gather_from g.reader more g.words).reader;
  words = (gather_from g.reader more g.words).words;
  faults = g.faults ++ (gather_from g.reader more g.words).faults;
}

-- for a law: how many lines are bad after these faults, k being bad before
abbrev pub bad_after : ℕ → List Fault → ℕ
bad_after k [] = k
bad_after k (f ∷ faults) = bad_after (one_more k) faults

abbrev pub gathered : Reader → List ℕ → Gathered
gathered s words = record { reader = s; words = words; faults = [] }

-- for a law: what a call of `take` leaves to be gathered: nothing at the end of the text, and after a fault the bytes after it; the text is what stands from
-- byte i on
abbrev pub gathered_after : Took → ℕ → List ℕ → Gathered
gathered_after t i text =
    elim t.taken.fault [
      | None ↦ gathered t.taken.reader t.words
      | Some f ↦ fault_then f (gather_from t.taken.reader (drop (t.taken.bytes - i) text) t.words)
    ]
