-- The line of a word, and the word of a line (document 02, request 1).
use Rattle.std.specs.Prelude.{ℕ, zero, suc, true, false, List, [], ◌∷◌, ◌++◌, length, ◌≡◌, eqb}
use Rattle.std.proofs.Math.Option.{Option, none, some}
use Rattle.choice.specs.Pick.{pick}
use Rattle.choice.specs.Tells.{Tells, accepted, refused, Placed, refused_at}
use Rattle.isa.specs.declared.Named.{Named}
use Rattle.isa.specs.declared.Row.{Row}
use Rattle.isa.specs.Fields.{mode_of, mark_for}
use Rattle.isa.specs.Sets.{has}
use Rattle.isa.specs.Table.{row_at, number_of}
use Rattle.isa.specs.Words.{decode_of, encode_of}
use Rattle.listing.specs.Places.{Place, Form, form_of, written, at_family, at_mode, text_in, value_in}
use Rattle.listing.specs.Items.{Item, joined, items_of, full}

abbrev pub text_of : Place → ℕ → List ℕ
text_of p v = text_in p.names v

-- the text of a field, if it is written
abbrev pub field_texts : Place → ℕ → List (List ℕ)
field_texts p v = pick (written p) (text_of p v ∷ []) []

-- the texts of a line: of the family, by the number of its row, of the mode, by its mark, and of those fields A, B and C that are written
abbrev pub texts_by : ℕ → ℕ → Form → ℕ → ℕ → ℕ → List (List ℕ)
texts_by i mark f a b c = text_of at_family i ∷ text_of at_mode mark ∷ (field_texts f.a a ++ (field_texts f.b b ++ field_texts f.c c))

abbrev pub texts_of : Named → List (List ℕ)
texts_of n = texts_by (number_of n.family) (mark_for n.mode) (form_of n.family) n.a n.b n.c

-- the line of a word; a refused word has its number
abbrev pub line_by : Tells Named → Tells (List ℕ)
line_by t = elim t.value [ some n ↦ accepted (joined (texts_of n)) | none ↦ refused t.number ]

unfoldable pub line_of : ℕ → Tells (List ℕ)
line_of w = line_by (decode_of w)

-- what is done with the value of an item; a refusal at its column where it has none
abbrev pub value_then : ℕ → ℕ → List Item → Option ℕ → (ℕ → List Item → Placed ℕ) → Placed ℕ
value_then k column xs none next = refused_at k column
value_then k column xs (some v) next = next v xs

-- the first item, read at a place: refused one past the line if it is missing
abbrev pub expect : ℕ → Place → List Item → (ℕ → List Item → Placed ℕ) → Placed ℕ
expect past p [] next = refused_at p.refusal past
expect past p (x ∷ xs) next = value_then p.refusal x.column xs (value_in p.names x.text) next

-- the lowest of n numbers from k on that is in a set; 0 where there is none
abbrev pub lowest : ℕ → ℕ → ℕ → ℕ
lowest zero k s = 0
lowest (suc n) k s = elim (has s k) [ true ↦ k | false ↦ lowest n (suc k) s ]

-- the only value of a set that has one
abbrev pub only_of : ℕ → ℕ
only_of s = lowest 32 0 s

-- a field that is not written has the only value of its set
abbrev pub field : ℕ → ℕ → Place → List Item → (ℕ → List Item → Placed ℕ) → Placed ℕ
field past s p xs next = pick (written p) (expect past p xs next) (next (only_of s) xs)

-- 22: items left over
abbrev pub ended : List Item → Placed ℕ → Placed ℕ
ended [] next = next
ended (x ∷ xs) next = refused_at 22 x.column

-- 7, 8 and 9 of the named instruction have column 0
abbrev pub encoded : Named → Placed ℕ
encoded n = record { told = encode_of n; index = 0 }

abbrev pub instruction : Row → ℕ → ℕ → ℕ → ℕ → Named
instruction r mark a b c = record { family = r.family; mode = mode_of mark; a = a; b = b; c = c }

-- fields A, B and C of a family, by its row, and the word
abbrev pub fields_of : ℕ → Row → ℕ → List Item → Placed ℕ
fields_of past r mark xs =
    field past r.a (form_of r.family).a xs (λ a xs.
    field past r.b (form_of r.family).b xs (λ b xs.
    field past r.c (form_of r.family).c xs (λ c xs.
    ended xs (encoded (instruction r mark a b c)))))

abbrev pub word_from : ℕ → List Item → Placed ℕ
word_from past xs =
    expect past at_family xs (λ i xs.
    expect past at_mode xs (λ mark xs.
    fields_of past (row_at i) mark xs))

-- the column one past the line: its length plus 1
abbrev pub past_of : List ℕ → ℕ
past_of line = suc (length line)

-- the word of a line, or the first refusal from the left with its column, and only then 7, 8 or 9 with column 0
unfoldable pub word_of : List ℕ → Placed ℕ
word_of line = word_from (past_of line) (items_of line)

-- for laws, a value of a field with set s: where the field is written, it has a text exactly when the set has it; where not, the set has one value alone
pub data Writes (s : ℕ) (p : Place) (v : ℕ) : Type 0 where
  shown : written p ≡ true → full (text_of p v) ≡ has s v → Writes s p v
  left : written p ≡ false → has s v ≡ eqb v (only_of s) → Writes s p v
