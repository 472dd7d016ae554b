-- For the laws of refusals: what it is that a line is refused with a number at a column (document 02, request 1).
use Rattle.std.specs.Prelude.{◌≡◌, true, false, List, [], ◌∷◌, ℕ}
use Rattle.std.proofs.Math.Option.{none, some}
use Rattle.choice.specs.Tells.{refused}
use Rattle.isa.specs.Table.{row_at}
use Rattle.isa.specs.Words.{encode_of}
use Rattle.listing.specs.Places.{Place, Form, form_of, written, at_family, at_mode, value_in}
use Rattle.listing.specs.Items.{Item, items_of}
use Rattle.listing.specs.Lines.{only_of, instruction, past_of}
use Rattle.listing.specs.Data.{data_in}

-- the first item has a value at a place: that value, and the items after it
pub record Reads (p : Place) (xs : List Item) (v : ℕ) (rest : List Item) : Type 0 where
  pub item : Item
  pub first : xs ≡ item ∷ rest
  pub value : value_in p.names item.text ≡ some v

-- a field of a row's set: an item where it is written, and else the only value of the set
pub data FieldReads (s : ℕ) (p : Place) (xs : List Item) (v : ℕ) (rest : List Item) : Type 0 where
  shown : written p ≡ true → Reads p xs v rest → FieldReads s p xs v rest
  left : written p ≡ false → v ≡ only_of s → rest ≡ xs → FieldReads s p xs v rest

-- the item is missing, with the column one past the line, or it is none of the place's names, with its own column
abbrev pub Unreadable : ℕ → Place → List Item → ℕ → Type 0
Unreadable past p [] c = c ≡ past
Unreadable past p (x ∷ xs) c = (value_in p.names x.text ≡ none) × (c ≡ x.column)

-- fields A, B and C of the family with a number
abbrev pub form_at : ℕ → Form
form_at i = form_of (row_at i).family

-- the family and the mode have been read, and these items are left
pub data HasMode (line : List ℕ) (i mark : ℕ) (xs : List Item) : Type 0 where
  has_mode : (ys : List Item) → Reads at_family (items_of line) i ys → Reads at_mode ys mark xs → HasMode line i mark xs

-- and field A
pub data HasA (line : List ℕ) (i mark a : ℕ) (xs : List Item) : Type 0 where
  has_a : (ys : List Item) → HasMode line i mark ys → FieldReads (row_at i).a (form_at i).a ys a xs → HasA line i mark a xs

-- and field B
pub data HasB (line : List ℕ) (i mark a b : ℕ) (xs : List Item) : Type 0 where
  has_b : (ys : List Item) → HasA line i mark a ys → FieldReads (row_at i).b (form_at i).b ys b xs → HasB line i mark a b xs

-- and field C
pub data HasC (line : List ℕ) (i mark a b c : ℕ) (xs : List Item) : Type 0 where
  has_c : (ys : List Item) → HasB line i mark a b ys → FieldReads (row_at i).c (form_at i).c ys c xs → HasC line i mark a b c xs

-- the reader stands at a place: all before it has been read, and these items are left
pub data Stands (line : List ℕ) (p : Place) (xs : List Item) : Type 0 where
  at_family_lem : p ≡ at_family → xs ≡ items_of line → Stands line p xs
  at_mode_lem : (i : ℕ) → Reads at_family (items_of line) i xs → p ≡ at_mode → Stands line p xs
  at_a : (i mark : ℕ) → HasMode line i mark xs → p ≡ (form_at i).a → written p ≡ true → Stands line p xs
  at_b : (i mark a : ℕ) → HasA line i mark a xs → p ≡ (form_at i).b → written p ≡ true → Stands line p xs
  at_c : (i mark a b : ℕ) → HasB line i mark a b xs → p ≡ (form_at i).c → written p ≡ true → Stands line p xs

-- the reader stands at a place of this refusal and cannot read on
pub data Misread (line : List ℕ) (k column : ℕ) : Type 0 where
  misread : (p : Place) (xs : List Item) → Stands line p xs → p.refusal ≡ k → Unreadable (past_of line) p xs column → Misread line k column

-- all was read, and an item is left over
pub data LeftOver (line : List ℕ) (column : ℕ) : Type 0 where
  item_left : (i mark a b c : ℕ) (x : Item) (xs : List Item) → HasC line i mark a b c (x ∷ xs) → column ≡ x.column → LeftOver line column

-- all was read, none is left over, and the named instruction is refused
pub data Unencoded (line : List ℕ) (k column : ℕ) : Type 0 where
  has_no_word : (i mark a b c : ℕ) → HasC line i mark a b c [] → encode_of (instruction (row_at i) mark a b c) ≡ refused k → column ≡ 0 → Unencoded line k column

-- a line's refusal with a number and a column is one of three
pub data Refuses (line : List ℕ) (k column : ℕ) : Type 0 where
  at_place : Misread line k column → Refuses line k column
  left_over : k ≡ 22 → LeftOver line column → Refuses line k column
  unencoded : Unencoded line k column → Refuses line k column

-- the first item is missing, with the column one past the line, or it is not four digits, with its own column
abbrev pub NoData : ℕ → List Item → ℕ → Type 0
NoData past [] c = c ≡ past
NoData past (x ∷ xs) c = (data_in x.text ≡ none) × (c ≡ x.column)

-- the first item is data, and there is a second, with this column
pub data DataThenMore (xs : List Item) (column : ℕ) : Type 0 where
  more : (x y : Item) (rest : List Item) (d : ℕ) → xs ≡ x ∷ y ∷ rest → data_in x.text ≡ some d → column ≡ y.column → DataThenMore xs column

-- a refusal of data with a number and a column is one of two
pub data RefusesData (line : List ℕ) (k column : ℕ) : Type 0 where
  no_data : k ≡ 21 → NoData (past_of line) (items_of line) column → RefusesData line k column
  data_left : k ≡ 22 → DataThenMore (items_of line) column → RefusesData line k column
