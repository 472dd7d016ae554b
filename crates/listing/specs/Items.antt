-- The items of a line, and what it is to make runs of blanks one and to trim the ends (document 02, request 1).
use Rattle.std.specs.Prelude.{ℕ, suc, Bool, true, false, List, [], ◌∷◌, ◌++◌, eqb}
use Rattle.choice.specs.Pick.{pick}
use Rattle.choice.specs.Text.{blank}

-- a blank is this byte alone
abbrev pub is_blank : ℕ → Bool
is_blank b = eqb b blank

-- each text after a blank
abbrev pub after_blanks : List (List ℕ) → List ℕ
after_blanks [] = []
after_blanks (t ∷ ts) = blank ∷ (t ++ after_blanks ts)

-- texts, with one blank between each and the next
abbrev pub joined : List (List ℕ) → List ℕ
joined [] = []
joined (t ∷ ts) = t ++ after_blanks ts

-- an item of a line: the column, from 1, of its first byte, and its bytes
pub record Item : Type 0 where
  pub column : ℕ
  pub text : List ℕ

abbrev pub item : ℕ → List ℕ → Item
item k t = record { column = k; text = t }

-- bytes up to the next blank
abbrev pub up_to_blank : List ℕ → List ℕ
up_to_blank [] = []
up_to_blank (b ∷ bs) = pick (is_blank b) [] (b ∷ up_to_blank bs)

-- the items of the bytes from column k on; `begins` says that no item goes on here, so that a byte which is no blank begins one
abbrev pub items_from : Bool → ℕ → List ℕ → List Item
items_from begins k [] = []
items_from begins k (b ∷ bs) =
    pick (is_blank b) (items_from true (suc k) bs)
    (pick begins (item k (b ∷ up_to_blank bs) ∷ items_from false (suc k) bs) (items_from false (suc k) bs))

abbrev pub items_of : List ℕ → List Item
items_of line = items_from true 1 line

-- a blank before some bytes, unless they begin with a blank or there are none
abbrev pub one_blank : List ℕ → List ℕ
one_blank [] = []
one_blank (b ∷ bs) = pick (is_blank b) (b ∷ bs) (blank ∷ b ∷ bs)

-- runs of blanks made one, and none at the end
abbrev pub squeezed : List ℕ → List ℕ
squeezed [] = []
squeezed (b ∷ bs) = pick (is_blank b) (one_blank (squeezed bs)) (b ∷ squeezed bs)

-- without the blank at the beginning, of which squeezed bytes have one at most
abbrev pub trimmed : List ℕ → List ℕ
trimmed [] = []
trimmed (b ∷ bs) = pick (is_blank b) bs (b ∷ bs)

-- runs of blanks made one, the ends trimmed
unfoldable pub normal : List ℕ → List ℕ
normal line = trimmed (squeezed line)

-- for laws: not empty
abbrev pub full : List ℕ → Bool
full [] = false
full (b ∷ bs) = true
