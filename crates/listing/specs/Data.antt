-- The line of immediate data, and the data of a line (document 02, request 1): exactly four capital hex digits.
use Rattle.std.specs.Prelude.{ℕ, ◌+◌, ◌-◌, ◌*◌, List, [], ◌∷◌, ltb}
use Rattle.std.proofs.Math.Option.{Option, none, some}
use Rattle.choice.specs.Pick.{pick}
use Rattle.choice.specs.Tells.{Placed, accepted_whole, refused_at}
use Rattle.choice.specs.Text.{hex}
use Rattle.listing.specs.Items.{Item, items_of}
use Rattle.listing.specs.Lines.{value_then, ended, past_of}

abbrev pub data_line : ℕ → List ℕ
data_line d = hex 4 d

-- 16 stands for "no digit"
abbrev pub no_digit : ℕ
no_digit = 16

-- the digit that a byte stands for: "0" to "9" are 48 to 57, "A" to "F" 65 to 70
abbrev pub digit_of : ℕ → ℕ
digit_of b =
    pick (ltb b 48) no_digit
    (pick (ltb b 58) (b - 48)
    (pick (ltb b 65) no_digit
    (pick (ltb b 71) (b - 55) no_digit)))

-- a number and one digit more
abbrev pub with_digit : Option ℕ → ℕ → Option ℕ
with_digit none d = none
with_digit (some x) d = pick (ltb d no_digit) (some (16 * x + d)) none

-- the data of an item
abbrev pub data_in : List ℕ → Option ℕ
data_in [] = none
data_in (a ∷ []) = none
data_in (a ∷ b ∷ []) = none
data_in (a ∷ b ∷ c ∷ []) = none
data_in (a ∷ b ∷ c ∷ d ∷ []) = with_digit (with_digit (with_digit (with_digit (some 0) (digit_of a)) (digit_of b)) (digit_of c)) (digit_of d)
data_in (a ∷ b ∷ c ∷ d ∷ e ∷ t) = none

-- 21 where the item is missing or not four capital hex digits, then 22 where one is left over
abbrev pub data_from : ℕ → List Item → Placed ℕ
data_from past [] = refused_at 21 past
data_from past (x ∷ xs) = value_then 21 x.column xs (data_in x.text) (λ d xs. ended xs (accepted_whole d))

unfoldable pub data_of : List ℕ → Placed ℕ
data_of line = data_from (past_of line) (items_of line)
