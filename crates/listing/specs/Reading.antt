-- For the contracts of private parts alone, those of the reader: the items that are left of a line, what is read of the first, and what is read next.
use Rattle.std.specs.Prelude.{◌≡◌, true, List, [], ◌∷◌, ℕ, suc, length, drop, Option, None, Some, Result, Ok, Err}
use Rattle.choice.specs.Tells.{Placed, refused_at}
use Rattle.refusals.specs.declared.Refusal.{Refusal}
use Rattle.refusals.specs.declared.Refused.{Refused}
use Rattle.refusals.specs.Numbers.{number_of}
use Rattle.listing.specs.declared.items.Item.{Item as Read}
use Rattle.listing.specs.declared.items.Items.{Items}
use Rattle.listing.specs.Items.{Item, item, items_from}
use Rattle.listing.specs.Data.{data_in}
use Rattle.listing.specs.Lines.{value_then}

-- the items from an index on that is not inside an item
abbrev pub items_at : List ℕ → ℕ → List Item
items_at line at = items_from true (suc at) (drop at line)

abbrev pub left : Items → List Item
left r = items_at r.line.now r.at

-- the column one past the line
abbrev pub past : Items → ℕ
past r = suc (length r.line.now)

-- the first item, and those after it
abbrev pub Takes : List Item → Option Read → List Item → Type 0
Takes xs None ys = (xs ≡ []) × (ys ≡ [])
Takes xs (Some i) ys = xs ≡ item i.column i.text.now ∷ ys

pub record NextItem (before after : Items) (r : Option Read) : Type 0 where
  pub line : past after ≡ past before
  pub takes : Takes (left before) r (left after)

-- the same, or a refusal one past the line
abbrev pub Given : ℕ → List Item → Refusal → Result Read Refused → List Item → Type 0
Given end xs k (Ok i) ys = xs ≡ item i.column i.text.now ∷ ys
Given end xs k (Err e) ys = (xs ≡ []) × (e ≡ record { refusal = k; index = end })

pub record FirstItem (before after : Items) (k : Refusal) (r : Result Read Refused) : Type 0 where
  pub line : past after ≡ past before
  pub given : Given (past before) (left before) k r (left after)

-- the data of the first item
abbrev pub data_first : ℕ → List Item → (ℕ → List Item → Placed ℕ) → Placed ℕ
data_first end [] next = refused_at 21 end
data_first end (x ∷ xs) next = value_then 21 x.column xs (data_in x.text) next

-- what a step leads to: what is read next, or a refusal
abbrev pub resume : {A : Type 0} → Result A Refused → List Item → (A → List Item → Placed ℕ) → Placed ℕ
resume (Ok x) xs next = next x xs
resume (Err e) xs next = refused_at (number_of e.refusal) e.index

pub record Steps (before after : Items) (r : Result ℕ Refused) (rule : (ℕ → List Item → Placed ℕ) → Placed ℕ) : Type 0 where
  pub line : past after ≡ past before
  pub leads : (next : ℕ → List Item → Placed ℕ) → resume r (left after) next ≡ rule next
