-- For the contracts of private parts of decoder and encoder alone: nobody needs this file to know what a word means, which Table, Slots and Words
-- say. The decision over quadrant, A and B answers a slot by the number of its first row.
use Rattle.std.specs.Prelude.{ℕ, ◌<◌, List, [], ◌∷◌, ◌≡◌, Bool, false, eqb, ltb, Option, Some, None}
use Rattle.std.specs.List.{find}
use Rattle.choice.specs.Pick.{pick}
use Rattle.refusals.specs.declared.Refusal.{Refusal}
use Rattle.isa.specs.declared.Family.{Family}
use Rattle.isa.specs.declared.Family.TheVariants.{Tor1, Bonr, Rotnr}
use Rattle.isa.specs.declared.Row.{Row}
use Rattle.isa.specs.declared.Named.{Named}
use Rattle.isa.specs.declared.parts.Fields.{Fields}
use Rattle.isa.specs.Fields.{mark_of, quadrant_of, field_a, field_b, field_c, mode_of, mark_for}
use Rattle.isa.specs.Table.{row, rows, no_row, number_of}
use Rattle.isa.specs.Slots.{slot_rows, takes, row_of}

abbrev pub first_of : List ℕ → ℕ
first_of [] = no_row
first_of (i ∷ is) = i

-- the slot's number; no_row where it has no row
abbrev pub slot_of : ℕ → ℕ → ℕ → ℕ → ℕ
slot_of mark q a b = first_of (slot_rows mark q a b)

-- the rows of the slot that row s is in: BONR and ROTNR share one, and no other slot has two rows
abbrev pub sharing : ℕ → List ℕ
sharing s =
    pick (ltb s no_row)
    (pick (eqb s (number_of Bonr)) (number_of Bonr ∷ number_of Rotnr ∷ [])
    (pick (eqb s (number_of Rotnr)) (number_of Bonr ∷ number_of Rotnr ∷ []) (s ∷ [])))
    []

-- the number of a family's row, or no_row
abbrev pub row_number : Option Family → ℕ
row_number None = no_row
row_number (Some f) = number_of f

-- the fields are a word's
pub record FieldsOf (p : Fields) (w : ℕ) : Type 0 where
  pub mark : p.mark ≡ mark_of w
  pub quadrant : p.quadrant ≡ quadrant_of w
  pub a : p.a ≡ field_a w
  pub b : p.b ≡ field_b w
  pub c : p.c ≡ field_c w

-- the family is that of the row which some fields belong to. Under a name, so that no proof opens the search for the row
unfoldable pub RowIs : Fields → Option Family → Type 0
RowIs p r = row_number r ≡ row_of p.mark p.quadrant p.a p.b p.c

-- the instruction of a family that has some fields
abbrev pub named_by_fields : Family → Fields → Named
named_by_fields f p = record { family = f; mode = mode_of p.mark; a = p.a; b = p.b; c = p.c }

-- a row takes some fields: it is of their quadrant and has their mode and values
abbrev pub takes_fields : Row → Fields → Bool
takes_fields r p = pick (eqb r.quadrant p.quadrant) (takes r (mark_for (mode_of p.mark)) p.a p.b p.c) false

-- a row of which only the rule counts, for what a rule refuses
abbrev pub rule_only : Option Refusal → Row
rule_only rule = row Tor1 0 0 0 0 0 rule 0

-- a row's quadrant, and its sets of values of A, B and C, fit into what the code has for them
pub record Narrow (r : Row) : Type 0 where
  pub quadrant : r.quadrant < 4
  pub a : r.a < 0x10000
  pub b : r.b < 0x10000
  pub c : r.c < 0x100000000

-- the first row of the table that takes some fields. Under a name, likewise
unfoldable pub RowTaking : Fields → Option Row → Type 0
RowTaking p r = r ≡ find (λ s. takes_fields s p) rows
