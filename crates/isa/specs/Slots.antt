-- Which row a word belongs to: first by bits 15 to 5, its slot, and then by field C (document 01, the instruction list).
use Rattle.std.specs.Prelude.{ℕ, suc, Bool, true, false, List, [], ◌∷◌, eqb}
use Rattle.choice.specs.Pick.{pick}
use Rattle.isa.specs.declared.Row.{Row}
use Rattle.isa.specs.Sets.{has}
use Rattle.isa.specs.Table.{rows, row_at, no_row}

-- the row has the mode and the values of A and B
abbrev pub agrees : Row → ℕ → ℕ → ℕ → Bool
agrees r mark a b = pick (has r.a a) (pick (has r.b b) (has r.modes mark) false) false

-- the row takes bits 15 to 5
abbrev pub fits : Row → ℕ → ℕ → ℕ → ℕ → Bool
fits r mark q a b = elim (eqb r.quadrant q) [ false ↦ false | true ↦ agrees r mark a b ]

-- the row takes mode and fields, C too
abbrev pub takes : Row → ℕ → ℕ → ℕ → ℕ → Bool
takes r mark a b c = pick (agrees r mark a b) (has r.c c) false

-- the numbers, from i on, of the rows that take bits 15 to 5
abbrev pub fitting : List Row → ℕ → ℕ → ℕ → ℕ → ℕ → List ℕ
fitting [] i mark q a b = []
fitting (r ∷ rs) i mark q a b =
    elim (fits r mark q a b) [ true ↦ i ∷ fitting rs (suc i) mark q a b | false ↦ fitting rs (suc i) mark q a b ]

-- a slot: the numbers of the rows that bits 15 to 5 leave
abbrev pub slot_rows : ℕ → ℕ → ℕ → ℕ → List ℕ
slot_rows mark q a b = fitting rows 0 mark q a b

-- the first of some rows whose list for C has c
abbrev pub with_c : List ℕ → ℕ → ℕ
with_c [] c = no_row
with_c (i ∷ is) c = pick (has (row_at i).c c) i (with_c is c)

-- the row that these fields belong to
abbrev pub row_of : ℕ → ℕ → ℕ → ℕ → ℕ → ℕ
row_of mark q a b c = with_c (slot_rows mark q a b) c
