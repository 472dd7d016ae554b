-- The row that is found for some fields is the one that takes them; and the first row of the table that does.
use mathlib.Core.Path.{◌≡◌, refl, ◌∙◌, sym, ap, subst}
use mathlib.Core.Bool.{Bool, true, false}
use mathlib.Core.List.{List, [], ◌∷◌}
use Prim.Native.Nat.{ℕ, zero, suc, ◌+◌, ◌<◌, ◌≤◌}
use native.Mathlib.Nat.{not-suc-le-zero}
use native.Mathlib.Omega.{arith}
use lib.Dec.{eqb, leb}
use lib.ListN.{length, get_or}
use borrow.Author.Tests.{eq-eqb, eqb-true, leb-true, leb-false}
use Rattle.choice.specs.Pick.{pick}
use Rattle.choice.proofs.Spans.{never}
use Rattle.std.specs.Prelude.{cond, Some, None}
use Rattle.std.specs.List.{find}
use Rattle.isa.specs.declared.Row.{Row}
use Rattle.isa.specs.declared.parts.Fields.{Fields}
use Rattle.isa.specs.Fields.{mark_of, quadrant_of, field_a, field_b, field_c, mode_of, mark_for}
use Rattle.isa.specs.Sets.{has}
use Rattle.isa.specs.Table.{rows, row_at, no_row}
use Rattle.isa.specs.Slots.{agrees, fits, takes, fitting, with_c, row_of}
use Rattle.isa.specs.Words.{word_number}
use Rattle.isa.specs.Decision.{FieldsOf, takes_fields, RowTaking}
use Rattle.isa.proofs.Lists.{any_default}
use Rattle.isa.proofs.Takes.{in_turn}
use Rattle.isa.proofs.Families.{mark_back}
use Rattle.isa.proofs.Disjoint.{one_row}

-- five equations, one of each argument
pub five : {A : Type 0} (f : ℕ → ℕ → ℕ → ℕ → ℕ → A) (m q a b c m' q' a' b' c' : ℕ) → (m ≡ m') × (q ≡ q') × (a ≡ a') × (b ≡ b') × (c ≡ c') → f m q a b c ≡ f m' q' a' b' c'
five f m q a b c m' q' a' b' c' (em, eq, ea, eb, ec) = cc

-- what stands past the table
abbrev blank : Row
blank = row_at no_row

-- a row takes bits 15 to 5 by its quadrant and by the rest
fits_of : (r : Row) (mark q a b : ℕ) → r.quadrant ≡ q → agrees r mark a b ≡ true → fits r mark q a b ≡ true
fits_of r mark q a b e t = by_test (eqb r.quadrant q) (eq-eqb r.quadrant q e)
  where
    by_test : (x : Bool) → x ≡ true → elim x [ false ↦ false | true ↦ agrees r mark a b ] ≡ true
    by_test true h = t
    by_test false h = absurd (never h)

of_fits : (r : Row) (mark q a b : ℕ) → fits r mark q a b ≡ true → (r.quadrant ≡ q) × (agrees r mark a b ≡ true)
of_fits r mark q a b t = by_test (eqb r.quadrant q) refl t
  where
    by_test : (x : Bool) → eqb r.quadrant q ≡ x → elim x [ false ↦ false | true ↦ agrees r mark a b ] ≡ true → (r.quadrant ≡ q) × (agrees r mark a b ≡ true)
    by_test true h t = (eqb-true r.quadrant q h, t)
    by_test false h t = absurd (never t)

-- the row i takes the fields, and is of the quadrant
pub record Belongs (mark q a b c i : ℕ) : Type 0 where
  pub listed : i < no_row
  pub quadrant : (row_at i).quadrant ≡ q
  pub fields : takes (row_at i) mark a b c ≡ true

-- a list of rows is the table from k on
abbrev From : ℕ → List Row → Type 0
From k rs = (j : ℕ) → j < length rs → get_or rs j blank ≡ row_at (k + j)

from_tail : (k : ℕ) (r : Row) (rs : List Row) → From k (r ∷ rs) → From (suc k) rs
from_tail k r rs f j h = let e : k + suc j ≡ suc k + j = omega arith in f (suc j) (omega arith) ∙ ap row_at e

from_head : (k : ℕ) (r : Row) (rs : List Row) → From k (r ∷ rs) → r ≡ row_at k
from_head k r rs f = let e : k + 0 ≡ k = omega arith in f 0 (omega arith) ∙ ap row_at e

in_table : 0 + length rows ≤ no_row
in_table = omega arith

whole : From 0 rows
whole j h = let e : j ≡ 0 + j = omega arith in any_default rows j blank _ h ∙ ap row_at e

module _ (mark q a b c : ℕ) where
  -- one row k before the rows already gone through
  module _ (k : ℕ) (r : Row) (e : r ≡ row_at k) (l : k < no_row) (rest : List ℕ) where
    abbrev with_it : Bool → ℕ
    with_it x = with_c (elim x [ true ↦ k ∷ rest | false ↦ rest ]) c

    found_by_c : (y : Bool) → has (row_at k).c c ≡ y → fits r mark q a b ≡ true
        → (with_c rest c < no_row → Belongs mark q a b c (with_c rest c)) → pick y k (with_c rest c) < no_row
        → Belongs mark q a b c (pick y k (with_c rest c))
    found_by_c true t f next h =
        let u = of_fits (row_at k) mark q a b (rw e at f) in
        record { listed = l; quadrant = u.0; fields = rw (u.1, t) }
    found_by_c false t f next h = next h

    found_step : (x : Bool) → fits r mark q a b ≡ x → (with_c rest c < no_row → Belongs mark q a b c (with_c rest c))
        → with_it x < no_row → Belongs mark q a b c (with_it x)
    found_step true f next h = found_by_c (has (row_at k).c c) refl f next h
    found_step false f next h = next h

    chosen : (y : Bool) → with_c rest c < no_row → pick y k (with_c rest c) < no_row
    chosen true h = l
    chosen false h = h

    finds_next : (x : Bool) → with_c rest c < no_row → with_it x < no_row
    finds_next true h = chosen (has (row_at k).c c) h
    finds_next false h = h

    finds_here : (x : Bool) → fits r mark q a b ≡ x → Belongs mark q a b c k → with_it x < no_row
    finds_here true f t = rw (in_turn (agrees (row_at k) mark a b) (has (row_at k).c c) t.fields).1 l
    finds_here false f t =
        absurd (never (sym f ∙ rw e (fits_of (row_at k) mark q a b t.quadrant (in_turn (agrees (row_at k) mark a b) (has (row_at k).c c) t.fields).0)))

  abbrev at : List Row → ℕ → ℕ
  at rs k = with_c (fitting rs k mark q a b) c

  -- what is found among the rows from k on takes the fields
  found : (k : ℕ) (rs : List Row) → From k rs → k + length rs ≤ no_row → at rs k < no_row → Belongs mark q a b c (at rs k)
  found k [] f l h = absurd (omega arith)
  found k (r ∷ rs) f l h =
      found_step k r (from_head k r rs f) (omega arith) (fitting rs (suc k) mark q a b) (fits r mark q a b) refl
      (found (suc k) rs (from_tail k r rs f) (omega arith)) h

  -- something is found if one of the rows from k on takes the fields
  finds : (k : ℕ) (rs : List Row) → From k rs → k + length rs ≤ no_row → (j : ℕ) → j < length rs → Belongs mark q a b c (k + j) → at rs k < no_row
  finds k [] f l j h t = absurd (not-suc-le-zero h)
  finds k (r ∷ rs) f l zero h t =
      finds_here k r (from_head k r rs f) (omega arith) (fitting rs (suc k) mark q a b) (fits r mark q a b) refl
      (subst (λ (i : ℕ). Belongs mark q a b c i) (omega arith) t)
  finds k (r ∷ rs) f l (suc j) h t =
      finds_next k r (from_head k r rs f) (omega arith) (fitting rs (suc k) mark q a b) (fits r mark q a b)
      (finds (suc k) rs (from_tail k r rs f) (omega arith) j (omega arith) (subst (λ (i : ℕ). Belongs mark q a b c i) (omega arith) t))

  -- the row that is found takes the fields
  pub row_belongs : row_of mark q a b c < no_row → Belongs mark q a b c (row_of mark q a b c)
  row_belongs h = found 0 rows whole in_table h

  -- a row that takes the fields is the one that is found
  pub belongs_row : (i : ℕ) → Belongs mark q a b c i → row_of mark q a b c ≡ i
  belongs_row i t =
      let e : i ≡ 0 + i = omega arith in
      let u = row_belongs (finds 0 rows whole in_table i t.listed (subst (λ (i : ℕ). Belongs mark q a b c i) e t)) in
      one_row (row_of mark q a b c) i mark a b c u.listed t.listed (u.quadrant ∙ sym t.quadrant) u.fields t.fields

-- row i takes a word
abbrev pub TakesWord : ℕ → ℕ → Type 0
TakesWord w i = Belongs (mark_of w) (quadrant_of w) (field_a w) (field_b w) (field_c w) i

both_true : (x y : Bool) → x ≡ true → y ≡ true → pick x y false ≡ true
both_true x y e f = rw (e, f)

-- the first row of the table that takes some fields, in a list of rows that is the table from k on
module _ (p : Fields) where
  abbrev test : Row → Bool
  test r = takes_fields r p

  -- row i of the table is r, and takes the fields
  pub record Takes (r : Row) (i : ℕ) : Type 0 where
    pub listed : i < no_row
    pub row : row_at i ≡ r
    pub fields : test r ≡ true

  first_taking : (k : ℕ) (rs : List Row) → From k rs → k + length rs ≤ no_row → (r : Row) → find test rs ≡ Some r → (i : ℕ) × Takes r i
  first_taking k [] f l r e = cc
  first_taking k (s ∷ rs) f l r e = by_test (test s) refl e (first_taking (suc k) rs (from_tail k s rs f) (omega arith) r)
    where
      by_test : (b : Bool) → test s ≡ b → cond b (Some s) (find test rs) ≡ Some r → (find test rs ≡ Some r → (i : ℕ) × Takes r i) → (i : ℕ) × Takes r i
      by_test true t e rest =
          let same : s ≡ r = cc in
          (k, record { listed = omega arith; row = sym (from_head k s rs f) ∙ same; fields = ap test (sym same) ∙ t })
      by_test false t e rest = rest e

  none_taking : (k : ℕ) (rs : List Row) → From k rs → find test rs ≡ None → (j : ℕ) → j < length rs → test (row_at (k + j)) ≡ false
  none_taking k [] f e j h = absurd (not-suc-le-zero h)
  none_taking k (s ∷ rs) f e j h = by_test (test s) refl e j h (none_taking (suc k) rs (from_tail k s rs f))
    where
      by_test : (b : Bool) → test s ≡ b → cond b (Some s) (find test rs) ≡ None → (j : ℕ) → j < length (s ∷ rs)
          → (find test rs ≡ None → (j : ℕ) → j < length rs → test (row_at (suc k + j)) ≡ false) → test (row_at (k + j)) ≡ false
      by_test true t e j h rest = cc
      by_test false t e zero h rest = let z : k + 0 ≡ k = omega arith in ap test (ap row_at z ∙ sym (from_head k s rs f)) ∙ t
      by_test false t e (suc j) h rest = let z : k + suc j ≡ suc k + j = omega arith in ap test (ap row_at z) ∙ rest e j (omega arith)

  pub taking_some : (r : Row) → RowTaking p (Some r) → (i : ℕ) × Takes r i
  unfolding RowTaking
  taking_some r e = first_taking 0 rows whole in_table r (sym e)

  pub taking_none : RowTaking p None → (j : ℕ) → j < no_row → test (row_at j) ≡ false
  unfolding RowTaking
  taking_none e j h = let z : j ≡ 0 + j = omega arith in ap test (ap row_at z) ∙ none_taking 0 rows whole (sym e) j h

  -- the fields are a word's: a row that takes them is the word's own
  module _ (w : ℕ) (bound : w < 0x10000) (h : FieldsOf p w) where
    abbrev takes_word : Row → ℕ → ℕ → ℕ → ℕ → ℕ → Bool
    takes_word r m q a b c = pick (eqb r.quadrant q) (takes r m a b c) false

    of_word : (r : Row) → test r ≡ takes_word r (mark_of w) (quadrant_of w) (field_a w) (field_b w) (field_c w)
    of_word r =
        five (takes_word r) (mark_for (mode_of p.mark)) p.quadrant p.a p.b p.c (mark_of w) (quadrant_of w) (field_a w) (field_b w) (field_c w)
        (ap (λ (m : ℕ). mark_for (mode_of m)) h.mark ∙ mark_back (mark_of w) (omega arith), h.quadrant, h.a, h.b, h.c)

    pub taking_own : (r : Row) (i : ℕ) → Takes r i → word_number w ≡ i
    taking_own r i t =
        let u = in_turn (eqb r.quadrant (quadrant_of w)) (takes r (mark_of w) (field_a w) (field_b w) (field_c w)) (sym (of_word r) ∙ t.fields) in
        belongs_row (mark_of w) (quadrant_of w) (field_a w) (field_b w) (field_c w) i
        (record {
          listed = t.listed;
          quadrant = ap (λ (r : Row). r.quadrant) t.row ∙ eqb-true r.quadrant (quadrant_of w) u.0;
          fields = ap (λ (r : Row). takes r (mark_of w) (field_a w) (field_b w) (field_c w)) t.row ∙ u.1;
        })

    pub none_own : ((j : ℕ) → j < no_row → test (row_at j) ≡ false) → no_row ≤ word_number w
    none_own n = by_test (leb no_row (word_number w)) refl
      where
        by_test : (b : Bool) → leb no_row (word_number w) ≡ b → no_row ≤ word_number w
        by_test true q = leb-true no_row (word_number w) q
        by_test false q =
            let listed : word_number w < no_row = leb-false no_row (word_number w) q in
            let own = row_belongs (mark_of w) (quadrant_of w) (field_a w) (field_b w) (field_c w) listed in
            let r = row_at (word_number w) in
            absurd (never (sym (n (word_number w) listed) ∙ of_word r ∙ both_true (eqb r.quadrant (quadrant_of w)) (takes r (mark_of w) (field_a w) (field_b w) (field_c w)) (eq-eqb r.quadrant (quadrant_of w) own.quadrant) own.fields))
