-- A reader's steps, from place to place: where an item is the text of a value, and what an accepted line says of its items.
use mathlib.Core.Path.{◌≡◌, refl, sym, ap, ◌∙◌}
use mathlib.Core.Bool.{Bool, true, false}
use mathlib.Core.List.{List, [], ◌∷◌, ◌++◌}
use mathlib.Core.Option.{Option, none, some}
use Prim.Native.Nat.{ℕ, ◌<◌}
use native.Mathlib.Omega.{arith}
use lib.Dec.{T}
use borrow.Author.Tests.{eqb-true}
use Rattle.choice.specs.Pick.{pick}
use Rattle.choice.specs.Tells.{Placed, accepted_whole}
use Rattle.choice.proofs.Spans.{both, holds}
use Rattle.choice.proofs.Tells.{whole_refused}
use Rattle.isa.specs.Sets.{has}
use Rattle.listing.specs.Places.{Place, written, value_in}
use Rattle.listing.specs.Items.{Item, full}
use Rattle.listing.specs.Lines.{text_of, field_texts, value_then, expect, only_of, field, ended, Writes, shown, left}
use Rattle.listing.proofs.Splits.{sound, texts, all_sound, all_full}
use Rattle.listing.proofs.Tables.{most_values, good, value_text, text_value, text_sound}

module _ (past : ℕ) (next : ℕ → List Item → Placed ℕ) where
  -- the step was taken with a value: what is left to be read, and that it is read
  pub record Step (before : Placed ℕ) (v : ℕ) (ts : List (List ℕ)) : Type 0 where
    pub rest : List Item
    pub shown : texts rest ≡ ts
    pub goes : before ≡ next v rest

  pub expect_step : (p : Place) → T (good p) → (v : ℕ) (xs : List Item) (ts : List (List ℕ)) → full (text_of p v) ≡ true
      → texts xs ≡ text_of p v ∷ ts → Step (expect past p xs next) v ts
  expect_step p g v [] ts f e = absurd (let z : ◌≡◌ {A = ℕ} 0 1 = cc in omega arith)
  expect_step p g v (x ∷ xs) ts f e =
      let t : x.text ≡ text_of p v = cc in
      let o : value_in p.names x.text ≡ some v = rw t (text_value p g v f) in
      record { rest = xs; shown = cc; goes = ap (λ (o : Option ℕ). value_then p.refusal x.column xs o next) o }

  pub field_step : (s : ℕ) (p : Place) → T (good p) → (v : ℕ) (xs : List Item) (ts : List (List ℕ)) → Writes s p v → has s v ≡ true
      → texts xs ≡ field_texts p v ++ ts → Step (field past s p xs next) v ts
  field_step s p g v xs ts (shown q f) k e =
      let i : texts xs ≡ text_of p v ∷ ts = rw q at e in
      rw q (expect_step p g v xs ts (f ∙ k) i)
  field_step s p g v xs ts (left q f) k e =
      let i : texts xs ≡ ts = rw q at e in
      let o : v ≡ only_of s = eqb-true v (only_of s) (sym f ∙ k) in
      rw q (record { rest = xs; shown = i; goes = ap (λ (u : ℕ). next u xs) (sym o) })

  -- an accepted step
  pub record Met (w : ℕ) (p : Place) (xs : List Item) : Type 0 where
    pub value : ℕ
    pub rest : List Item
    pub small : value < most_values
    pub named : full (text_of p value) ≡ true
    pub shown : texts xs ≡ text_of p value ∷ texts rest
    pub goes : next value rest ≡ accepted_whole w
    pub fulls : T (all_full rest)

  pub expect_met : (w : ℕ) (p : Place) → T (good p) → (xs : List Item) → T (all_full xs) → expect past p xs next ≡ accepted_whole w → Met w p xs
  expect_met w p g [] t e = absurd (whole_refused w p.refusal past (sym e))
  expect_met w p g (x ∷ xs) t e = by_value (value_in p.names x.text) refl e
    where
      by_value : (o : Option ℕ) → value_in p.names x.text ≡ o → value_then p.refusal x.column xs o next ≡ accepted_whole w → Met w p (x ∷ xs)
      by_value none q e = absurd (whole_refused w p.refusal x.column (sym e))
      by_value (some v) q e =
          let f = value_text p g x.text v q in
          let b = both (full x.text) (all_full xs) t in
          record {
            value = v;
            rest = xs;
            small = f.1;
            named = ap full f.0 ∙ holds (full x.text) b.0;
            shown = ap (λ (z : List ℕ). z ∷ texts xs) (sym f.0);
            goes = e;
            fulls = b.1;
          }

  pub record Found (w : ℕ) (p : Place) (xs : List Item) : Type 0 where
    pub value : ℕ
    pub rest : List Item
    pub shown : texts xs ≡ field_texts p value ++ texts rest
    pub goes : next value rest ≡ accepted_whole w
    pub fulls : T (all_full rest)

  pub field_met : (w s : ℕ) (p : Place) → T (good p) → (xs : List Item) → T (all_full xs) → field past s p xs next ≡ accepted_whole w → Found w p xs
  field_met w s p g xs t e = by_test (written p) refl e
    where
      by_test : (b : Bool) → written p ≡ b → pick b (expect past p xs next) (next (only_of s) xs) ≡ accepted_whole w → Found w p xs
      by_test true q e =
          let m = expect_met w p g xs t e in
          record { value = m.value; rest = m.rest; shown = rw q m.shown; goes = m.goes; fulls = m.fulls }
      by_test false q e = record { value = only_of s; rest = xs; shown = rw q; goes = e; fulls = t }

pub ended_met : (w : ℕ) (xs : List Item) (next : Placed ℕ) → ended xs next ≡ accepted_whole w → (texts xs ≡ []) × (next ≡ accepted_whole w)
ended_met w [] next e = (refl, e)
ended_met w (x ∷ xs) next e = absurd (whole_refused w 22 x.column (sym e))

pub ended_step : (xs : List Item) (next : Placed ℕ) → texts xs ≡ [] → ended xs next ≡ next
ended_step [] next e = refl
ended_step (x ∷ xs) next e = absurd (let z : ◌≡◌ {A = ℕ} 0 1 = cc in omega arith)

pub sound_too : (t : List ℕ) (ts : List (List ℕ)) → T (sound t) → T (all_sound ts) → T (all_sound (t ∷ ts))
sound_too t ts s r = by_test (sound t) s
  where
    by_test : (b : Bool) → T b → T (elim b [ true ↦ all_sound ts | false ↦ false ])
    by_test true s = r
    by_test false s = absurd s

-- the texts of a field are items
pub field_sound : (s : ℕ) (p : Place) → T (good p) → (v : ℕ) (ts : List (List ℕ)) → Writes s p v → has s v ≡ true → T (all_sound ts) → T (all_sound (field_texts p v ++ ts))
field_sound s p g v ts (shown q f) k t = rw q (sound_too (text_of p v) ts (text_sound p g v (f ∙ k)) t)
field_sound s p g v ts (left q f) k t = rw q t
