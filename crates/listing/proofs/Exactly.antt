-- Each refusal of a line that is read, told exactly: which items were read, and what stood where the reader stopped.
-- The laws, in this order: `read_refused`, `twenty`, `twenty_one`, `twenty_two`, `seven_to_nine`, `data_refused`, `data_twenty_one`,
-- `data_twenty_two`.
use mathlib.Core.Path.{◌≡◌, refl, sym, ap, ◌∙◌, subst}
use mathlib.Core.Bool.{Bool, true, false}
use mathlib.Core.List.{List, [], ◌∷◌}
use mathlib.Core.Logic.{◌↔◌, inl, inr}
use mathlib.Core.Option.{Option, none, some}
use Prim.Native.Nat.{ℕ, ◌≤◌}
use native.Mathlib.Omega.{arith}
use lib.Dec.{T, leb, leb→le}
use Rattle.choice.specs.Pick.{pick}
use Rattle.choice.specs.Tells.{Tells, refused, Placed, accepted_whole, refused_at}
use Rattle.choice.proofs.Spans.{both, where_held, span, below}
use Rattle.choice.proofs.Tells.{refused_one, accepted_refused, refused_at_one, whole_refused}
use Rattle.isa.specs.declared.Family.{Family}
use Rattle.isa.specs.declared.Named.{Named}
use Rattle.isa.specs.Table.{row_at, no_row, number_of}
use Rattle.isa.specs.Words.{encode_of, word_for, Answered}
use Rattle.isa.proofs.Families.{own_row}
use Rattle.isa.proofs.Laws.{named_answered}
use Rattle.listing.specs.Places.{Place, form_of, written, at_family, at_mode, value_in}
use Rattle.listing.specs.Items.{Item, items_of}
use Rattle.listing.specs.Lines.{value_then, expect, only_of, field, ended, encoded, instruction, fields_of, word_of, past_of}
use Rattle.listing.specs.Data.{data_in, data_from, data_of}
use Rattle.listing.specs.Refusing.{Reads, FieldReads, Unreadable, form_at, HasMode, HasA, HasB, HasC, Stands, Misread, LeftOver, Unencoded, Refuses, shown, left, has_mode, has_a, has_b, has_c, at_family_lem, at_mode_lem, at_a, at_b, at_c, misread, item_left, has_no_word, at_place, left_over, unencoded, NoData, DataThenMore, RefusesData, more, no_data, data_left}

-- a step of the reader: where it stops, where it goes on, and that there is no third
module _ (past : ℕ) (next : ℕ → List Item → Placed ℕ) where
  expect_stops : (p : Place) (xs : List Item) (c : ℕ) → Unreadable past p xs c → expect past p xs next ≡ refused_at p.refusal c
  expect_stops p [] c u = ap (refused_at p.refusal) (sym u)
  expect_stops p (x ∷ xs) c u = ap (λ (o : Option ℕ). value_then p.refusal x.column xs o next) u.0 ∙ ap (refused_at p.refusal) (sym u.1)

  expect_goes : (p : Place) (xs : List Item) (v : ℕ) (rest : List Item) → Reads p xs v rest → expect past p xs next ≡ next v rest
  expect_goes p xs v rest r =
      ap (λ (xs : List Item). expect past p xs next) r.first
      ∙ ap (λ (o : Option ℕ). value_then p.refusal r.item.column rest o next) r.value

  field_goes : (s : ℕ) (p : Place) (xs : List Item) (v : ℕ) (rest : List Item) → FieldReads s p xs v rest → field past s p xs next ≡ next v rest
  field_goes s p xs v rest (shown q r) = rw q (expect_goes p xs v rest r)
  field_goes s p xs v rest (left q e l) = rw (q, e, l)

  module _ (k c : ℕ) (P : Type 0) where
    expect_met : (p : Place) (xs : List Item) → expect past p xs next ≡ refused_at k c
        → (k ≡ p.refusal → Unreadable past p xs c → P) → ((v : ℕ) (rest : List Item) → Reads p xs v rest → next v rest ≡ refused_at k c → P) → P
    expect_met p [] e halt on = let s = refused_at_one k p.refusal c past (sym e) in halt s.0 s.1
    expect_met p (x ∷ xs) e halt on = by_value (value_in p.names x.text) refl e halt
      where
        by_value : (o : Option ℕ) → value_in p.names x.text ≡ o → value_then p.refusal x.column xs o next ≡ refused_at k c
            → (k ≡ p.refusal → Unreadable past p (x ∷ xs) c → P) → P
        by_value none q e halt = let s = refused_at_one k p.refusal c x.column (sym e) in halt s.0 (q, s.1)
        by_value (some v) q e halt = on v xs (record { item = x; first = refl; value = q }) e

    field_met : (s : ℕ) (p : Place) (xs : List Item) → field past s p xs next ≡ refused_at k c
        → (written p ≡ true → k ≡ p.refusal → Unreadable past p xs c → P) → ((v : ℕ) (rest : List Item) → FieldReads s p xs v rest → next v rest ≡ refused_at k c → P) → P
    field_met s p xs e halt on = by_test (written p) refl e
      where
        by_test : (b : Bool) → written p ≡ b → pick b (expect past p xs next) (next (only_of s) xs) ≡ refused_at k c → P
        by_test true q e = expect_met p xs e (halt q) (λ v rest r. on v rest (shown q r))
        by_test false q e = on (only_of s) xs (left q refl refl) e

-- what is read after each item
module _ (past i mark : ℕ) where
  abbrev after_c : ℕ → ℕ → ℕ → List Item → Placed ℕ
  after_c a b c xs = ended xs (encoded (instruction (row_at i) mark a b c))

  abbrev after_b : ℕ → ℕ → List Item → Placed ℕ
  after_b a b xs = field past (row_at i).c (form_at i).c xs (after_c a b)

  abbrev after_a : ℕ → List Item → Placed ℕ
  after_a a xs = field past (row_at i).b (form_at i).b xs (after_b a)

abbrev after_family : ℕ → ℕ → List Item → Placed ℕ
after_family past i xs = expect past at_mode xs (fields_of past (row_at i))

module _ (line : List ℕ) where
  abbrev past : ℕ
  past = past_of line

  -- what was read brings the reader to what is left
  to_family : (i : ℕ) (xs : List Item) → Reads at_family (items_of line) i xs → word_of line ≡ after_family past i xs
  unfolding word_of
  to_family i xs r = expect_goes past (after_family past) at_family (items_of line) i xs r

  to_mode : (i mark : ℕ) (xs : List Item) → HasMode line i mark xs → word_of line ≡ fields_of past (row_at i) mark xs
  to_mode i mark xs (has_mode ys f m) = to_family i ys f ∙ expect_goes past (fields_of past (row_at i)) at_mode ys mark xs m

  to_a : (i mark a : ℕ) (xs : List Item) → HasA line i mark a xs → word_of line ≡ after_a past i mark a xs
  to_a i mark a xs (has_a ys h f) = to_mode i mark ys h ∙ field_goes past (after_a past i mark) (row_at i).a (form_at i).a ys a xs f

  to_b : (i mark a b : ℕ) (xs : List Item) → HasB line i mark a b xs → word_of line ≡ after_b past i mark a b xs
  to_b i mark a b xs (has_b ys h f) = to_a i mark a ys h ∙ field_goes past (after_b past i mark a) (row_at i).b (form_at i).b ys b xs f

  to_c : (i mark a b c : ℕ) (xs : List Item) → HasC line i mark a b c xs → word_of line ≡ after_c past i mark a b c xs
  to_c i mark a b c xs (has_c ys h f) = to_b i mark a b ys h ∙ field_goes past (after_c past i mark a b) (row_at i).c (form_at i).c ys c xs f

  -- where it stands, it expects the place's item
  written_field : (s : ℕ) (p q : Place) (xs : List Item) (next : ℕ → List Item → Placed ℕ) → p ≡ q → written p ≡ true → field past s q xs next ≡ expect past p xs next
  written_field s p q xs next e w = ap (λ (q : Place). field past s q xs next) (sym e) ∙ ap (λ (b : Bool). pick b (expect past p xs next) (next (only_of s) xs)) w

  stands_stops : (p : Place) (xs : List Item) (c : ℕ) → Stands line p xs → Unreadable past p xs c → word_of line ≡ refused_at p.refusal c
  unfolding word_of
  stands_stops p xs c (at_family_lem e x) u =
      ap (λ (ys : List Item). expect past at_family ys (after_family past)) (sym x)
      ∙ ap (λ (q : Place). expect past q xs (after_family past)) (sym e)
      ∙ expect_stops past (after_family past) p xs c u
  stands_stops p xs c (at_mode_lem i r e) u =
      to_family i xs r ∙ ap (λ (q : Place). expect past q xs (fields_of past (row_at i))) (sym e) ∙ expect_stops past (fields_of past (row_at i)) p xs c u
  stands_stops p xs c (at_a i mark h e w) u =
      to_mode i mark xs h ∙ written_field (row_at i).a p (form_at i).a xs (after_a past i mark) e w ∙ expect_stops past (after_a past i mark) p xs c u
  stands_stops p xs c (at_b i mark a h e w) u =
      to_a i mark a xs h ∙ written_field (row_at i).b p (form_at i).b xs (after_b past i mark a) e w ∙ expect_stops past (after_b past i mark a) p xs c u
  stands_stops p xs c (at_c i mark a b h e w) u =
      to_b i mark a b xs h ∙ written_field (row_at i).c p (form_at i).c xs (after_c past i mark a b) e w ∙ expect_stops past (after_c past i mark a b) p xs c u

  module _ (k column : ℕ) where
    refuses_so : Refuses line k column → word_of line ≡ refused_at k column
    refuses_so (at_place (misread p xs s e u)) = stands_stops p xs column s u ∙ ap (λ (j : ℕ). refused_at j column) e
    refuses_so (left_over e (item_left i mark a b c x xs h l)) =
        to_c i mark a b c (x ∷ xs) h ∙ ap (refused_at 22) (sym l) ∙ ap (λ (j : ℕ). refused_at j column) (sym e)
    refuses_so (unencoded (has_no_word i mark a b c h e l)) =
        to_c i mark a b c [] h ∙ ap (λ (t : Tells ℕ). record { told = t; index = 0 }) e ∙ ap (refused_at k) (sym l)

    by_end : (i mark a b c : ℕ) (xs : List Item) → HasC line i mark a b c xs → after_c past i mark a b c xs ≡ refused_at k column → Refuses line k column
    by_end i mark a b c [] h e = unencoded (has_no_word i mark a b c h (ap (λ (p : Placed ℕ). p.told) e) (sym (ap (λ (p : Placed ℕ). p.index) e)))
    by_end i mark a b c (x ∷ xs) h e = let s = refused_at_one k 22 column x.column (sym e) in left_over s.0 (item_left i mark a b c x xs h s.1)

    by_c : (i mark a b : ℕ) (xs : List Item) → HasB line i mark a b xs → after_b past i mark a b xs ≡ refused_at k column → Refuses line k column
    by_c i mark a b xs h e =
        field_met past (after_c past i mark a b) k column (Refuses line k column) (row_at i).c (form_at i).c xs e
        (λ w n u. at_place (misread (form_at i).c xs (at_c i mark a b h refl w) (sym n) u))
        (λ c rest r g. by_end i mark a b c rest (has_c xs h r) g)

    by_b : (i mark a : ℕ) (xs : List Item) → HasA line i mark a xs → after_a past i mark a xs ≡ refused_at k column → Refuses line k column
    by_b i mark a xs h e =
        field_met past (after_b past i mark a) k column (Refuses line k column) (row_at i).b (form_at i).b xs e
        (λ w n u. at_place (misread (form_at i).b xs (at_b i mark a h refl w) (sym n) u))
        (λ b rest r g. by_c i mark a b rest (has_b xs h r) g)

    by_a : (i mark : ℕ) (xs : List Item) → HasMode line i mark xs → fields_of past (row_at i) mark xs ≡ refused_at k column → Refuses line k column
    by_a i mark xs h e =
        field_met past (after_a past i mark) k column (Refuses line k column) (row_at i).a (form_at i).a xs e
        (λ w n u. at_place (misread (form_at i).a xs (at_a i mark h refl w) (sym n) u))
        (λ a rest r g. by_b i mark a rest (has_a xs h r) g)

    by_mode : (i : ℕ) (xs : List Item) → Reads at_family (items_of line) i xs → after_family past i xs ≡ refused_at k column → Refuses line k column
    by_mode i xs f e =
        expect_met past (fields_of past (row_at i)) k column (Refuses line k column) at_mode xs e
        (λ n u. at_place (misread at_mode xs (at_mode_lem i f refl) (sym n) u))
        (λ mark rest r g. by_a i mark rest (has_mode xs f r) g)

    so_refuses : word_of line ≡ refused_at k column → Refuses line k column
    unfolding word_of
    so_refuses e =
        expect_met past (after_family past) k column (Refuses line k column) at_family (items_of line) e
        (λ n u. at_place (misread at_family (items_of line) (at_family_lem refl refl) (sym n) u))
        (λ i rest r g. by_mode i rest r g)

-- a line is refused with a number and a column exactly so
pub read_refused : (line : List ℕ) (k column : ℕ) → (word_of line ≡ refused_at k column) ↔ Refuses line k column
read_refused line k column = (so_refuses line k column, refuses_so line k column)

-- a field that is written has the refusal 20 or 21
abbrev known : Place → Bool
known p = elim (written p) [ true ↦ elim (leb 20 p.refusal) [ true ↦ leb p.refusal 21 | false ↦ false ] | false ↦ true ]

abbrev form_known : Family → Bool
form_known f = elim (known (form_of f).a) [ true ↦ elim (known (form_of f).b) [ true ↦ known (form_of f).c | false ↦ false ] | false ↦ false ]

all_known : T (span 0 no_row (λ i. form_known (row_at i).family))
all_known = tt

knows : (f : Family) → T (known (form_of f).a) × T (known (form_of f).b) × T (known (form_of f).c)
knows f =
    let l = subst (λ (f : Family). T (form_known f)) (own_row f).1 (below (λ i. form_known (row_at i).family) no_row (number_of f) all_known (own_row f).0) in
    let t = both (known (form_of f).a) _ l in
    let u = both (known (form_of f).b) (known (form_of f).c) t.1 in
    (t.0, u.0, u.1)

field_number : (p q : Place) → p ≡ q → written p ≡ true → T (known q) → (20 ≤ p.refusal) × (p.refusal ≤ 21)
field_number p q e w t =
    let b = both (leb 20 p.refusal) (leb p.refusal 21) (where_held (written p) _ (subst (λ (q : Place). T (known q)) (sym e) t) w) in
    (leb→le 20 p.refusal b.0, leb→le p.refusal 21 b.1)

-- a place where the reader stands has the refusal 20 or 21
pub stands_number : (line : List ℕ) (p : Place) (xs : List Item) → Stands line p xs → (20 ≤ p.refusal) × (p.refusal ≤ 21)
stands_number line p xs (at_family_lem e x) = field_number p at_family e (ap written e) tt
stands_number line p xs (at_mode_lem i r e) = field_number p at_mode e (ap written e) tt
stands_number line p xs (at_a i mark h e w) = field_number p (form_at i).a e w (knows (row_at i).family).0
stands_number line p xs (at_b i mark a h e w) = field_number p (form_at i).b e w (knows (row_at i).family).1
stands_number line p xs (at_c i mark a b h e w) = field_number p (form_at i).c e w (knows (row_at i).family).2

-- a refusal's number says of which kind it is
named_number : (n : Named) (k : ℕ) → encode_of n ≡ refused k → k ≤ 9
named_number n k e = by_answer (named_answered n)
  where
    by_answer : Answered (encode_of n) (word_for n) → k ≤ 9
    by_answer (inl q) = absurd (accepted_refused (word_for n) k (sym q ∙ e))
    by_answer (inr (inl q)) = omega (arith, refused_one {A = ℕ} 7 k (sym q ∙ e))
    by_answer (inr (inr (inl q))) = omega (arith, refused_one {A = ℕ} 8 k (sym q ∙ e))
    by_answer (inr (inr (inr q))) = omega (arith, refused_one {A = ℕ} 9 k (sym q ∙ e))

module _ (line : List ℕ) (k column : ℕ) where
  place_number : Misread line k column → (20 ≤ k) × (k ≤ 21)
  place_number (misread p xs s e u) = subst (λ (k : ℕ). (20 ≤ k) × (k ≤ 21)) e (stands_number line p xs s)

  word_number : Unencoded line k column → k ≤ 9
  word_number (has_no_word i mark a b c h e l) = named_number (instruction (row_at i) mark a b c) k e

  misreads : 20 ≤ k → k ≤ 21 → Refuses line k column → Misread line k column
  misreads l h (at_place m) = m
  misreads l h (left_over e m) = absurd (omega arith)
  misreads l h (unencoded u) = absurd (omega (arith, word_number u))

  leaves_over : k ≡ 22 → Refuses line k column → LeftOver line column
  leaves_over h (at_place m) = absurd (omega (arith, (place_number m).1))
  leaves_over h (left_over e m) = m
  leaves_over h (unencoded u) = absurd (omega (arith, word_number u))

  lacks_word : k ≤ 9 → Refuses line k column → Unencoded line k column
  lacks_word h (at_place m) = absurd (omega (arith, (place_number m).0))
  lacks_word h (left_over e m) = absurd (omega arith)
  lacks_word h (unencoded u) = u

module _ (line : List ℕ) (column : ℕ) where
  -- 20: at a place of names, none of them
  pub twenty : (word_of line ≡ refused_at 20 column) ↔ Misread line 20 column
  twenty = (λ e. misreads line 20 column (omega arith) (omega arith) (so_refuses line 20 column e), λ m. refuses_so line 20 column (at_place m))

  -- 21: at a place of numbers, none of them
  pub twenty_one : (word_of line ≡ refused_at 21 column) ↔ Misread line 21 column
  twenty_one = (λ e. misreads line 21 column (omega arith) (omega arith) (so_refuses line 21 column e), λ m. refuses_so line 21 column (at_place m))

  -- 22: an item left over
  pub twenty_two : (word_of line ≡ refused_at 22 column) ↔ LeftOver line column
  twenty_two = (λ e. leaves_over line 22 column refl (so_refuses line 22 column e), λ m. refuses_so line 22 column (left_over refl m))

-- 7, 8 and 9: those of the named instruction
pub seven_to_nine : (line : List ℕ) (k column : ℕ) → k ≤ 9 → (word_of line ≡ refused_at k column) ↔ Unencoded line k column
seven_to_nine line k column h = (λ e. lacks_word line k column h (so_refuses line k column e), λ u. refuses_so line k column (unencoded u))

abbrev after_data : ℕ → List Item → Placed ℕ
after_data d xs = ended xs (accepted_whole d)

module _ (past column : ℕ) where
  data_stops : (xs : List Item) → NoData past xs column → data_from past xs ≡ refused_at 21 column
  data_stops [] u = ap (refused_at 21) (sym u)
  data_stops (x ∷ xs) u = ap (λ (o : Option ℕ). value_then 21 x.column xs o after_data) u.0 ∙ ap (refused_at 21) (sym u.1)

  data_leaves : (xs : List Item) → DataThenMore xs column → data_from past xs ≡ refused_at 22 column
  data_leaves xs (more x y rest d e q l) = ap (data_from past) e ∙ ap (λ (o : Option ℕ). value_then 21 x.column (y ∷ rest) o after_data) q ∙ ap (refused_at 22) (sym l)

  data_met : (k : ℕ) (P : Type 0) (xs : List Item) → data_from past xs ≡ refused_at k column → (k ≡ 21 → NoData past xs column → P) → (k ≡ 22 → DataThenMore xs column → P) → P
  data_met k P [] e f g = let s = refused_at_one k 21 column past (sym e) in f s.0 s.1
  data_met k P (x ∷ xs) e f g = by_value (data_in x.text) refl xs e f g
    where
      by_value : (o : Option ℕ) → data_in x.text ≡ o → (xs : List Item) → value_then 21 x.column xs o after_data ≡ refused_at k column
          → (k ≡ 21 → NoData past (x ∷ xs) column → P) → (k ≡ 22 → DataThenMore (x ∷ xs) column → P) → P
      by_value none q xs e f g = let s = refused_at_one k 21 column x.column (sym e) in f s.0 (q, s.1)
      by_value (some d) q [] e f g = absurd (whole_refused d k column e)
      by_value (some d) q (y ∷ ys) e f g = let s = refused_at_one k 22 column y.column (sym e) in g s.0 (more x y ys d refl q s.1)

-- data is refused with a number and a column exactly so
pub data_refused : (line : List ℕ) (k column : ℕ) → (data_of line ≡ refused_at k column) ↔ RefusesData line k column
unfolding data_of
data_refused line k column = (λ e. data_met (past_of line) column k (RefusesData line k column) (items_of line) e no_data data_left, so)
  where
    so : RefusesData line k column → data_from (past_of line) (items_of line) ≡ refused_at k column
    so (no_data e u) = data_stops (past_of line) column (items_of line) u ∙ ap (λ (j : ℕ). refused_at j column) (sym e)
    so (data_left e m) = data_leaves (past_of line) column (items_of line) m ∙ ap (λ (j : ℕ). refused_at j column) (sym e)

module _ (line : List ℕ) (column : ℕ) where
  lacks_data : (k : ℕ) → k ≡ 21 → RefusesData line k column → NoData (past_of line) (items_of line) column
  lacks_data k h (no_data e u) = u
  lacks_data k h (data_left e m) = absurd (omega arith)

  leaves_data : (k : ℕ) → k ≡ 22 → RefusesData line k column → DataThenMore (items_of line) column
  leaves_data k h (no_data e u) = absurd (omega arith)
  leaves_data k h (data_left e m) = m

  -- 21: no four digits first
  pub data_twenty_one : (data_of line ≡ refused_at 21 column) ↔ NoData (past_of line) (items_of line) column
  data_twenty_one = (λ e. lacks_data 21 refl ((data_refused line 21 column).0 e), λ u. (data_refused line 21 column).1 (no_data refl u))

  -- 22: an item after them
  pub data_twenty_two : (data_of line ≡ refused_at 22 column) ↔ DataThenMore (items_of line) column
  data_twenty_two = (λ e. leaves_data 22 refl ((data_refused line 22 column).0 e), λ m. (data_refused line 22 column).1 (data_left refl m))
