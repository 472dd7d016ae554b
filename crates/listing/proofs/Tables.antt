-- What the lists of names have in common, each computed once: the names of one list are distinct, have no blank and seven bytes at most, none of them 0; and a family
-- writes just the values that its row has.
-- The laws, in this order: `family_good`, `mode_good`, `good_a`, `good_b`, `good_c`, `writes_a`, `writes_b`, `writes_c`.
use mathlib.Core.Path.{◌≡◌, refl, sym, ap, ◌∙◌, subst}
use mathlib.Core.Bool.{Bool, true, false, not}
use mathlib.Core.List.{List, [], ◌∷◌}
use mathlib.Core.Option.{Option, none, some, some-injective, some-ne-none}
use Prim.Native.Nat.{ℕ, ◌^◌, ◌<◌}
use native.Mathlib.Omega.{arith}
use lib.Dec.{T, eqb, ltb, leb, eqb→eq, ltb→lt}
use lib.ListN.{length}
use borrow.Author.Tests.{eqb-true, lt-ltb, ltb-true}
use Rattle.choice.specs.Along.{same}
use Rattle.choice.proofs.Spans.{never, holds, both, span, below}
use Rattle.choice.proofs.Decisions.{same_eq}
use Rattle.isa.specs.Sets.{has}
use Rattle.isa.specs.Table.{row_at, no_row}
use Rattle.listing.specs.Names.{Name}
use Rattle.listing.specs.Places.{Place, written, at_family, at_mode, form_of, same_text, text_in, value_in}
use Rattle.listing.specs.Lines.{text_of, only_of, Writes, shown, left}
use Rattle.listing.proofs.Splits.{sound}
use Rattle.listing.specs.Items.{full}

-- no field has a value that is as high
abbrev pub most_values : ℕ
most_values = 32

abbrev pub every : (Name → Bool) → List Name → Bool
every test [] = true
every test (x ∷ xs) = elim (test x) [ true ↦ every test xs | false ↦ false ]

abbrev found : Option ℕ → ℕ → Bool
found none v = false
found (some k) v = eqb k v

-- the bytes of a text are 1 to 255
abbrev proper : List ℕ → Bool
proper [] = true
proper (b ∷ bs) = elim (ltb 0 b) [ true ↦ elim (ltb b 256) [ true ↦ proper bs | false ↦ false ] | false ↦ false ]

-- a name has such bytes, seven at most
abbrev fits : Name → Bool
fits x = elim (proper x.text) [ true ↦ leb (length x.text) 7 | false ↦ false ]

-- a name is an item, its value has no other name, and no other value has it
abbrev distinct : List Name → Name → Bool
distinct xs x =
    elim (sound x.text) [
      | true ↦ elim (same_text (text_in xs x.value) x.text) [ true ↦ found (value_in xs x.text) x.value | false ↦ false ]
      | false ↦ false
    ]

abbrev sane : List Name → Name → Bool
sane xs x = elim (fits x) [ true ↦ elim (ltb x.value most_values) [ true ↦ distinct xs x | false ↦ false ] | false ↦ false ]

abbrev empty : List Name → Bool
empty [] = true
empty (x ∷ xs) = false

-- all names of a place are so, and there are none where it is not written
abbrev pub good : Place → Bool
good p = elim (every (sane p.names) p.names) [ true ↦ same (written p) (not (empty p.names)) | false ↦ false ]

pub family_good : T (good at_family)
family_good = tt

pub mode_good : T (good at_mode)
mode_good = tt

abbrev form_good : ℕ → Bool
form_good i =
    elim (good (form_of (row_at i).family).a) [
      | true ↦ elim (good (form_of (row_at i).family).b) [ true ↦ good (form_of (row_at i).family).c | false ↦ false ]
      | false ↦ false
    ]

all_good : T (span 0 no_row form_good)
all_good = tt

module _ (i : ℕ) (h : i < no_row) where
  good_from : T (elim (good (form_of (row_at i).family).a) [ true ↦ elim (good (form_of (row_at i).family).b) [ true ↦ good (form_of (row_at i).family).c | false ↦ false ] | false ↦ false ])
  good_from = below form_good no_row i all_good h

  pub good_a : T (good (form_of (row_at i).family).a)
  good_a = (both (good (form_of (row_at i).family).a) _ good_from).0

  good_later : T (elim (good (form_of (row_at i).family).b) [ true ↦ good (form_of (row_at i).family).c | false ↦ false ])
  good_later = (both (good (form_of (row_at i).family).a) _ good_from).1

  pub good_b : T (good (form_of (row_at i).family).b)
  good_b = (both (good (form_of (row_at i).family).b) _ good_later).0

  pub good_c : T (good (form_of (row_at i).family).c)
  good_c = (both (good (form_of (row_at i).family).b) _ good_later).1

pub same_text_lem : (x y : List ℕ) → same_text x y ≡ true → x ≡ y
same_text_lem [] [] e = refl
same_text_lem [] (b ∷ y) e = absurd (never e)
same_text_lem (a ∷ x) [] e = absurd (never e)
same_text_lem (a ∷ x) (b ∷ y) e = by_test (eqb a b) refl e (same_text_lem x y)
  where
    by_test : (t : Bool) → eqb a b ≡ t → elim t [ true ↦ same_text x y | false ↦ false ] ≡ true → (same_text x y ≡ true → x ≡ y) → a ∷ x ≡ b ∷ y
    by_test true q e rest = let h = eqb-true a b q in let r = rest e in cc
    by_test false q e rest = absurd (never e)

-- the name that was found by its value or by its text
pub record Chosen (test : Name → Bool) (v : ℕ) (t : List ℕ) : Type 0 where
  pub name : Name
  pub tested : T (test name)
  pub value : name.value ≡ v
  pub text : name.text ≡ t

module _ (test : Name → Bool) where
  pub by_value : (xs : List Name) (v : ℕ) → T (every test xs) → full (text_in xs v) ≡ true → Chosen test v (text_in xs v)
  by_value [] v t f = absurd (never f)
  by_value (x ∷ xs) v t f =
      let b = both (test x) (every test xs) t in
      by_test (eqb x.value v) refl b.0 f (by_value xs v b.1)
    where
      by_test : (q : Bool) → eqb x.value v ≡ q → T (test x) → full (elim q [ true ↦ x.text | false ↦ text_in xs v ]) ≡ true
          → (full (text_in xs v) ≡ true → Chosen test v (text_in xs v)) → Chosen test v (elim q [ true ↦ x.text | false ↦ text_in xs v ])
      by_test true q t f rest = record { name = x; tested = t; value = eqb-true x.value v q; text = refl }
      by_test false q t f rest = rest f

  pub by_text : (xs : List Name) (t : List ℕ) (v : ℕ) → T (every test xs) → value_in xs t ≡ some v → Chosen test v t
  by_text [] t v h e = absurd (some-ne-none v (sym e))
  by_text (x ∷ xs) t v h e =
      let b = both (test x) (every test xs) h in
      by_test (same_text x.text t) refl b.0 e (by_text xs t v b.1)
    where
      by_test : (q : Bool) → same_text x.text t ≡ q → T (test x) → elim q [ true ↦ some x.value | false ↦ value_in xs t ] ≡ some v
          → (value_in xs t ≡ some v → Chosen test v t) → Chosen test v t
      by_test true q s e rest = record { name = x; tested = s; value = some-injective x.value v e; text = same_text_lem x.text t q }
      by_test false q s e rest = rest e

found_is : (o : Option ℕ) (v : ℕ) → T (found o v) → o ≡ some v
found_is none v t = absurd t
found_is (some k) v t = ap some (eqb→eq k v t)

-- what is asked of a name, one by one
module _ (xs : List Name) (x : Name) (t : T (sane xs x)) where
  sane_rest : T (elim (ltb x.value most_values) [ true ↦ distinct xs x | false ↦ false ])
  sane_rest = (both (fits x) _ t).1

  sane_small : x.value < most_values
  sane_small = ltb→lt x.value most_values (both (ltb x.value most_values) (distinct xs x) sane_rest).0

  sane_distinct : T (distinct xs x)
  sane_distinct = (both (ltb x.value most_values) (distinct xs x) sane_rest).1

  sane_sound : T (sound x.text)
  sane_sound = (both (sound x.text) _ sane_distinct).0

  sane_pair : T (elim (same_text (text_in xs x.value) x.text) [ true ↦ found (value_in xs x.text) x.value | false ↦ false ])
  sane_pair = (both (sound x.text) _ sane_distinct).1

  sane_text : text_in xs x.value ≡ x.text
  sane_text = same_text_lem _ _ (holds _ (both (same_text (text_in xs x.value) x.text) _ sane_pair).0)

  sane_value : value_in xs x.text ≡ some x.value
  sane_value = found_is (value_in xs x.text) x.value (both (same_text (text_in xs x.value) x.text) _ sane_pair).1

module _ (p : Place) (g : T (good p)) where
  names_sane : T (every (sane p.names) p.names)
  names_sane = (both (every (sane p.names) p.names) _ g).0

  -- a value that was found is written so
  pub value_text : (t : List ℕ) (v : ℕ) → value_in p.names t ≡ some v → (text_of p v ≡ t) × (v < most_values)
  value_text t v e =
      let c = by_text (sane p.names) p.names t v names_sane e in
      let n : Name = c.name in (
        ap (text_in p.names) (sym c.value) ∙ sane_text p.names n c.tested ∙ c.text,
        subst (λ (v : ℕ). v < most_values) c.value (sane_small p.names n c.tested),
      )

  module _ (v : ℕ) (f : full (text_of p v) ≡ true) where
    chosen : Chosen (sane p.names) v (text_of p v)
    chosen = by_value (sane p.names) p.names v names_sane f

    -- and a text of a value is found again
    pub text_value : value_in p.names (text_of p v) ≡ some v
    text_value =
        ap (value_in p.names) (sym chosen.text) ∙ sane_value p.names chosen.name chosen.tested ∙ ap some chosen.value

    pub text_sound : T (sound (text_of p v))
    text_sound = subst (λ (t : List ℕ). T (sound t)) chosen.text (sane_sound p.names chosen.name chosen.tested)

-- a field is written where its set has more than one value, and its texts are those of the set's values
abbrev writes : ℕ → Place → ℕ → Bool
writes s p v = elim (same (not (eqb s (2 ^ only_of s))) (written p)) [
  | true ↦ elim (written p) [ true ↦ same (full (text_of p v)) (has s v) | false ↦ same (has s v) (eqb v (only_of s)) ]
  | false ↦ false
]

abbrev family_writes : ℕ → ℕ → Bool
family_writes i v =
    elim (writes (row_at i).a (form_of (row_at i).family).a v) [
      | true ↦ elim (writes (row_at i).b (form_of (row_at i).family).b v) [
        | true ↦ writes (row_at i).c (form_of (row_at i).family).c v
        | false ↦ false
      ]
      | false ↦ false
    ]

all_write : T (span 0 no_row (λ i. span 0 most_values (family_writes i)))
all_write = tt

writes_at : (s : ℕ) (p : Place) (v : ℕ) → T (writes s p v) → Writes s p v
writes_at s p v t = by_test (written p) refl (both (same (not (eqb s (2 ^ only_of s))) (written p)) _ t).1
  where
    by_test : (b : Bool) → written p ≡ b → T (elim b [ true ↦ same (full (text_of p v)) (has s v) | false ↦ same (has s v) (eqb v (only_of s)) ]) → Writes s p v
    by_test true q t = shown q (same_eq (full (text_of p v)) (has s v) (holds _ t))
    by_test false q t = left q (same_eq (has s v) (eqb v (only_of s)) (holds _ t))

module _ (i : ℕ) (h : i < no_row) (v : ℕ) (l : v < most_values) where
  here : T (family_writes i v)
  here = below (family_writes i) most_values v (below (λ i. span 0 most_values (family_writes i)) no_row i all_write h) l

  pub writes_a : Writes (row_at i).a (form_of (row_at i).family).a v
  writes_a = writes_at _ _ v (both (writes (row_at i).a (form_of (row_at i).family).a v) _ here).0

  later : T (elim (writes (row_at i).b (form_of (row_at i).family).b v) [ true ↦ writes (row_at i).c (form_of (row_at i).family).c v | false ↦ false ])
  later = (both (writes (row_at i).a (form_of (row_at i).family).a v) _ here).1

  pub writes_b : Writes (row_at i).b (form_of (row_at i).family).b v
  writes_b = writes_at _ _ v (both (writes (row_at i).b (form_of (row_at i).family).b v) _ later).0

  pub writes_c : Writes (row_at i).c (form_of (row_at i).family).c v
  writes_c = writes_at _ _ v (both (writes (row_at i).b (form_of (row_at i).family).b v) _ later).1

-- the families and the modes each have a text, and no other number has one
abbrev as_many : Place → ℕ → ℕ → Bool
as_many p n v = same (full (text_of p v)) (ltb v n)

all_families : T (span 0 most_values (as_many at_family no_row))
all_families = tt

all_modes : T (span 0 most_values (as_many at_mode 2))
all_modes = tt

many : (p : Place) (n : ℕ) → T (span 0 most_values (as_many p n)) → (v : ℕ) → v < most_values → full (text_of p v) ≡ ltb v n
many p n t v h = same_eq (full (text_of p v)) (ltb v n) (holds _ (below (as_many p n) most_values v t h))

pub family_text : (i : ℕ) → i < no_row → full (text_of at_family i) ≡ true
family_text i h = many at_family no_row all_families i (omega arith) ∙ lt-ltb i no_row h

pub family_small : (i : ℕ) → i < most_values → full (text_of at_family i) ≡ true → i < no_row
family_small i h e = ltb-true i no_row (sym (many at_family no_row all_families i h) ∙ e)

pub mode_text : (m : ℕ) → m < 2 → full (text_of at_mode m) ≡ true
mode_text m h = many at_mode 2 all_modes m (omega arith) ∙ lt-ltb m 2 h

pub mode_small : (m : ℕ) → m < most_values → full (text_of at_mode m) ≡ true → m < 2
mode_small m h e = ltb-true m 2 (sym (many at_mode 2 all_modes m h) ∙ e)
