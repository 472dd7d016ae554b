-- Items and blanks: the items of joined texts are the texts, and a line's items joined are the line with runs of blanks made one, ends trimmed.
use mathlib.Core.Path.{◌≡◌, refl, ap, ◌∙◌}
use mathlib.Core.Bool.{Bool, true, false}
use mathlib.Core.List.{List, [], ◌∷◌, ◌++◌, map}
use Prim.Native.Nat.{ℕ, suc}
use lib.Dec.{T}
use Rattle.choice.specs.Pick.{pick}
use Rattle.choice.proofs.Spans.{both}
use Rattle.choice.specs.Text.{blank}
use Rattle.listing.specs.Items.{is_blank, after_blanks, joined, up_to_blank, Item, item, items_from, items_of, one_blank, squeezed, trimmed, normal, full}

-- no byte is a blank
abbrev pub clean : List ℕ → Bool
clean [] = true
clean (b ∷ bs) = elim (is_blank b) [ true ↦ false | false ↦ clean bs ]

-- a text that can be an item
abbrev pub sound : List ℕ → Bool
sound [] = false
sound (b ∷ bs) = clean (b ∷ bs)

abbrev pub texts : List Item → List (List ℕ)
texts xs = map (λ (x : Item). x.text) xs

abbrev pub all_sound : List (List ℕ) → Bool
all_sound [] = true
all_sound (t ∷ ts) = elim (sound t) [ true ↦ all_sound ts | false ↦ false ]

no_blank : (b : ℕ) (bs : List ℕ) → T (clean (b ∷ bs)) → (is_blank b ≡ false) × T (clean bs)
no_blank b bs t = by_test (is_blank b) t
  where
    by_test : (q : Bool) → T (elim q [ true ↦ false | false ↦ clean bs ]) → (q ≡ false) × T (clean bs)
    by_test true t = absurd t
    by_test false t = (refl, t)

up_to : (t : List ℕ) (ts : List (List ℕ)) → T (clean t) → up_to_blank (t ++ after_blanks ts) ≡ t
up_to [] [] h = refl
up_to [] (t ∷ ts) h = refl
up_to (b ∷ bs) ts h =
    let n = no_blank b bs h in
    rw n.0 (ap (λ (z : List ℕ). b ∷ z) (up_to bs ts n.1))

passed : (t : List ℕ) (rest : List ℕ) (xs : List (List ℕ)) → T (clean t) → ((k : ℕ) → texts (items_from false k rest) ≡ xs)
    → (k : ℕ) → texts (items_from false k (t ++ rest)) ≡ xs
passed [] rest xs h e k = e k
passed (b ∷ bs) rest xs h e k =
    let n = no_blank b bs h in
    rw n.0 (passed bs rest xs n.1 e (suc k))

begun : (t : List ℕ) (ts : List (List ℕ)) → T (sound t) → ((k : ℕ) → texts (items_from false k (after_blanks ts)) ≡ ts)
    → (k : ℕ) → texts (items_from true k (t ++ after_blanks ts)) ≡ t ∷ ts
begun [] ts h e k = absurd h
begun (b ∷ bs) ts h e k =
    let n = no_blank b bs h in
    let r = passed bs (after_blanks ts) ts n.1 e (suc k) in
    rw (n.0, up_to bs ts n.1) (ap (λ (z : List (List ℕ)). (b ∷ bs) ∷ z) r)

after_items : (ts : List (List ℕ)) → T (all_sound ts) → (k : ℕ) → texts (items_from false k (after_blanks ts)) ≡ ts
after_items [] h k = refl
after_items (t ∷ ts) h k =
    let s = both (sound t) (all_sound ts) h in
    begun t ts s.0 (after_items ts s.1) (suc k)

-- the items of joined texts
pub joined_items : (ts : List (List ℕ)) → T (all_sound ts) → texts (items_of (joined ts)) ≡ ts
joined_items [] h = refl
joined_items (t ∷ ts) h =
    let s = both (sound t) (all_sound ts) h in
    begun t ts s.0 (after_items ts s.1) 1

-- no item is empty
abbrev pub all_full : List Item → Bool
all_full [] = true
all_full (x ∷ xs) = elim (full x.text) [ true ↦ all_full xs | false ↦ false ]

pub items_full : (begins : Bool) (k : ℕ) (bs : List ℕ) → T (all_full (items_from begins k bs))
items_full begins k [] = tt
items_full begins k (b ∷ bs) = by_test (is_blank b) begins (λ begins. items_full begins (suc k) bs)
  where
    by_test : (q begins : Bool) → ((begins : Bool) → T (all_full (items_from begins (suc k) bs))) → T (all_full (pick q (items_from true (suc k) bs)
        (pick begins (item k (b ∷ up_to_blank bs) ∷ items_from false (suc k) bs) (items_from false (suc k) bs))))
    by_test true begins rest = rest true
    by_test false true rest = rest false
    by_test false false rest = rest false

one_more_lem : (ts : List (List ℕ)) → one_blank (after_blanks ts) ≡ after_blanks ts
one_more_lem [] = refl
one_more_lem (t ∷ ts) = refl

trim_first : (ts : List (List ℕ)) → trimmed (after_blanks ts) ≡ joined ts
trim_first [] = refl
trim_first (t ∷ ts) = refl

-- after a blank, and within an item
abbrev Outside : List ℕ → Type 0
Outside bs = (k : ℕ) → one_blank (squeezed bs) ≡ after_blanks (texts (items_from true k bs))

abbrev Inside : List ℕ → Type 0
Inside bs = (k : ℕ) → squeezed bs ≡ up_to_blank bs ++ after_blanks (texts (items_from false k bs))

outer : (b : ℕ) (bs : List ℕ) (q : Bool) → is_blank b ≡ q → Outside bs → Inside bs → Outside (b ∷ bs)
outer b bs true q o i k = rw q (ap one_blank (o (suc k)) ∙ one_more_lem (texts (items_from true (suc k) bs)))
outer b bs false q o i k = rw (q, q) (ap (λ (z : List ℕ). blank ∷ b ∷ z) (i (suc k)))

inner : (b : ℕ) (bs : List ℕ) (q : Bool) → is_blank b ≡ q → Outside bs → Inside bs → Inside (b ∷ bs)
inner b bs true q o i k = rw q (o (suc k))
inner b bs false q o i k = rw q (ap (λ (z : List ℕ). b ∷ z) (i (suc k)))

squeeze : (bs : List ℕ) → Outside bs × Inside bs
squeeze [] = (λ k. refl, λ k. refl)
squeeze (b ∷ bs) = (outer b bs (is_blank b) refl (squeeze bs).0 (squeeze bs).1, inner b bs (is_blank b) refl (squeeze bs).0 (squeeze bs).1)

pub normal_items : (line : List ℕ) → normal line ≡ joined (texts (items_of line))
unfolding normal
normal_items [] = refl
normal_items (b ∷ bs) = by_test (is_blank b) refl
  where
    by_test : (q : Bool) → is_blank b ≡ q → trimmed (squeezed (b ∷ bs)) ≡ joined (texts (items_of (b ∷ bs)))
    by_test true q = rw q (ap trimmed ((squeeze bs).0 2) ∙ trim_first (texts (items_from true 2 bs)))
    by_test false q = rw (q, q) (ap (λ (z : List ℕ). b ∷ z) ((squeeze bs).1 2))
