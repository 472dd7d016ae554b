-- A walk over the bytes of a line: blanks passed, and an item taken.
use mathlib.Core.Path.{◌≡◌, refl, sym, ap, ◌∙◌}
use mathlib.Core.Bool.{Bool, true, false, cond, not}
use mathlib.Core.List.{List, [], ◌∷◌}
use Prim.Native.Nat.{ℕ, suc, ◌+◌, ◌-◌, ◌<◌, ◌≤◌}
use native.Mathlib.Omega.{arith}
use lib.Dec.{ltb}
use lib.ListN.{length, take, drop, drop_of_length-le}
use borrow.Author.Tests.{ltb-true, ltb-false}
use Rattle.std.specs.Prelude.{Option, Some, None, unwrap_or}
use Rattle.std.specs.List.{position_or_len}
use lib.Seq.{take-length}
use Rattle.std.proofs.lemmas.List.{drop-drop, length-drop}
use Rattle.listing.specs.Items.{is_blank, Item, item, items_from, up_to_blank}
use Rattle.listing.specs.Reading.{items_at}

-- how many blanks come first, and how many bytes before the next blank
abbrev pub blanks : List ℕ → ℕ
blanks xs = position_or_len (λ b. not (is_blank b)) xs

abbrev pub size : List ℕ → ℕ
size xs = position_or_len is_blank xs

-- blanks passed
pass : (k : ℕ) (xs : List ℕ) → items_from true k xs ≡ items_from true (k + blanks xs) (drop (blanks xs) xs)
pass k [] = refl
pass k (b ∷ bs) = by_test (is_blank b) refl (pass (suc k) bs)
  where
    by_test : (q : Bool) → is_blank b ≡ q → items_from true (suc k) bs ≡ items_from true (suc k + blanks bs) (drop (blanks bs) bs)
        → items_from true k (b ∷ bs) ≡ items_from true (k + blanks (b ∷ bs)) (drop (blanks (b ∷ bs)) (b ∷ bs))
    by_test true e rest =
        let n : 1 + blanks bs ≡ suc (blanks bs) = omega arith in
        let m : suc k + blanks bs ≡ k + suc (blanks bs) = omega arith in
        rw (e, n) (rest ∙ ap (λ (j : ℕ). items_from true j (drop (blanks bs) bs)) m)
    by_test false e rest = let z : k + 0 ≡ k = omega arith in simp (e, z)

-- an item's bytes, and what comes after them
text_taken : (xs : List ℕ) → up_to_blank xs ≡ take (size xs) xs
text_taken [] = refl
text_taken (b ∷ bs) = by_test (is_blank b) refl (text_taken bs)
  where
    by_test : (q : Bool) → is_blank b ≡ q → up_to_blank bs ≡ take (size bs) bs → up_to_blank (b ∷ bs) ≡ take (size (b ∷ bs)) (b ∷ bs)
    by_test true e rest = rw e
    by_test false e rest =
        let n : 1 + size bs ≡ suc (size bs) = omega arith in
        rw (e, n) (ap (λ (z : List ℕ). b ∷ z) rest)

item_passed : (k : ℕ) (xs : List ℕ) → items_from false k xs ≡ items_from true (k + size xs) (drop (size xs) xs)
item_passed k [] = refl
item_passed k (b ∷ bs) = by_test (is_blank b) refl (item_passed (suc k) bs)
  where
    by_test : (q : Bool) → is_blank b ≡ q → items_from false (suc k) bs ≡ items_from true (suc k + size bs) (drop (size bs) bs)
        → items_from false k (b ∷ bs) ≡ items_from true (k + size (b ∷ bs)) (drop (size (b ∷ bs)) (b ∷ bs))
    by_test true e rest = let z : k + 0 ≡ k = omega arith in simp (e, z)
    by_test false e rest =
        let n : 1 + size bs ≡ suc (size bs) = omega arith in
        let m : suc k + size bs ≡ k + suc (size bs) = omega arith in
        rw (e, n) (rest ∙ ap (λ (j : ℕ). items_from true j (drop (size bs) bs)) m)

-- what begins with a byte that is no blank begins with an item
begun : (k : ℕ) (xs : List ℕ) → 0 < length xs → blanks xs ≡ 0 → items_from true k xs ≡ item k (take (size xs) xs) ∷ items_from true (k + size xs) (drop (size xs) xs)
begun k [] h z = absurd (omega arith)
begun k (b ∷ bs) h z = by_test (is_blank b) refl z
  where
    by_test : (q : Bool) → is_blank b ≡ q → blanks (b ∷ bs) ≡ 0
        → items_from true k (b ∷ bs) ≡ item k (take (size (b ∷ bs)) (b ∷ bs)) ∷ items_from true (k + size (b ∷ bs)) (drop (size (b ∷ bs)) (b ∷ bs))
    by_test true e z = absurd (let w = rw e at z in omega arith)
    by_test false e z =
        let xs : List ℕ = b ∷ bs in
        let here : items_from true k xs ≡ item k (b ∷ up_to_blank bs) ∷ items_from false (suc k) bs = rw e in
        let text : up_to_blank xs ≡ b ∷ up_to_blank bs = rw e in
        let more : items_from false k xs ≡ items_from false (suc k) bs = rw e in
        here
        ∙ ap (λ (t : List ℕ). item k t ∷ items_from false (suc k) bs) (sym text ∙ text_taken xs)
        ∙ ap (λ (ys : List Item). item k (take (size xs) xs) ∷ ys) (sym more ∙ item_passed k xs)

blanks_passed : (xs : List ℕ) → blanks (drop (blanks xs) xs) ≡ 0
blanks_passed [] = refl
blanks_passed (b ∷ bs) = by_test (is_blank b) refl (blanks_passed bs)
  where
    by_test : (q : Bool) → is_blank b ≡ q → blanks (drop (blanks bs) bs) ≡ 0 → blanks (drop (blanks (b ∷ bs)) (b ∷ bs)) ≡ 0
    by_test true e rest = let n : 1 + blanks bs ≡ suc (blanks bs) = omega arith in rw (e, n) rest
    by_test false e rest = simp e

-- the next item, if a byte is left that is no blank
module _ (line : List ℕ) (at : ℕ) where
  pub none_left : (rest : List ℕ) → rest ≡ drop at line → length rest ≤ blanks rest → items_at line at ≡ []
  none_left rest er h =
      ap (items_from true (suc at)) (sym er)
      ∙ pass (suc at) rest
      ∙ ap (items_from true (suc at + blanks rest)) (drop_of_length-le rest h)

  pub next_left : (n m : ℕ) (rest item_on : List ℕ) → rest ≡ drop at line → n ≡ blanks rest → n < length rest → item_on ≡ drop (at + n) line → m ≡ size item_on
      → items_at line at ≡ item (at + n + 1) (take m item_on) ∷ items_at line (at + n + m)
  next_left n m rest item_on er en h ei em =
      let b : blanks (drop at line) ≡ n = sym (en ∙ ap blanks er) in
      let d : drop n (drop at line) ≡ item_on = drop-drop n at line ∙ sym ei in
      let z : blanks item_on ≡ 0 = ap blanks (sym d ∙ ap (λ (j : ℕ). drop j (drop at line)) (sym b)) ∙ blanks_passed (drop at line) in
      let l : length item_on ≡ length rest - n = ap length (sym d) ∙ length-drop n (drop at line) ∙ ap (λ (xs : List ℕ). length xs - n) (sym er) in
      let k : suc at + n ≡ at + n + 1 = omega arith in
      let j : suc at + n + m ≡ suc (at + n + m) = omega arith in
      let r : drop m item_on ≡ drop (at + n + m) line = ap (drop m) ei ∙ drop-drop m (at + n) line in
      pass (suc at) (drop at line)
      ∙ ap (λ (j : ℕ). items_from true (suc at + j) (drop j (drop at line))) b
      ∙ ap (items_from true (suc at + n)) d
      ∙ begun (suc at + n) item_on (omega arith) z
      ∙ ap (λ (j : ℕ). item (suc at + n) (take j item_on) ∷ items_from true (suc at + n + j) (drop j item_on)) (sym em)
      ∙ ap (λ (j : ℕ). item j (take m item_on) ∷ items_from true (suc at + n + m) (drop m item_on)) k
      ∙ ap (λ (xs : List ℕ). item (at + n + 1) (take m item_on) ∷ items_from true (suc at + n + m) xs) r
      ∙ ap (λ (i : ℕ). item (at + n + 1) (take m item_on) ∷ items_from true i (drop (at + n + m) line)) j

-- what a search for an index answered
pub found_at : (n l i : ℕ) → cond (ltb n l) (Some n) None ≡ Some i → (i ≡ n) × (n < l)
found_at n l i e = by_test (ltb n l) refl e
  where
    by_test : (q : Bool) → ltb n l ≡ q → cond q (Some n) None ≡ Some i → (i ≡ n) × (n < l)
    by_test true q e = (cc, ltb-true n l q)
    by_test false q e = absurd cc

pub not_found : (n l : ℕ) → cond (ltb n l) (Some n) None ≡ None → l ≤ n
not_found n l e = by_test (ltb n l) refl e
  where
    by_test : (q : Bool) → ltb n l ≡ q → cond q (Some n) None ≡ None → l ≤ n
    by_test true q e = absurd cc
    by_test false q e = ltb-false n l q

pub found_or_all : (n l m : ℕ) (r : Option ℕ) → r ≡ cond (ltb n l) (Some n) None → n ≤ l → m ≡ unwrap_or r l → m ≡ n
found_or_all n l m r e h em = by_test (ltb n l) refl (em ∙ ap (λ (o : Option ℕ). unwrap_or o l) e)
  where
    by_test : (q : Bool) → ltb n l ≡ q → m ≡ unwrap_or (cond q (Some n) None) l → m ≡ n
    by_test true q e = e
    by_test false q e = let g = ltb-false n l q in omega arith

pub whole : (at : ℕ) (line : List ℕ) → take (length line - at) (drop at line) ≡ drop at line
whole at line = ap (λ (n : ℕ). take n (drop at line)) (sym (length-drop at line)) ∙ take-length (drop at line)
