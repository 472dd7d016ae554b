-- Texts put one after another, with a blank before each but the first.
use mathlib.Core.Path.{◌≡◌, refl, sym, ap, ◌∙◌}
use mathlib.Core.List.{List, [], ◌∷◌, ◌++◌, append_assoc, append-nil}
use Prim.Native.Nat.{ℕ, suc, ◌+◌, ◌<◌, ◌≤◌}
use native.Mathlib.Omega.{arith}
use native.Mathlib.Numerals.{add-one}
use lib.ListN.{length, take, drop, set, get_or, length-append}
use lib.Seq.{take-suc, drop-cons, take-append_seam, drop-append-add}
use Rattle.std.specs.Prelude.{Option, None, Some}
use Rattle.std.specs.Borrow.{Bor}
use Rattle.std.proofs.lemmas.List.{set_at, drop-drop, take-append-drop}
use Rattle.choice.specs.Text.{blank}
use Rattle.listing.specs.declared.writing.Texts.{Texts}
use Rattle.listing.specs.Items.{after_blanks, joined}
use Rattle.listing.specs.Told.{text_told, texts_told}
use Rattle.listing.proofs.Prints.{after_append}

-- those texts that are there
abbrev pub written_texts : List (Option (Bor (List ℕ))) → List (List ℕ)
written_texts [] = []
written_texts (t ∷ ts) = text_told t ++ written_texts ts

-- a line up to the text before the i-th after the first
abbrev pub so_far : List ℕ → List (Option (Bor (List ℕ))) → ℕ → List ℕ
so_far first others i = first ++ after_blanks (written_texts (take i others))

-- the texts of a line after the first
abbrev pub others_of : Texts → List (Option (Bor (List ℕ)))
others_of t = Some t.mode ∷ t.a ∷ t.b ∷ t.c ∷ []

pub line_whole : (t : Texts) → so_far t.family.now (others_of t) 4 ≡ joined (texts_told t)
line_whole t = ap (λ (ts : List (List ℕ)). t.family.now ++ after_blanks (t.mode.now ∷ (text_told t.a ++ (text_told t.b ++ ts)))) (append-nil (text_told t.c))

written_append : (xs ys : List (Option (Bor (List ℕ)))) → written_texts (xs ++ ys) ≡ written_texts xs ++ written_texts ys
written_append [] ys = refl
written_append (x ∷ xs) ys =
    ap (λ (ts : List (List ℕ)). text_told x ++ ts) (written_append xs ys) ∙ sym (append_assoc (text_told x) (written_texts xs) (written_texts ys))

module _ (first : List ℕ) (others : List (Option (Bor (List ℕ)))) (i : ℕ) where
  abbrev before : List (List ℕ)
  before = written_texts (take i others)

  -- what is put is no longer than the line
  pub so_far_short : length (so_far first others i) ≤ length (first ++ after_blanks (written_texts others))
  so_far_short =
      let e : written_texts others ≡ before ++ written_texts (drop i others) =
      ap written_texts (sym (take-append-drop i others)) ∙ written_append (take i others) (drop i others) in
      let a : after_blanks (written_texts others) ≡ after_blanks before ++ after_blanks (written_texts (drop i others)) =
      ap after_blanks e ∙ after_append before (written_texts (drop i others)) in
      rw a (simp length-append (omega arith))

  module _ (h : i < length others) where
    more : (o : Option (Bor (List ℕ))) → get_or others i None ≡ o → so_far first others (i + 1) ≡ so_far first others i ++ after_blanks (text_told o)
    more o e =
        let s : take (i + 1) others ≡ take i others ++ (o ∷ []) =
        ap (λ (j : ℕ). take j others) (add-one i) ∙ take-suc others i None h ∙ ap (λ (x : Option (Bor (List ℕ))). take i others ++ (x ∷ [])) e in
        ap (λ (xs : List (Option (Bor (List ℕ)))). first ++ after_blanks (written_texts xs)) s
        ∙ ap (λ (ts : List (List ℕ)). first ++ after_blanks ts) (written_append (take i others) (o ∷ []) ∙ ap (λ (ts : List (List ℕ)). before ++ ts) (append-nil (text_told o)))
        ∙ ap (λ (bs : List ℕ). first ++ bs) (after_append before (text_told o))
        ∙ sym (append_assoc first (after_blanks before) (after_blanks (text_told o)))

    pub more_none : get_or others i None ≡ None → so_far first others (i + 1) ≡ so_far first others i
    more_none e = more None e ∙ append-nil (so_far first others i)

    pub more_some : (u : Bor (List ℕ)) → get_or others i None ≡ Some u → so_far first others (i + 1) ≡ so_far first others i ++ blank ∷ u.now
    more_some u e = more (Some u) e ∙ ap (λ (bs : List ℕ). so_far first others i ++ blank ∷ bs) (append-nil u.now)

-- a blank and a text put after a line
pub put_after : (line text out : List ℕ) → length line + 1 + length text ≤ length out
    → take (length line + 1) (set (line ++ drop (length line) out) (length line) blank) ++ text
    ++ drop (length line + 1 + length text) (set (line ++ drop (length line) out) (length line) blank)
    ≡ (line ++ blank ∷ text) ++ drop (length (line ++ blank ∷ text)) out
put_after line text out h =
    let n : ℕ = length line in
    let p : List ℕ = line ++ blank ∷ [] in
    let rest : List ℕ = drop (suc n) out in
    let lp : n + 1 ≡ length p = simp length-append (omega arith) in
    let o : set (line ++ drop n out) n blank ≡ p ++ rest =
    ap (λ (xs : List ℕ). set (line ++ xs) n blank) (drop-cons out n 0 (omega arith))
    ∙ set_at line (get_or out n 0) rest blank n refl
    ∙ sym (append_assoc line (blank ∷ []) rest) in
    let t : take (n + 1) (p ++ rest) ≡ p = ap (λ (j : ℕ). take j (p ++ rest)) lp ∙ take-append_seam p rest in
    let z : suc n + length text ≡ length (line ++ blank ∷ text) = simp length-append (omega arith) in
    let d : drop (n + 1 + length text) (p ++ rest) ≡ drop (length (line ++ blank ∷ text)) out =
    ap (λ (j : ℕ). drop (j + length text) (p ++ rest)) lp
    ∙ drop-append-add p rest (length text)
    ∙ drop-drop (length text) (suc n) out
    ∙ ap (λ (j : ℕ). drop j out) z in
    rw (o, t, d) (ap (λ (xs : List ℕ). xs ++ drop (length (line ++ blank ∷ text)) out) (append_assoc line (blank ∷ []) text))

-- a turn of the loop that puts the texts
pub room : (t : Texts) (i : ℕ) (u : Bor (List ℕ)) → i < 4 → get_or (others_of t) i None ≡ Some u
    → length (so_far t.family.now (others_of t) i) + 1 + length u.now ≤ length (joined (texts_told t))
room t i u h e =
    let line : List ℕ = so_far t.family.now (others_of t) i in
    let w : length (so_far t.family.now (others_of t) (i + 1)) ≡ length line + suc (length u.now) =
    ap length (more_some t.family.now (others_of t) i h u e) ∙ length-append line (blank ∷ u.now) in
    omega (arith, w, so_far_short t.family.now (others_of t) (i + 1), ap length (line_whole t))

pub put_turn : (line text whole out new : List ℕ) (size : ℕ) → size ≡ length line → out ≡ line ++ drop (length line) whole
    → length line + 1 + length text ≤ length whole
    → new ≡ take (size + 1) (set out size blank) ++ text ++ drop (size + 1 + length text) (set out size blank)
    → new ≡ (line ++ blank ∷ text) ++ drop (length (line ++ blank ∷ text)) whole
put_turn line text whole out new size es eo h en = rw (es, eo) at en ∙ put_after line text whole h
