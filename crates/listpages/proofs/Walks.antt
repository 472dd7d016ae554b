-- Lines put one after another into a text, each by a state that the ones before it left: the law of both loops.
use Rattle.std.proofs.Common.{◌≡◌, sym, ap, ◌∙◌, ℕ, ◌+◌, ◌*◌, ◌≤◌, List, [], ◌∷◌, ◌++◌, append_assoc, append-nil, length, arith}
use native.Mathlib.Nat.{mul-suc}
use Rattle.std.proofs.lemmas.List.{length-append}
use Rattle.listpages.specs.Walking.{text_from}

module _ {S A : Type 0} (line : S → A → List ℕ) (next : S → A → S) where
  -- what is there and the text of the lines still to come are all
  module _ (s : S) (rest : List A) (text all : List ℕ) (whole : text ++ text_from line next s rest ≡ all) where
    module _ (x : A) (xs : List A) (e : rest ≡ x ∷ xs) where
      pub line_fits : (room : ℕ) → length all ≤ room → length text + length (line s x) ≤ room
      line_fits room enough =
          let later = text_from line next (next s x) xs in
          let all_long : length text + (length (line s x) + length later) ≡ length all =
          simp length-append at (ap length (ap (λ (ys : List A). text ++ text_from line next s ys) (sym e) ∙ whole)) in
          omega (arith, all_long, enough)

      pub line_more : (more : List ℕ) → more ≡ text ++ line s x → more ++ text_from line next (next s x) xs ≡ all
      line_more more f = rw (f, append_assoc) (ap (λ (ys : List A). text ++ text_from line next s ys) (sym e) ∙ whole)

    pub lines_over : rest ≡ [] → text ≡ all
    lines_over e = sym (append-nil text) ∙ ap (λ (ys : List A). text ++ text_from line next s ys) (sym e) ∙ whole

  -- no text is longer than its lines' bound times their number
  pub text_le : (most : ℕ) → ((s : S) (x : A) → length (line s x) ≤ most) → (s : S) (xs : List A) → length (text_from line next s xs) ≤ most * length xs
  text_le most h s [] = omega arith
  text_le most h s (x ∷ xs) =
      rw (length-append (line s x) (text_from line next (next s x) xs), mul-suc) (omega (arith, h s x, text_le most h (next s x) xs))
