-- The line of a word, and what the call that prints it makes of it.
use mathlib.Core.Path.{◌≡◌, refl, sym, ap, ◌∙◌}
use mathlib.Core.List.{List, [], ◌∷◌, ◌++◌, append_assoc}
use Prim.Native.Nat.{ℕ}
use lib.ListN.{length, take}
use lib.Seq.{take-append_seam}
use Rattle.choice.specs.Text.{blank}
use Rattle.choice.specs.Tells.{Tells, accepted, refused}
use Rattle.isa.specs.declared.Named.{Named}
use Rattle.isa.specs.Words.{decode_of}
use Rattle.listing.specs.Items.{after_blanks, joined}
use Rattle.listing.specs.Lines.{texts_of, line_by, line_of}
use Rattle.listing.specs.Answers.{outcome, fill, fill_by, print_into}

pub after_append : (xs ys : List (List ℕ)) → after_blanks (xs ++ ys) ≡ after_blanks xs ++ after_blanks ys
after_append [] ys = refl
after_append (x ∷ xs) ys = ap (λ (z : List ℕ). blank ∷ z) (ap (λ (z : List ℕ). x ++ z) (after_append xs ys) ∙ sym (append_assoc x (after_blanks xs) (after_blanks ys)))

module _ (w : ℕ) where
  pub line_refused : (k : ℕ) → refused k ≡ decode_of w → (before : List ℕ) → outcome (refused k) before ≡ print_into w before
  unfolding print_into line_of
  line_refused k e before = ap (λ (t : Tells Named). fill_by (line_by t) before) e

  module _ (n : Named) (e : accepted n ≡ decode_of w) where
    pub line_is : line_of w ≡ accepted (joined (texts_of n))
    unfolding line_of
    line_is = ap line_by (sym e)

    pub line_filled : (before : List ℕ) → fill (joined (texts_of n)) before ≡ print_into w before
    unfolding print_into
    line_filled before = ap (λ (t : Tells (List ℕ)). fill_by t before) (sym line_is)

-- the part of a buffer where a line was put
pub front : (line rest out : List ℕ) (size : ℕ) → size ≡ length line → out ≡ line ++ rest → take size out ≡ line
front line rest out size es eo = rw (es, eo) (take-append_seam line rest)
