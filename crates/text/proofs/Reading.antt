-- What a text of whole lines is read as: digit by digit, word by word, line by line.
-- The laws, in this order: `word_read`, `blank_read`, `feed_read`.
use Rattle.std.specs.Prelude.{Some, None}
use mathlib.Core.Path.{◌≡◌, refl, ap, ◌∙◌}
use mathlib.Core.Bool.{Bool, true, false}
use mathlib.Core.List.{List, ◌∷◌}
use Prim.Native.Nat.{ℕ, suc, ◌+◌, ◌/◌, ◌%◌, ◌<◌}
use native.Mathlib.Omega.{arith}
use lib.Dec.{eqb}
use lib.ListN.{length, set}
use borrow.Author.Tests.{eqb-true, lt-ltb}
use Rattle.text.specs.declared.Kind.{Kind}
use Rattle.text.specs.declared.Place.TheVariants.{Between, Within, After}
use Rattle.text.specs.Bytes.{line_feed, digit_value, kind_of}
use Rattle.text.specs.Lines.{words_per_line, with_digit, move_of}
use Rattle.text.specs.Taking.{one_more, passed, take_from, reader}

-- b is a hex digit that is worth d
module _ (b d : ℕ) (value : digit_value b ≡ Some d) where
  other : (k : ℕ) → digit_value k ≡ None → eqb b k ≡ false
  other k e = by_test (eqb b k) refl
    where
      by_test : (t : Bool) → eqb b k ≡ t → t ≡ false
      by_test true q =
          let same : b ≡ k = eqb-true b k q in
          let worth : digit_value b ≡ None = rw same e in
          absurd (cc)
      by_test false q = refl

  digit_kind : kind_of b ≡ Kind.Digit d
  unfolding kind_of digit_value
  digit_kind = rw (other 10 refl, other 35 refl, other 32 refl, other 9 refl, other 13 refl, value)

  no_feed : eqb b line_feed ≡ false
  unfolding digit_value
  no_feed = other line_feed refl

  begins : (i l c w k f : ℕ) (rest words : List ℕ) → w < words_per_line
      → take_from i (reader l c w Between k f) (b ∷ rest) words ≡ take_from (suc i) (reader l (one_more c) w (Within 1 d) k f) rest words
  unfolding take_from move_of passed
  begins i l c w k f rest words h = rw (no_feed, digit_kind, lt-ltb w words_per_line h)

  goes_on_lem : (i l c w k n v f : ℕ) (rest words : List ℕ) → n < 3
      → take_from i (reader l c w (Within n v) k f) (b ∷ rest) words ≡ take_from (suc i) (reader l (one_more c) w (Within (n + 1) (with_digit v d)) k f) rest words
  unfolding take_from move_of passed
  goes_on_lem i l c w k n v f rest words h = rw (no_feed, digit_kind, lt-ltb n 3 h)

  ends : (i l c w k v f : ℕ) (rest words : List ℕ) → w < words_per_line → k < length words
      → take_from i (reader l c w (Within 3 v) k f) (b ∷ rest) words ≡ take_from (suc i) (reader l (one_more c) (w + 1) After (k + 1) f) rest (set words k (with_digit v d))
  unfolding take_from move_of passed
  ends i l c w k v f rest words h g = rw (no_feed, digit_kind, lt-ltb w words_per_line h, lt-ltb k (length words) g)

-- a value by its last digit and the others
last_digit_lem : (y : ℕ) → y < 65536 → with_digit (y / 16) (y % 16) ≡ y
last_digit_lem y h = omega arith

four_digits : (x : ℕ) → x < 65536 → with_digit (with_digit (with_digit (x / 16 / 16 / 16 % 16) (x / 16 / 16 % 16)) (x / 16 % 16)) (x % 16) ≡ x
four_digits x h =
    let top : x / 16 / 16 / 16 % 16 ≡ x / 16 / 16 / 16 = omega arith in
    rw (top, last_digit_lem (x / 16 / 16) (omega arith), last_digit_lem (x / 16) (omega arith), last_digit_lem x h)

-- four digits are a word
pub word_read : (x b₃ b₂ b₁ b₀ : ℕ) → x < 65536 → digit_value b₃ ≡ Some (x / 16 / 16 / 16 % 16) → digit_value b₂ ≡ Some (x / 16 / 16 % 16) → digit_value b₁ ≡ Some (x / 16 % 16) → digit_value b₀ ≡ Some (x % 16)
    → (i l c w k f : ℕ) (rest words : List ℕ) → w < words_per_line → k < length words
    → take_from i (reader l c w Between k f) (b₃ ∷ b₂ ∷ b₁ ∷ b₀ ∷ rest) words
    ≡ take_from (suc (suc (suc (suc i)))) (reader l (one_more (one_more (one_more (one_more c)))) (w + 1) After (k + 1) f) rest (set words k x)
word_read x b₃ b₂ b₁ b₀ small e₃ e₂ e₁ e₀ i l c w k f rest words h g =
    begins b₃ _ e₃ i l c w k f _ words h
    ∙ goes_on_lem b₂ _ e₂ (suc i) l _ w k 1 _ f _ words (omega arith)
    ∙ goes_on_lem b₁ _ e₁ (suc (suc i)) l _ w k 2 _ f _ words (omega arith)
    ∙ ends b₀ _ e₀ (suc (suc (suc i))) l _ w k _ f rest words h g
    ∙ ap (λ (v : ℕ). take_from (suc (suc (suc (suc i)))) (reader l (one_more (one_more (one_more (one_more c)))) (w + 1) After (k + 1) f) rest (set words k v)) (four_digits x small)

-- a blank after a word, and the line's end after the last
pub blank_read : (i l c w k f : ℕ) (rest words : List ℕ)
    → take_from i (reader l c w After k f) (32 ∷ rest) words ≡ take_from (suc i) (reader l (one_more c) w Between k f) rest words
unfolding take_from move_of passed kind_of
blank_read i l c w k f rest words = refl

pub feed_read : (i l c k f : ℕ) (rest words : List ℕ)
    → take_from i (reader l c words_per_line After k f) (line_feed ∷ rest) words ≡ take_from (suc i) (reader (one_more l) 1 0 Between k f) rest words
unfolding take_from move_of passed kind_of
feed_read i l c k f rest words = refl
