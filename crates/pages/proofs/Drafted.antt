-- What stands in a draft after one line more, and what is still to come of many lines.
use Rattle.std.proofs.Common.{◌≡◌, sym, ap, ◌∙◌, ℕ, suc, ◌+◌, ◌-◌, ◌≤◌, ◌<◌, List, ◌++◌, append_assoc, append-nil, length, take, drop, Option, min, arith}
use Rattle.std.specs.Option.{unwrap_or}
use Rattle.std.proofs.Math.Nat.{min-eq_left}
use Rattle.std.proofs.lemmas.List.{take_at, length-take, length-append}
use native.Mathlib.Nat.{sub-zero}
use borrow.Rule.Slice.PartMut.{put_mid}
use Rattle.trace.specs.Layout.{joined}
use Rattle.lines.specs.Answers.{Makes}
use Rattle.lines.specs.Pages.{lines_from}
use Rattle.lines.proofs.Answered.{made_fits}

-- a line made in the room after n bytes
pub line_added : (bytes rest after line : List ℕ) (n k room : ℕ) (r : Option ℕ) → Makes line r rest after → n ≤ length bytes → length line ≤ length rest → length line ≤ room
    → take (n + min (unwrap_or r 0) room) (put_mid n k bytes after) ≡ take n bytes ++ line
line_added bytes rest after line n k room r m inside enough fits =
    let made = made_fits line r rest after m enough in
    let counted : min (unwrap_or r 0) room ≡ length line = ap (λ (x : Option ℕ). min (unwrap_or x 0) room) made.0 ∙ min-eq_left fits in
    let long : length (take n bytes ++ line) ≡ n + min (unwrap_or r 0) room = simp (length-append, length-take) (omega (arith, counted, min-eq_left inside)) in
    rw made.1 (simp append_assoc (simp append_assoc at (take_at (take n bytes ++ line) (drop (length line) rest ++ drop k (drop n bytes)) (n + min (unwrap_or r 0) room) long)))

-- lines by their numbers: those from i on, before n
module _ (line : ℕ → List ℕ) where
  abbrev pub still : ℕ → ℕ → List ℕ
  still i n = joined (lines_from line i (n - i))

  pub still_all : (n : ℕ) → still 0 n ≡ joined (lines_from line 0 n)
  still_all n = ap (λ (k : ℕ). joined (lines_from line 0 k)) (sub-zero n)

  still_more : (i n : ℕ) → i < n → still i n ≡ line i ++ still (i + 1) n
  still_more i n h =
      let e : n - i ≡ suc (n - (i + 1)) = omega arith in
      ap (λ (k : ℕ). joined (lines_from line i k)) e

  -- what is there before line i and what is still to come is all
  module _ (i n : ℕ) (text all : List ℕ) (e : text ++ still i n ≡ all) where
    pub line_fits : (room : ℕ) → i < n → length all ≤ room → length text + length (line i) ≤ room
    line_fits room h fits =
        let whole : length text + (length (line i) + length (still (i + 1) n)) ≡ length all = simp length-append at (ap length (ap (λ (l : List ℕ). text ++ l) (sym (still_more i n h)) ∙ e)) in
        omega (arith, whole, fits)

    pub line_more : (more : List ℕ) → i < n → more ≡ text ++ line i → more ++ still (i + 1) n ≡ all
    line_more more h f = rw (f, append_assoc, ← still_more i n h) e

    pub lines_over : n ≤ i → text ≡ all
    lines_over h =
        let none : n - i ≡ 0 = omega arith in
        sym (append-nil text) ∙ ap (λ (k : ℕ). text ++ joined (lines_from line i k)) (sym none) ∙ e
