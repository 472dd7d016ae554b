-- The line of a word in a listing, and the answer to a line: the ways out of the calls.
use mathlib.Core.Path.{◌≡◌, refl, sym, ap, ◌∙◌}
use mathlib.Core.Bool.{Bool, true, false}
use mathlib.Core.List.{List, [], ◌∷◌, ◌++◌}
use mathlib.Core.Option.{Option, none, some, some-injective, some-ne-none}
use Prim.Native.Nat.{ℕ, ◌+◌, ◌<◌, ◌≤◌}
use native.Mathlib.Omega.{arith}
use native.Mathlib.Numerals.{add-one}
use lib.Dec.{ltb}
use lib.ListN.{length, take, drop, set, length-append, length-drop, length-set}
use lib.Seq.{take-suc-set, take_at, take_all}
use borrow.Author.Tests.{ltb-true, le-ltb}
use Rattle.choice.specs.Pick.{pick}
use Rattle.choice.specs.Tells.{Tells, accepted, refused}
use Rattle.choice.specs.Text.{newline, hex}
use Rattle.choice.proofs.Tells.{accepted_one, refused_one, accepted_refused}
use Rattle.isa.specs.declared.Named.{Named}
use Rattle.isa.specs.Words.{decode_of}
use Rattle.lines.specs.Lines.{word_refused_line}
use Rattle.listing.specs.Lines.{line_by, line_of, texts_of}
use Rattle.listing.specs.Items.{joined}
use Rattle.listing.specs.Data.{data_line}
use Rattle.listing.specs.Answers.{Outcome, outcome, fill, print_into, data_into}
use Rattle.listing.proofs.Hex.{data_long}
use Rattle.listing.proofs.Single.{line_short}
use Rattle.listpages.specs.Entries.{instruction_line}

-- a line that filled bytes with room for its end: with the end put after it
pub line_end : (t before after : List ℕ) (n : ℕ) → n ≡ length t → after ≡ t ++ drop (length t) before → n < length before
    → take (n + 1) (set after n newline) ≡ t ++ newline ∷ []
line_end t before after n en ea h =
    let l : length after ≡ length before = ap length ea ∙ length-append t (drop (length t) before) ∙ long in
    ap (λ (k : ℕ). take k (set after n newline)) (add-one n)
    ∙ take-suc-set after n newline (omega (arith, l))
    ∙ ap (λ (z : List ℕ). z ++ newline ∷ []) (ap (take n) ea ∙ take_at t (drop (length t) before) n (sym en))
  where
    long : length t + length (drop (length t) before) ≡ length before
    long = simp length-drop (omega (arith, en))

-- what a line that was filled says of it
module _ (t before after : List ℕ) where
  fill_accepted : (n : ℕ) → outcome (accepted n) after ≡ fill t before → (n ≡ length t) × (after ≡ t ++ drop (length t) before)
  fill_accepted n e = by_test (ltb (length before) (length t)) e
    where
      by_test : (b : Bool) → outcome (accepted n) after ≡ pick b (outcome (refused 3) before) (outcome (accepted (length t)) (t ++ drop (length t) before))
          → (n ≡ length t) × (after ≡ t ++ drop (length t) before)
      by_test true e = absurd (accepted_refused n 3 (ap (λ (o : Outcome). o.told) e))
      by_test false e = (accepted_one n (length t) (ap (λ (o : Outcome). o.told) e), ap (λ (o : Outcome). o.bytes) e)

  fill_refused : (k : ℕ) → length t ≤ length before → outcome (refused k) after ≡ fill t before → ⊥
  fill_refused k h e = by_test (ltb (length before) (length t)) refl e
    where
      by_test : (b : Bool) → ltb (length before) (length t) ≡ b → outcome (refused k) after ≡ pick b (outcome (refused 3) before) (outcome (accepted (length t)) (t ++ drop (length t) before)) → ⊥
      by_test true q e = omega (arith, ltb-true (length before) (length t) q)
      by_test false q e = accepted_refused (length t) k (sym (ap (λ (o : Outcome). o.told) e))

-- the data of a word
pub hex_filled : (w : ℕ) (before after : List ℕ) (t : Tells ℕ) → length before ≡ 5 → outcome t after ≡ data_into w before → set after 4 newline ≡ hex 4 w ++ newline ∷ []
unfolding data_into
hex_filled w before after t l e =
    let f : fill (data_line w) before ≡ outcome (accepted (length (data_line w))) (data_line w ++ drop (length (data_line w)) before) = rw (le-ltb (length before) (length (data_line w)) (omega (arith, data_long w))) in
    let a : after ≡ data_line w ++ drop (length (data_line w)) before = ap (λ (o : Outcome). o.bytes) (e ∙ f) in
    let n : length after ≡ 5 = ap length a ∙ length-append (data_line w) (drop (length (data_line w)) before) ∙ simp length-drop (omega (arith, data_long w)) in
    sym (take_all 5 (set after 4 newline) (simp length-set (omega arith)))
    ∙ line_end (data_line w) before after 4 (sym (data_long w)) a (omega arith)

-- the line of a word tells what the word does
pub line_told : (w : ℕ) (t : List ℕ) → (line_of w).value ≡ some t → line_of w ≡ accepted t
unfolding line_of
line_told w t e = by_answer (decode_of w) e
  where
    by_value : (o : Option Named) (k : ℕ) → (elim o as (λ (z : Option Named). Tells (List ℕ)) [ some n ↦ accepted (joined (texts_of n)) | none ↦ refused k ]).value ≡ some t
        → elim o as (λ (z : Option Named). Tells (List ℕ)) [ some n ↦ accepted (joined (texts_of n)) | none ↦ refused k ] ≡ accepted t
    by_value none k e = absurd (some-ne-none t (sym e))
    by_value (some n) k e = ap accepted (some-injective (joined (texts_of n)) t e)

    by_answer : (d : Tells Named) → (line_by d).value ≡ some t → line_by d ≡ accepted t
    by_answer d e = by_value d.value d.number e

-- an instruction, by what `line_of` leaves
module _ (w : ℕ) (before after : List ℕ) (size : length before ≡ 24) where
  record Filled (n : ℕ) : Type 0 where
    pub line : List ℕ
    pub told : line_of w ≡ accepted line
    pub count : n ≡ length line
    pub bytes : after ≡ line ++ drop (length line) before

  filled : (n : ℕ) → outcome (accepted n) after ≡ print_into w before → Filled n
  unfolding print_into
  filled n e = by_value (line_of w).value refl e
    where
      by_value : (o : Option (List ℕ)) → (line_of w).value ≡ o
          → outcome (accepted n) after ≡ elim o as (λ (z : Option (List ℕ)). Outcome) [ some line ↦ fill line before | none ↦ outcome (refused (line_of w).number) before ] → Filled n
      by_value none q e = absurd (accepted_refused n (line_of w).number (ap (λ (o : Outcome). o.told) e))
      by_value (some t) q e =
          let f = fill_accepted t before after n e in
          record { line = t; told = line_told w t q; count = f.0; bytes = f.1 }

  pub filled_short : (n : ℕ) → outcome (accepted n) after ≡ print_into w before → n ≤ 23
  filled_short n e =
      let f = filled n e in
      omega (arith, f.count, line_short w f.line f.told)

  pub filled_long : (n : ℕ) → outcome (accepted n) after ≡ print_into w before → length after ≡ 24
  filled_long n e =
      let f = filled n e in
      ap length f.bytes ∙ length-append f.line (drop (length f.line) before) ∙ simp length-drop (omega (arith, size, f.count, filled_short n e))

  pub filled_line : (n : ℕ) → outcome (accepted n) after ≡ print_into w before → take (n + 1) (set after n newline) ≡ instruction_line (line_of w)
  filled_line n e =
      let f = filled n e in
      line_end f.line before after n f.count f.bytes (omega (arith, size, filled_short n e))
      ∙ sym (ap instruction_line f.told)

  pub refused_line_lem : (k : ℕ) → outcome (refused k) after ≡ print_into w before → word_refused_line k ≡ instruction_line (line_of w)
  unfolding print_into
  refused_line_lem k e = by_value (line_of w).value refl e
    where
      by_value : (o : Option (List ℕ)) → (line_of w).value ≡ o
          → outcome (refused k) after ≡ elim o as (λ (z : Option (List ℕ)). Outcome) [ some line ↦ fill line before | none ↦ outcome (refused (line_of w).number) before ]
          → word_refused_line k ≡ elim o as (λ (z : Option (List ℕ)). List ℕ) [ some line ↦ line ++ newline ∷ [] | none ↦ word_refused_line (line_of w).number ]
      by_value none q e = ap word_refused_line (refused_one {A = ℕ} k (line_of w).number (ap (λ (o : Outcome). o.told) e))
      by_value (some t) q e = absurd (fill_refused t before after k (omega (arith, size, line_short w t (line_told w t q))) e)
