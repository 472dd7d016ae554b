-- What holds of words and named instructions: both round trips, one family to a word, each number exactly when its condition
-- holds, and one answer to each call.
-- The laws, in this order: `family_in`, `one_family`, `encode_decode`, `encode_small`, `decode_encode`, `word_answered`, `named_answered`,
-- `word_seven`, `word_eight`, `word_nine`, `named_seven`, `named_eight`, `named_nine`, `number_of_named`, `accepted_word_lem`,
-- `slot_accepts_lem`, `decode_unique`, `look_up_number`, `look_up_told`, `look_up_unique`, `encode_unique`, `mark_for_unique`, `mode_of_unique`, `number_of_unique`, `numbered_row_unique`, `takes_immediate_unique`.
use mathlib.Core.Path.{◌≡◌, refl, ◌∙◌, sym, ap, subst}
use mathlib.Core.Bool.{Bool, true, false, not}
use mathlib.Core.List.{List, [], ◌∷◌}
use mathlib.Core.Logic.{◌↔◌, inl, inr}
use Prim.Native.Nat.{ℕ, zero, suc, ◌+◌, ◌*◌, ◌/◌, ◌%◌, ◌<◌, ◌≤◌}
use native.Mathlib.Omega.{arith}
use native.Mathlib.Nat.{div-div-eq-div-mul, not-suc-le-zero}
use lib.Dec.{T, eqb, leb}
use borrow.Author.Tests.{eqb-true, eqb-false, leb-false, leb-true, not-true, not-false}
use Rattle.alu.specs.declared.Mode.{Mode}
use Rattle.choice.specs.Pick.{pick}
use Rattle.choice.specs.Checks.{Check, check, refusal, clear}
use Rattle.choice.specs.Tells.{accepted, tells}
use Rattle.choice.proofs.Spans.{never}
use Rattle.choice.proofs.Checks.{positive, exactly, cleared, passed}
use Rattle.choice.proofs.Tells.{accepted_one, refused_one, accepted_refused, told_accepted, told_number}
use Rattle.std.specs.Prelude.{Result, Ok, Err}
use Rattle.refusals.specs.declared.Refusal.{Refusal}
use Rattle.refusals.specs.Numbers.{number_of as refusal_number}
use Rattle.refusals.proofs.Laws.{number_of_one}
use Rattle.isa.specs.declared.Family.{Family}
use Rattle.isa.specs.declared.Row.{Row}
use Rattle.isa.specs.declared.Named.{Named}
use Rattle.isa.specs.declared.Lookup.{Lookup}
use Rattle.isa.specs.Fields.{mark_of, quadrant_of, field_a, field_b, field_c, word_of, mode_of, mark_for}
use Rattle.isa.specs.Table.{row_at, no_row, number_of, numbered}
use Rattle.isa.specs.Slots.{takes, row_of}
use Rattle.isa.specs.Words.{InFamily, Listed, acc_twice, bit_too_high, rule_checks, word_number, word_row, word_checks, named_by, decode_of, lookup_of, decoded_tells, named_row, named_checks, word_for, encode_of, encoded_tells, takes_immediate, accepted_word, some_below, slot_accepts, Answered}
use Rattle.isa.proofs.Families.{own_row, own_number, narrow, mark_small, mode_back, mark_back}
use Rattle.isa.proofs.Takes.{small}
use Rattle.isa.proofs.Answers.{fill_of, answer_at, answer_accepted, decoded, fill_free, looked_number, told as told_by}
use Rattle.isa.proofs.Found.{five, Belongs, TakesWord, row_belongs, belongs_row}

-- the row of a family that takes a word is the word's
number_in : (f : Family) (w : ℕ) → InFamily f w → word_number w ≡ number_of f
number_in f w t =
    belongs_row (mark_of w) (quadrant_of w) (field_a w) (field_b w) (field_c w) (number_of f)
    (record { listed = (own_row f).0; quadrant = t.quadrant; fields = t.fields })

-- and its family is the word's
pub family_in : (f : Family) (w : ℕ) → InFamily f w → (word_row w).family ≡ f
family_in f w t = ap (λ (i : ℕ). (row_at i).family) (number_in f w t) ∙ (own_row f).1

-- at most one family takes a word
pub one_family : (f g : Family) (w : ℕ) → InFamily f w → InFamily g w → f ≡ g
one_family f g w t u = sym (family_in f w t) ∙ family_in g w u

-- the fields of a word that is made of fields, and the word made of a word's fields
module _ (mark q a b c : ℕ) (h : (mark < 2) × (q < 4) × (a < 16) × (b < 16) × (c < 32)) where
  abbrev made : ℕ
  made = word_of mark q a b c

  pub made_small : made < 0x10000
  made_small = omega arith

  apart : (mark ≡ mark_of made) × (q ≡ quadrant_of made) × (a ≡ field_a made) × (b ≡ field_b made) × (c ≡ field_c made)
  apart = (omega arith, omega arith, omega arith, omega arith, omega arith)

joined : (w : ℕ) → w < 0x10000 → word_of (mark_of w) (quadrant_of w) (field_a w) (field_b w) (field_c w) ≡ w
joined w h = omega (arith, div-div-eq-div-mul w 0x20 16, div-div-eq-div-mul w 0x200 16, div-div-eq-div-mul w 0x2000 4)

-- an accepted word gives its instruction, whose word it is
module _ (w : ℕ) (h : w < 0x10000) (n : Named) (e : decode_of w ≡ accepted n) where
  told : (refusal (word_checks w) ≡ 0) × (named_by w ≡ n)
  unfolding decode_of
  told = told_accepted (refusal (word_checks w)) (named_by w) n e

  free : (leb no_row (word_number w) ≡ false) × (refusal (rule_checks (word_row w) (mark_of w) (field_a w) (field_b w)) ≡ 0)
  free = cleared 7 (leb no_row (word_number w)) (rule_checks (word_row w) (mark_of w) (field_a w) (field_b w)) (λ z. omega arith) told.0

  own : TakesWord w (word_number w)
  own = row_belongs (mark_of w) (quadrant_of w) (field_a w) (field_b w) (field_c w) (leb-false no_row (word_number w) free.0)

  -- the instruction has the word's fields
  pub decode_named : named_by w ≡ n
  decode_named = told.1

  pub encode_decode : encode_of n ≡ accepted w
  unfolding encode_of fill_of
  encode_decode =
      ap encode_of (sym told.1)
      ∙ ap (λ (i : ℕ). fill_of (row_at i) (mark_for (mode_of (mark_of w))) (field_a w) (field_b w) (field_c w)) (own_number (word_number w) own.listed)
      ∙ ap (λ (m : ℕ). fill_of (word_row w) m (field_a w) (field_b w) (field_c w)) (mark_back (mark_of w) (omega arith))
      ∙ sym (fill_free (word_row w) (mark_of w) (field_a w) (field_b w) (field_c w) true (sym own.fields) refl free.1)
      ∙ ap (λ (q : ℕ). accepted (word_of (mark_of w) q (field_a w) (field_b w) (field_c w))) own.quadrant
      ∙ ap accepted (joined w h)

-- an accepted instruction has a word, whose instruction it is
module _ (n : Named) (w : ℕ) (e : encode_of n ≡ accepted w) where
  abbrev mark : ℕ
  mark = mark_for n.mode

  named_told : (refusal (named_checks n) ≡ 0) × (word_for n ≡ w)
  unfolding encode_of
  named_told = told_accepted (refusal (named_checks n)) (word_for n) w e

  named_free : (not (takes (named_row n) mark n.a n.b n.c) ≡ false) × (refusal (rule_checks (named_row n) mark n.a n.b) ≡ 0)
  named_free = cleared 7 (not (takes (named_row n) mark n.a n.b n.c)) (rule_checks (named_row n) mark n.a n.b) (λ z. omega arith) named_told.0

  named_own : Belongs mark (named_row n).quadrant n.a n.b n.c (number_of n.family)
  named_own = record { listed = (own_row n.family).0; quadrant = refl; fields = not-false (takes (named_row n) mark n.a n.b n.c) named_free.0 }

  in_range : (mark < 2) × ((named_row n).quadrant < 4) × (n.a < 16) × (n.b < 16) × (n.c < 32)
  in_range =
      let z = narrow (number_of n.family) (own_row n.family).0 in
      let k = small (named_row n) mark n.a n.b n.c z named_own.fields in
      (mark_small n.mode, z.quadrant, k.0, k.1, k.2)

  -- its family takes its mode and fields, and its rule holds
  pub encode_takes : takes (named_row n) mark n.a n.b n.c ≡ true
  encode_takes = named_own.fields

  pub encode_small : w < 0x10000
  encode_small = subst (λ (w : ℕ). w < 0x10000) named_told.1 (made_small mark (named_row n).quadrant n.a n.b n.c in_range)

  abbrev v : ℕ
  v = word_for n

  number_found : number_of n.family ≡ word_number v
  number_found =
      sym (belongs_row mark (named_row n).quadrant n.a n.b n.c (number_of n.family) named_own)
      ∙ five row_of mark (named_row n).quadrant n.a n.b n.c (mark_of v) (quadrant_of v) (field_a v) (field_b v) (field_c v)
      (apart mark (named_row n).quadrant n.a n.b n.c in_range)

  pub decode_encode : decode_of w ≡ accepted n
  decode_encode =
      let i = number_of n.family in
      ap decode_of (sym named_told.1)
      ∙ sym (decoded v i number_found)
      ∙ sym (five (λ m q a b c. answer_at i m a b c) mark (named_row n).quadrant n.a n.b n.c (mark_of v) (quadrant_of v) (field_a v) (field_b v) (field_c v)
      (apart mark (named_row n).quadrant n.a n.b n.c in_range))
      ∙ answer_accepted i mark n.a n.b n.c named_own.listed named_free.1
      ∙ ap (λ (d : Mode). accepted (record { family = (named_row n).family; mode = d; a = n.a; b = n.b; c = n.c })) (mode_back n.mode)
      ∙ ap (λ (f : Family). accepted (record { family = f; mode = n.mode; a = n.a; b = n.b; c = n.c })) (own_row n.family).1

answered : {A : Type 0} (seven eight nine : Bool) (x : A) → Answered (tells (refusal (check 7 seven ∷ check 8 eight ∷ check 9 nine ∷ [])) x) x
answered true eight nine x = inr (inl refl)
answered false true nine x = inr (inr (inl refl))
answered false false true x = inr (inr (inr refl))
answered false false false x = inl refl

pub word_answered : (w : ℕ) → Answered (decode_of w) (named_by w)
unfolding decode_of
word_answered w = answered (leb no_row (word_number w)) (acc_twice (word_row w) (field_a w) (field_b w)) (bit_too_high (word_row w) (mark_of w) (field_a w)) (named_by w)

pub named_answered : (n : Named) → Answered (encode_of n) (word_for n)
unfolding encode_of
named_answered n =
    answered (not (takes (named_row n) (mark_for n.mode) n.a n.b n.c)) (acc_twice (named_row n) n.a n.b) (bit_too_high (named_row n) (mark_for n.mode) n.a) (word_for n)

-- a number's condition, said of what is told
exactly_told : {A : Type 0} (k j : ℕ) (x : A) {P : Type 0} → (j ≡ k) ↔ P → ((tells j x).number ≡ k) ↔ P
exactly_told k j x h = rw (told_number j x) h

-- no check of a list holds: its first does not, and none of the rest
none_holds : (k : ℕ) (b : Bool) (xs : List Check) → T (clear (check k b ∷ xs)) ↔ ((b ≡ false) × T (clear xs))
none_holds k true xs = (λ t. absurd t, λ h. absurd (never (sym h.0)))
none_holds k false xs = (λ t. (refl, t), λ h. h.1)

-- 7, 8 and 9, of words and named instructions alike, by their conditions
module _ (seven eight nine : Bool) where
  abbrev checks : List Check
  checks = check 7 seven ∷ check 8 eight ∷ check 9 nine ∷ []

  by_seven : (refusal checks ≡ 7) ↔ (seven ≡ true)
  by_seven =
      let e = exactly 7 seven (check 8 eight ∷ check 9 nine ∷ []) (positive 7 tt) tt [] tt in
      (λ h. (e.0 h).1, λ h. e.1 (tt, h))

  by_eight : (refusal checks ≡ 8) ↔ ((seven ≡ false) × (eight ≡ true))
  by_eight =
      let e = exactly 8 eight (check 9 nine ∷ []) (positive 8 tt) tt (check 7 seven ∷ []) tt in
      let one = none_holds 7 seven [] in
      (λ h. ((one.0 (e.0 h).0).0, (e.0 h).1), λ h. e.1 (one.1 (h.0, tt), h.1))

  by_nine : (refusal checks ≡ 9) ↔ ((seven ≡ false) × (eight ≡ false) × (nine ≡ true))
  by_nine =
      let e = exactly 9 nine [] (positive 9 tt) tt (check 7 seven ∷ check 8 eight ∷ []) tt in
      let two = none_holds 7 seven (check 8 eight ∷ []) in
      let one = none_holds 8 eight [] in
      (λ h. ((two.0 (e.0 h).0).0, (one.0 (two.0 (e.0 h).0).1).0, (e.0 h).1), λ h. e.1 (two.1 (h.0, one.1 (h.1, tt)), h.2))

past_all : (i j n : ℕ) → i ≡ j → n ≤ i → j < n → ⊥
past_all i j n e l h = omega arith

-- a word gets 7, 8 or 9 exactly when its condition holds and no earlier one does
module _ (w : ℕ) where
  -- a listed word is taken by its row's family, whose row is that row, and by no other
  in_own : leb no_row (word_number w) ≡ false → InFamily (word_row w).family w
  in_own e =
      let h = leb-false no_row (word_number w) e in
      let own = subst (λ (i : ℕ). TakesWord w i) (sym (own_number (word_number w) h)) (row_belongs (mark_of w) (quadrant_of w) (field_a w) (field_b w) (field_c w) h) in
      record { quadrant = own.quadrant; fields = own.fields }

  own_family : (P : Row → Type 0) → leb no_row (word_number w) ≡ false → P (word_row w) → P (row_at (number_of (word_row w).family))
  own_family P e = subst (λ (i : ℕ). P (row_at i)) (sym (own_number (word_number w) (leb-false no_row (word_number w) e)))

  family_own : (P : Row → Type 0) (f : Family) → InFamily f w → P (row_at (number_of f)) → P (word_row w)
  family_own P f t = subst (λ (i : ℕ). P (row_at i)) (sym (number_in f w t))

  taken_listed : (f : Family) → InFamily f w → leb no_row (word_number w) ≡ false
  taken_listed f t = by_test (leb no_row (word_number w)) refl
    where
      by_test : (b : Bool) → leb no_row (word_number w) ≡ b → b ≡ false
      by_test true q = absurd (past_all (word_number w) (number_of f) no_row (number_in f w t) (leb-true no_row (word_number w) q) (own_row f).0)
      by_test false q = refl

  all_unlisted : ((f : Family) → InFamily f w → ⊥) → leb no_row (word_number w) ≡ true
  all_unlisted n = by_test (leb no_row (word_number w)) refl
    where
      by_test : (b : Bool) → leb no_row (word_number w) ≡ b → b ≡ true
      by_test true q = refl
      by_test false q = absurd (n (word_row w).family (in_own q))

  abbrev unlisted : Bool
  unlisted = leb no_row (word_number w)

  abbrev twice : Row → Bool
  twice r = acc_twice r (field_a w) (field_b w)

  abbrev high : Row → Bool
  high r = bit_too_high r (mark_of w) (field_a w)

  -- 7: no family takes the word
  pub word_seven : ((decode_of w).number ≡ 7) ↔ ((f : Family) → InFamily f w → ⊥)
  unfolding decode_of
  word_seven =
      let e = by_seven unlisted (twice (word_row w)) (high (word_row w)) in
      exactly_told 7 (refusal (word_checks w)) (named_by w) (λ h f t. never (sym (taken_listed f t) ∙ e.0 h), λ n. e.1 (all_unlisted n))

  -- 8: a family takes it, and its rule about ACC is broken
  pub word_eight : ((decode_of w).number ≡ 8) ↔ ((f : Family) × InFamily f w × (acc_twice (row_at (number_of f)) (field_a w) (field_b w) ≡ true))
  unfolding decode_of
  word_eight =
      let e = by_eight unlisted (twice (word_row w)) (high (word_row w)) in
      exactly_told 8 (refusal (word_checks w)) (named_by w) (
        λ h. ((word_row w).family, in_own (e.0 h).0, own_family (λ r. twice r ≡ true) (e.0 h).0 (e.0 h).1),
        λ b. e.1 (taken_listed b.0 b.1, family_own (λ r. twice r ≡ true) b.0 b.1 b.2),
      )

  -- 9: a family takes it, the rule about ACC is not broken, and the one about n is
  pub word_nine : ((decode_of w).number ≡ 9)
      ↔ ((f : Family) × InFamily f w × (acc_twice (row_at (number_of f)) (field_a w) (field_b w) ≡ false) × (bit_too_high (row_at (number_of f)) (mark_of w) (field_a w) ≡ true))
  unfolding decode_of
  word_nine =
      let e = by_nine unlisted (twice (word_row w)) (high (word_row w)) in
      exactly_told 9 (refusal (word_checks w)) (named_by w) (
        λ h. ((word_row w).family, in_own (e.0 h).0, own_family (λ r. twice r ≡ false) (e.0 h).0 (e.0 h).1, own_family (λ r. high r ≡ true) (e.0 h).0 (e.0 h).2),
        λ b. e.1 (taken_listed b.0 b.1, family_own (λ r. twice r ≡ false) b.0 b.1 b.2, family_own (λ r. high r ≡ true) b.0 b.1 b.3),
      )

-- and so does a named instruction
module _ (n : Named) where
  abbrev listed : Bool
  listed = takes (named_row n) (mark_for n.mode) n.a n.b n.c

  abbrev acc : Bool
  acc = acc_twice (named_row n) n.a n.b

  abbrev bit : Bool
  bit = bit_too_high (named_row n) (mark_for n.mode) n.a

  -- 7: its family does not take its mode and fields
  pub named_seven : ((encode_of n).number ≡ 7) ↔ (takes (named_row n) (mark_for n.mode) n.a n.b n.c ≡ false)
  unfolding encode_of
  named_seven =
      let e = by_seven (not listed) acc bit in
      exactly_told 7 (refusal (named_checks n)) (word_for n) (λ h. not-true listed (e.0 h), λ h. e.1 (ap not h))

  -- 8: its family takes them, and its rule about ACC is broken
  pub named_eight : ((encode_of n).number ≡ 8)
      ↔ (Listed n × (acc_twice (named_row n) n.a n.b ≡ true))
  unfolding encode_of
  named_eight =
      let e = by_eight (not listed) acc bit in
      exactly_told 8 (refusal (named_checks n)) (word_for n) (λ h. (not-false listed (e.0 h).0, (e.0 h).1), λ h. e.1 (ap not h.0, h.1))

  -- 9: its family takes them, the rule about ACC is not broken, and the one about n is
  pub named_nine : ((encode_of n).number ≡ 9)
      ↔ (Listed n × (acc_twice (named_row n) n.a n.b ≡ false)
      × (bit_too_high (named_row n) (mark_for n.mode) n.a ≡ true))
  unfolding encode_of
  named_nine =
      let e = by_nine (not listed) acc bit in
      exactly_told 9 (refusal (named_checks n)) (word_for n) (λ h. (not-false listed (e.0 h).0, (e.0 h).1, (e.0 h).2), λ h. e.1 (ap not h.0, h.1, h.2))

-- a word that a family takes, and the instruction that it names: that one is of the list too, and gets the same number
module _ (f : Family) (w : ℕ) (h : w < 0x10000) (t : InFamily f w) where
  row_in : named_row (named_by w) ≡ word_row w
  row_in = ap (λ (f : Family). row_at (number_of f)) (family_in f w t) ∙ ap row_at (sym (number_in f w t))

  mark_in : mark_for (mode_of (mark_of w)) ≡ mark_of w
  mark_in = mark_back (mark_of w) (omega arith)

  pub named_in : takes (named_row (named_by w)) (mark_for (mode_of (mark_of w))) (field_a w) (field_b w) (field_c w) ≡ true
  named_in =
      ap (λ (r : Row). takes r (mark_for (mode_of (mark_of w))) (field_a w) (field_b w) (field_c w)) row_in
      ∙ ap (λ (m : ℕ). takes (word_row w) m (field_a w) (field_b w) (field_c w)) mark_in
      ∙ ap (λ (i : ℕ). takes (row_at i) (mark_of w) (field_a w) (field_b w) (field_c w)) (number_in f w t)
      ∙ t.fields

  pub number_of_named : (encode_of (named_by w)).number ≡ (decode_of w).number
  unfolding encode_of decode_of
  number_of_named =
      let m = mark_for (mode_of (mark_of w)) in
      told_number (refusal (named_checks (named_by w))) (word_for (named_by w))
      ∙ passed 7 (not (takes (named_row (named_by w)) m (field_a w) (field_b w) (field_c w))) (rule_checks (named_row (named_by w)) m (field_a w) (field_b w)) (ap not named_in)
      ∙ ap (λ (r : Row). refusal (rule_checks r m (field_a w) (field_b w))) row_in
      ∙ ap (λ (m : ℕ). refusal (rule_checks (word_row w) m (field_a w) (field_b w))) mark_in
      ∙ sym (passed 7 (leb no_row (word_number w)) (rule_checks (word_row w) (mark_of w) (field_a w) (field_b w)) (taken_listed w f t))
      ∙ sym (told_number (refusal (word_checks w)) (named_by w))

-- accepted: neither unlisted nor refused by a rule
unrefused : (seven eight nine : Bool) → (refusal (check 7 seven ∷ check 8 eight ∷ check 9 nine ∷ []) ≡ 0)
    ↔ (pick seven false (clear (check 8 eight ∷ check 9 nine ∷ [])) ≡ true)
unrefused true eight nine = (λ h. absurd (positive 7 tt h), λ h. absurd (never h))
unrefused false true nine = (λ h. absurd (positive 8 tt h), λ h. absurd (never h))
unrefused false false true = (λ h. absurd (positive 9 tt h), λ h. absurd (never h))
unrefused false false false = (λ h. refl, λ h. refl)

-- a word is accepted exactly when decoding it gives no number
pub accepted_word_lem : (w : ℕ) → ((decode_of w).number ≡ 0) ↔ (accepted_word w ≡ true)
unfolding decode_of
accepted_word_lem w =
    exactly_told 0 (refusal (word_checks w)) (named_by w)
    (unrefused (leb no_row (word_number w)) (acc_twice (word_row w) (field_a w) (field_b w)) (bit_too_high (word_row w) (mark_of w) (field_a w)))

-- a test holds of some number below n exactly when there is one
module _ (n : ℕ) (test : ℕ → Bool) (fewer : (some_below n test ≡ true) ↔ ((k : ℕ) × (k < n) × (test k ≡ true))) where
  some_forth : (b : Bool) → test n ≡ b → pick b true (some_below n test) ≡ true → (k : ℕ) × (k < suc n) × (test k ≡ true)
  some_forth true q h = (n, omega arith, q)
  some_forth false q h = let r = fewer.0 h in (r.0, omega (arith, r.1), r.2)

  either : (b : Bool) → some_below n test ≡ true → pick b true (some_below n test) ≡ true
  either true h = refl
  either false h = h

  some_back : (k : ℕ) → k < suc n → test k ≡ true → (same : Bool) → eqb k n ≡ same → pick (test n) true (some_below n test) ≡ true
  some_back k l t true q = rw (← eqb-true k n q, t)
  some_back k l t false q = either (test n) (fewer.1 (k, omega (arith, eqb-false k n q), t))

some_below_lem : (n : ℕ) (test : ℕ → Bool) → (some_below n test ≡ true) ↔ ((k : ℕ) × (k < n) × (test k ≡ true))
some_below_lem zero test = (λ h. absurd (never h), λ h. absurd (not-suc-le-zero h.1))
some_below_lem (suc n) test =
    let fewer = some_below_lem n test in
    (some_forth n test fewer (test n) refl, λ h. some_back n test fewer h.0 h.1 h.2 (eqb h.0 n) refl)

-- a word's slot accepts exactly when some accepted word has its bits 15 to 5
pub slot_accepts_lem : (w : ℕ) → (slot_accepts w ≡ true) ↔ ((v : ℕ) × (v / 32 ≡ w / 32) × (accepted_word v ≡ true))
slot_accepts_lem w =
    let e = some_below_lem 32 (λ c. accepted_word (w / 32 * 32 + c)) in (
      λ h. let r = e.0 h in (w / 32 * 32 + r.0, omega (arith, r.1), r.2),
      λ h. let whole : w / 32 * 32 + h.0 % 32 ≡ h.0 = omega (arith, h.1) in e.1 (h.0 % 32, omega arith, rw whole h.2),
    )

-- what an answer tells fixes the answer
decoded_one : (r s : Result Named Refusal) → decoded_tells r ≡ decoded_tells s → r ≡ s
decoded_one (Ok x) (Ok y) e = ap Ok (accepted_one x y e)
decoded_one (Ok x) (Err k) e = absurd (accepted_refused x (refusal_number k) e)
decoded_one (Err k) (Ok x) e = absurd (accepted_refused x (refusal_number k) (sym e))
decoded_one (Err j) (Err k) e = ap Err (number_of_one j k (refused_one {A = Named} (refusal_number j) (refusal_number k) e))

encoded_one : (r s : Result ℕ Refusal) → encoded_tells r ≡ encoded_tells s → r ≡ s
encoded_one (Ok x) (Ok y) e = ap Ok (accepted_one x y e)
encoded_one (Ok x) (Err k) e = absurd (accepted_refused x (refusal_number k) e)
encoded_one (Err k) (Ok x) e = absurd (accepted_refused x (refusal_number k) (sym e))
encoded_one (Err j) (Err k) e = ap Err (number_of_one j k (refused_one {A = ℕ} (refusal_number j) (refusal_number k) e))

-- no two outcomes satisfy the statement of a call
pub decode_unique : (w : ℕ) (r s : Result Named Refusal) → decoded_tells r ≡ decode_of w → decoded_tells s ≡ decode_of w → r ≡ s
decode_unique w r s p q = decoded_one r s (p ∙ sym q)

-- a lookup has the refusal that decoding gives, told by its number
pub look_up_number : (w : ℕ) → numbered (lookup_of w).refusal ≡ (decode_of w).number
unfolding decode_of
look_up_number w = looked_number w ∙ sym (told_number (refusal (word_checks w)) (named_by w))

-- and tells what decoding does
pub look_up_told : (w : ℕ) → tells (numbered (lookup_of w).refusal) (lookup_of w).named ≡ decode_of w
look_up_told w = told_by w (lookup_of w) refl

pub look_up_unique : (w : ℕ) (r s : Lookup) → r ≡ lookup_of w → s ≡ lookup_of w → r ≡ s
look_up_unique w r s p q = p ∙ sym q

pub encode_unique : (n : Named) (r s : Result ℕ Refusal) → encoded_tells r ≡ encode_of n → encoded_tells s ≡ encode_of n → r ≡ s
encode_unique n r s p q = encoded_one r s (p ∙ sym q)

pub mark_for_unique : (d : Mode) (r s : ℕ) → r ≡ mark_for d → s ≡ mark_for d → r ≡ s
mark_for_unique d r s p q = p ∙ sym q

pub mode_of_unique : (k : ℕ) (r s : Mode) → r ≡ mode_of k → s ≡ mode_of k → r ≡ s
mode_of_unique k r s p q = p ∙ sym q

pub number_of_unique : (f : Family) (r s : ℕ) → r ≡ number_of f → s ≡ number_of f → r ≡ s
number_of_unique f r s p q = p ∙ sym q

pub numbered_row_unique : (i : ℕ) (r s : Row) → r ≡ row_at i → s ≡ row_at i → r ≡ s
numbered_row_unique i r s p q = p ∙ sym q

pub takes_immediate_unique : (w : ℕ) (r s : Bool) → r ≡ takes_immediate w → s ≡ takes_immediate w → r ≡ s
takes_immediate_unique w r s p q = p ∙ sym q
