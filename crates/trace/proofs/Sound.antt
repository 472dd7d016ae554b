-- One block: the ways out of its judgement, and what a sound block is known for.
use mathlib.Core.Path.{◌≡◌, refl}
use mathlib.Core.Bool.{Bool, true, false, not}
use mathlib.Core.List.{List, [], ◌∷◌}
use Prim.Native.Nat.{ℕ, ◌*◌, ◌≤◌}
use native.Mathlib.Omega.{arith}
use native.Mathlib.Nat.{mul-div-le, mul-le-mul_left, le_trans}
use lib.Dec.{eqb, leb}
use lib.ListN.{length, get_or, length-take, length-drop}
use borrow.Author.Tests.{eqb-true, eqb-false, eq-eqb, ne_eqb, leb-true, le-leb, not-false}
use Rattle.choice.specs.Pick.{pick}
use Rattle.choice.specs.Checks.{check}
use Rattle.choice.proofs.Checks.{positive, cleared}
use Rattle.trace.specs.Check.{check_of}
use Rattle.trace.specs.Layout.{part, full_count, form_byte, word_at}
use Rattle.trace.specs.Blocks.{count_of, count_good, records_end, all_zero, shape_good, check_held, check_good, block_refusal, record_words}
use Rattle.trace.proofs.Words.{both_hold, length_words}

-- no more records than a full block has are no more than 252 words
pub count_fits : (w c : ℕ) → c ≤ full_count w → w * c ≤ 252
count_fits w c h = le_trans (mul-le-mul_left w h) (mul-div-le 252 w)

-- what a good count says
pub count_good_says : (w left c : ℕ) → count_good w left c ≡ true → (c ≤ full_count w) × ((left ≡ 0 → ⊥) → c ≡ full_count w) × (left ≡ 0 → 1 ≤ c)
unfolding count_good
count_good_says w left c e = by_test (eqb left 0) refl e
  where
    by_test : (b : Bool) → eqb left 0 ≡ b → pick b (pick (leb 1 c) (leb c (full_count w)) false) (eqb c (full_count w)) ≡ true
        → (c ≤ full_count w) × ((left ≡ 0 → ⊥) → c ≡ full_count w) × (left ≡ 0 → 1 ≤ c)
    by_test true q f =
        let both = both_hold (leb 1 c) (leb c (full_count w)) f in
        (leb-true c (full_count w) both.1, (λ n. absurd (n (eqb-true left 0 q))), (λ z. leb-true 1 c both.0))
    by_test false q f =
        let full : c ≡ full_count w = eqb-true c (full_count w) f in
        (omega (arith, full), (λ n. full), (λ z. absurd (eqb-false left 0 q z)))

pub count_is_good : (w left c : ℕ) → 1 ≤ c → c ≤ full_count w → ((left ≡ 0 → ⊥) → c ≡ full_count w) → count_good w left c ≡ true
unfolding count_good
count_is_good w left c p h f = by_test (eqb left 0) refl
  where
    by_test : (b : Bool) → eqb left 0 ≡ b → pick b (pick (leb 1 c) (leb c (full_count w)) false) (eqb c (full_count w)) ≡ true
    by_test true q = rw (le-leb 1 c p, le-leb c (full_count w) h)
    by_test false q = eq-eqb c (full_count w) (f (eqb-false left 0 q))

-- the ways out of shape_good: r is whether the count c is good
module _ (w left : ℕ) (block : List ℕ) (c : ℕ) (r : Bool) (er : r ≡ count_good w left c) (ec : c ≡ count_of block) where
  pub shape_no_count : r ≡ false → false ≡ shape_good w left block
  unfolding shape_good
  shape_no_count h = rw (← ec, ← er, h)

  module _ (h : r ≡ true) (form : ℕ) (em : form ≡ get_or block 3 0) where
    pub shape_no_form : (form ≡ form_byte w → ⊥) → false ≡ shape_good w left block
    unfolding shape_good
    shape_no_form n = rw (← ec, ← er, h, ← em, ne_eqb form (form_byte w) n)

    pub shape_rest : form ≡ form_byte w → (z : Bool) → z ≡ all_zero (part (records_end w c) 510 block) → z ≡ shape_good w left block
    unfolding shape_good
    shape_rest n z ez = rw (← ec, ← er, h, ← em, eq-eqb form (form_byte w) n, ← ez)

pub check_good_is : (sum held : ℕ) (block : List ℕ) → sum ≡ check_of (part 0 510 block) → held ≡ check_held block → eqb sum held ≡ check_good block
unfolding check_good
check_good_is sum held block es eh = rw (es, eh)

-- the ways out of judge_block
module _ (w k left : ℕ) (block : List ℕ) (r : Bool) (er : r ≡ check_good block) where
  pub refusal_12 : r ≡ false → 12 ≡ block_refusal w k left block
  unfolding block_refusal
  refusal_12 h = rw (← er, h)

  module _ (h : r ≡ true) (n : ℕ) (en : n ≡ word_at block 0) where
    pub refusal_13 : (n ≡ k → ⊥) → 13 ≡ block_refusal w k left block
    unfolding block_refusal
    refusal_13 d = rw (← er, h, ← en, ne_eqb n k d)

    module _ (e : n ≡ k) (s : Bool) (es : s ≡ shape_good w left block) where
      pub refusal_14 : s ≡ false → 14 ≡ block_refusal w k left block
      unfolding block_refusal
      refusal_14 f = rw (← er, h, ← en, eq-eqb n k e, ← es, f)

      pub refusal_none : s ≡ true → 0 ≡ block_refusal w k left block
      unfolding block_refusal
      refusal_none f = rw (← er, h, ← en, eq-eqb n k e, ← es, f)

-- what a sound block is known for
module _ (w k left : ℕ) (block : List ℕ) (sound : block_refusal w k left block ≡ 0) where
  pub sound_says : (check_good block ≡ true) × (word_at block 0 ≡ k) × (shape_good w left block ≡ true)
  unfolding block_refusal
  sound_says =
      let twelve = cleared 12 (not (check_good block)) (check 13 (not (eqb (word_at block 0) k)) ∷ check 14 (not (shape_good w left block)) ∷ []) (positive 12 tt) sound in
      let thirteen = cleared 13 (not (eqb (word_at block 0) k)) (check 14 (not (shape_good w left block)) ∷ []) (positive 13 tt) twelve.1 in
      let fourteen = cleared 14 (not (shape_good w left block)) [] (positive 14 tt) thirteen.1 in
      (not-false (check_good block) twelve.0, eqb-true (word_at block 0) k (not-false (eqb (word_at block 0) k) thirteen.0), not-false (shape_good w left block) fourteen.0)

  pub sound_shape : (count_good w left (count_of block) ≡ true) × (get_or block 3 0 ≡ form_byte w) × (all_zero (part (records_end w (count_of block)) 510 block) ≡ true)
  unfolding shape_good
  sound_shape =
      let count = both_hold (count_good w left (count_of block)) (pick (eqb (get_or block 3 0) (form_byte w)) (all_zero (part (records_end w (count_of block)) 510 block)) false) sound_says.2 in
      let form = both_hold (eqb (get_or block 3 0) (form_byte w)) (all_zero (part (records_end w (count_of block)) 510 block)) count.1 in
      (count.0, eqb-true (get_or block 3 0) (form_byte w) form.0, form.1)

  pub sound_count : count_of block ≤ full_count w
  sound_count = (count_good_says w left (count_of block) sound_shape.0).0

-- the words of a block's records: as many as the count says
pub records_long : (w : ℕ) (block : List ℕ) → length block ≡ 512 → w * count_of block ≤ 252 → length (record_words w block) ≡ w * count_of block
unfolding record_words
records_long w block l h = rw (length_words (part 4 (records_end w (count_of block)) block)) (simp (length-take, length-drop) (omega (arith, h, l)))
