-- Reading and writing again: sound blocks are those that their records make.
use mathlib.Core.Path.{◌≡◌, refl, sym, ap, ◌∙◌}
use mathlib.Core.Bool.{true}
use mathlib.Core.List.{List, [], ◌∷◌, ◌++◌, append-nil}
use Prim.Native.Nat.{ℕ, zero, suc, ◌+◌, ◌-◌, ◌*◌, ◌/◌, ◌%◌, ◌≤◌, ◌<◌}
use native.Mathlib.Omega.{arith}
use native.Mathlib.Nat.{mul-div_cancel_left, mul-add, mul-zero, mul-pos}
use lib.ListN.{length, take, drop, get_or, replicate, length-append, length-take, length-drop, drop_of_length-le, take-append-drop}
use lib.Seq.{take_at, drop_at, take_all, take-add, drop-cons}
use borrow.Author.Tests.{eqb-true}
use Rattle.choice.specs.Tells.{accepted_whole}
use Rattle.trace.specs.Check.{check_of}
use Rattle.trace.specs.Layout.{full_count, part, word_at, bytes_of, joined, Bytes}
use Rattle.trace.specs.Blocks.{count_of, records_end, check_held, check_good, block_refusal, record_words, head_of, body_of, sealed, block_of}
use Rattle.trace.specs.Reading.{blocks_of, block_refusals, after_blocks, record_count, all_record_words}
use Rattle.trace.specs.Writing.{blocks_from}
use Rattle.trace.proofs.Words.{bytes_take, bytes_drop, bytes_words, all_zeros, none_left}
use Rattle.trace.proofs.Parts.{length_blocks}
use Rattle.trace.proofs.Sound.{count_fits, count_good_says, sound_says, sound_shape, sound_count, records_long}
use Rattle.trace.proofs.Judged.{sound_first}

take_4 : (l : List ℕ) → 4 ≤ length l → take 4 l ≡ get_or l 0 0 ∷ get_or l 1 0 ∷ get_or l 2 0 ∷ get_or l 3 0 ∷ []
take_4 [] h = absurd (omega arith)
take_4 (a ∷ []) h = absurd (omega arith)
take_4 (a ∷ b ∷ []) h = absurd (omega arith)
take_4 (a ∷ b ∷ c ∷ []) h = absurd (omega arith)
take_4 (a ∷ b ∷ c ∷ d ∷ l) h = refl

-- the check that a block holds, byte by byte
good_held : (block : List ℕ) → check_good block ≡ true → check_of (part 0 510 block) ≡ check_held block
unfolding check_good
good_held block e = eqb-true _ _ e

held_high : (block : List ℕ) (x : ℕ) → x ≡ check_held block → get_or block 511 0 < 256 → x / 256 ≡ get_or block 510 0
unfolding check_held
held_high block x e h = omega arith

held_low : (block : List ℕ) (x : ℕ) → x ≡ check_held block → get_or block 511 0 < 256 → x % 256 ≡ get_or block 511 0
unfolding check_held
held_low block x e h = omega arith

-- a sound block is what its records make
module _ (w k left : ℕ) (block : List ℕ) (pos : 0 < w) (long : length block ≡ 512) (bytes : Bytes block) (sound : block_refusal w k left block ≡ 0) where
  abbrev count : ℕ
  count = count_of block

  abbrev words : List ℕ
  words = record_words w block

  fits : w * count ≤ 252
  fits = count_fits w count (sound_count w k left block sound)

  abbrev area : List ℕ
  area = part 4 (records_end w count) block

  area_long : length area ≡ 2 * (w * count)
  area_long = simp (length-take, length-drop) (omega (arith, fits))

  words_long : length words ≡ w * count
  words_long = records_long w block long fits

  head_back : head_of w k (length words) ≡ take 4 block
  unfolding head_of
  head_back =
      let n : word_at block 0 ≡ k = (sound_says w k left block sound).1 in
      let first : get_or block 0 0 < 256 = bytes 0 in
      let a : k % 256 ≡ get_or block 0 0 = omega arith in
      let b : k / 256 ≡ get_or block 1 0 = omega arith in
      let c : length words / w ≡ get_or block 2 0 = rw words_long (mul-div_cancel_left count pos) in
      rw (take_4 block (omega arith), a, b, c, (sound_shape w k left block sound).1)

  area_back : bytes_of words ≡ area
  unfolding record_words
  area_back = bytes_words area (omega (arith, area_long)) (bytes_take (records_end w count - 4) (drop 4 block) (bytes_drop 4 block bytes))

  filling_back : replicate (506 - 2 * length words) 0 ≡ part (records_end w count) 510 block
  filling_back =
      let l : length (part (records_end w count) 510 block) ≡ 506 - 2 * length words = simp (length-take, length-drop) (omega (arith, fits, words_long)) in
      rw (← l) (sym (all_zeros (part (records_end w count) 510 block) (sound_shape w k left block sound).2))

  body_back : body_of w k words ≡ take 510 block
  unfolding body_of
  body_back =
      let e : records_end w count ≡ 4 + (records_end w count - 4) = omega arith in
      let f : 510 ≡ records_end w count + (510 - records_end w count) = omega (arith, fits) in
      let p : take (records_end w count) block ≡ take 4 block ++ area = ap (λ (x : ℕ). take x block) e ∙ take-add 4 (records_end w count - 4) block in
      let q : take 510 block ≡ take (records_end w count) block ++ part (records_end w count) 510 block =
      ap (λ (x : ℕ). take x block) f ∙ take-add (records_end w count) (510 - records_end w count) block in
      rw (head_back, area_back, filling_back, ← p) (sym q)

  pub block_back : block_of w k words ≡ block
  unfolding sealed
  block_back =
      let held : check_of (part 0 510 block) ≡ check_held block = good_held block (sound_says w k left block sound).0 in
      let last : get_or block 511 0 < 256 = bytes 511 in
      let high : check_of (take 510 block) / 256 ≡ get_or block 510 0 = held_high block _ held last in
      let low : check_of (take 510 block) % 256 ≡ get_or block 511 0 = held_low block _ held last in
      let pair : drop 510 block ≡ get_or block 510 0 ∷ get_or block 511 0 ∷ [] = drop-cons block 510 0 (omega arith) ∙ rw (drop-cons block 511 0 (omega arith), drop_of_length-le block {i = 512} (omega arith)) in
      rw (body_back, high, low, ← pair) (take-append-drop 510 block)

-- the words of a first block with `left` blocks after it stand in the first 252
front : (left : ℕ) (a l : List ℕ) → length a ≤ 252 → ((left ≡ 0 → ⊥) → length a ≡ 252) → (left ≡ 0 → l ≡ []) → (take 252 (a ++ l) ≡ a) × (drop 252 (a ++ l) ≡ l)
front zero a l h f g =
    let e : l ≡ [] = g refl in
    let n : length (a ++ []) ≤ 252 = simp append-nil h in
    (rw (e, append-nil, take_all 252 a h), rw (e, drop_of_length-le (a ++ []) n))
front (suc left) a l h f g =
    let e : length a ≡ 252 = f (λ q. omega arith) in
    (take_at a l 252 e, drop_at a l 252 e)

-- whole records fill a block
module _ (w : ℕ) (pos : 0 < w) (full : w * full_count w ≡ 252) where
  -- what m sound blocks are known for: they are made again of their words, and these fill all blocks but the last
  pub record Back (m k : ℕ) (t : List ℕ) : Type 0 where
    pub same : joined (blocks_from w m k (all_record_words w (blocks_of m t))) ≡ t
    pub long : length (all_record_words w (blocks_of m t)) ≡ w * record_count (blocks_of m t)
    pub most : length (all_record_words w (blocks_of m t)) ≤ m * 252
    pub least : m * 252 < length (all_record_words w (blocks_of m t)) + 252

  least_with : (left x y : ℕ) → 0 < x → ((left ≡ 0 → ⊥) → x ≡ 252) → left * 252 < y + 252 → suc left * 252 < x + y + 252
  least_with zero x y h g f = omega arith
  least_with (suc left) x y h g f =
      let q : x ≡ 252 = g (λ r. omega arith) in
      omega arith

  -- the words of a sound block are some, and fill it if blocks follow
  fills : (left c : ℕ) → ((left ≡ 0 → ⊥) → c ≡ full_count w) → (left ≡ 0 → 1 ≤ c) → (0 < w * c) × ((left ≡ 0 → ⊥) → w * c ≡ 252)
  fills zero c f g = (mul-pos pos (g refl), (λ q. absurd (q refl)))
  fills (suc left) c f g =
      let e : w * c ≡ 252 = ap (λ (x : ℕ). w * x) (f (λ q. omega arith)) ∙ full in
      (omega arith, (λ q. e))

  pub back : (m k i x y : ℕ) (t : List ℕ) → after_blocks i (block_refusals w k (blocks_of m t)) (accepted_whole x) ≡ accepted_whole y → length t ≡ m * 512 → Bytes t → Back m k t
  back zero k i x y t e l h = record { same = sym (none_left t (omega arith)); long = sym (mul-zero w); most = omega arith; least = omega arith }
  back (suc m) k i x y t e l h =
      let block = take 512 t in
      let later = blocks_of m (drop 512 t) in
      let first = sound_first (block_refusal w k (length later) block) i y (after_blocks (i + 1) (block_refusals w (k + 1) later) (accepted_whole x)) e in
      let sound : block_refusal w k m block ≡ 0 = rw (length_blocks m (drop 512 t)) at first.0 in
      let lb : length block ≡ 512 = simp length-take (omega arith) in
      let hb : Bytes block = bytes_take 512 t h in
      let ld : length (drop 512 t) ≡ m * 512 = simp length-drop (omega arith) in
      let r = back m (k + 1) (i + 1) x y (drop 512 t) first.1 ld (bytes_drop 512 t h) in
      let words = record_words w block in
      let rest = all_record_words w later in
      let good = count_good_says w m (count_of block) (sound_shape w k m block sound).0 in
      let few : w * count_of block ≤ 252 = count_fits w (count_of block) good.0 in
      let lw : length words ≡ w * count_of block = records_long w block lb few in
      let f = fills m (count_of block) good.1 good.2 in
      let filled : (m ≡ 0 → ⊥) → length words ≡ 252 = λ q. lw ∙ f.1 q in
      let parts = front m words rest (omega (arith, lw, few)) filled (λ q. none_left rest (omega (arith, r.most))) in
      let both : length (words ++ rest) ≡ length words + length rest = length-append words rest in
      record {
        same = rw (parts.0, parts.1, block_back w k m block pos lb hb sound, r.same) (take-append-drop 512 t);
        long = both ∙ rw (mul-add w (count_of block) (record_count later), lw, r.long);
        most = omega (arith, both, lw, few, r.most);
        least = rw both (least_with m (length words) (length rest) (omega (arith, lw, f.0)) filled r.least);
      }
