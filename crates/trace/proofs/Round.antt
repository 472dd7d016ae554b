-- What a reader finds in the blocks that a writer made: sound blocks, and the words.
use mathlib.Core.Path.{◌≡◌, refl, sym, ap, ◌∙◌}
use mathlib.Core.Bool.{Bool, true, false}
use mathlib.Core.List.{List, [], ◌∷◌, ◌++◌, append_assoc}
use Prim.Native.Nat.{ℕ, zero, suc, ◌+◌, ◌-◌, ◌*◌, ◌/◌, ◌%◌, ◌≤◌, ◌<◌}
use native.Mathlib.Omega.{arith}
use native.Mathlib.Nat.{mul-div_cancel_left, mul-add, mul-zero, mul-pos, le_of_mul-le-mul_left}
use lib.Dec.{leb}
use lib.ListN.{length, take, drop, get_or, replicate, length-append, length-take, length-drop, length-replicate, take-append-drop}
use lib.Seq.{take_at, drop_at, get_or_at, take_all}
use borrow.Author.Tests.{leb-true, leb-false, eq-eqb}
use Rattle.choice.specs.Tells.{Placed}
use Rattle.trace.specs.Check.{check_of}
use Rattle.trace.specs.Layout.{full_count, form_byte, part, word_at, bytes_of, joined}
use Rattle.trace.specs.Blocks.{count_of, count_good, records_end, shape_good, check_held, check_good, block_refusal, record_words, head_of, body_of, sealed, block_of}
use Rattle.trace.specs.Reading.{blocks_of, block_refusals, after_blocks, record_count, all_record_words}
use Rattle.trace.specs.Writing.{blocks_from}
use Rattle.trace.proofs.Words.{words_bytes, zeros, length_bytes, none_left}
use Rattle.trace.proofs.Sound.{count_is_good}
use Rattle.trace.proofs.Made.{length_head, body_long, made_long}

-- the check of a sealed block
module _ (body : List ℕ) (long : length body ≡ 510) where
  abbrev high : ℕ
  high = check_of body / 256

  abbrev low : ℕ
  low = check_of body % 256

  sealed_body : part 0 510 (sealed body) ≡ body
  unfolding sealed
  sealed_body = take_at body (high ∷ low ∷ []) 510 long

  sealed_high : get_or (sealed body) 510 0 ≡ high
  unfolding sealed
  sealed_high = get_or_at body high (low ∷ []) 0 510 long

  sealed_low : get_or (sealed body) 511 0 ≡ low
  unfolding sealed
  sealed_low = rw (← append_assoc body (high ∷ []) (low ∷ [])) (get_or_at (body ++ (high ∷ [])) low [] 0 511 (simp length-append (omega arith)))

  pub sealed_good : check_good (sealed body) ≡ true
  unfolding check_good check_held
  sealed_good = rw (sealed_body, sealed_high, sealed_low) (eq-eqb (check_of body) (256 * high + low) (omega arith))

-- a block of c records
module _ (w k c : ℕ) (words : List ℕ) (pos : 0 < w) (long : length words ≡ w * c) (short : length words ≤ 252) where
  abbrev pair : List ℕ
  pair = check_of (body_of w k words) / 256 ∷ check_of (body_of w k words) % 256 ∷ []

  abbrev filling : List ℕ
  filling = replicate (506 - 2 * length words) 0

  pieces : block_of w k words ≡ head_of w k (length words) ++ (bytes_of words ++ (filling ++ pair))
  unfolding sealed body_of
  pieces = simp append_assoc

  pub made_count : count_of (block_of w k words) ≡ c
  unfolding sealed body_of head_of
  made_count = rw long (mul-div_cancel_left c pos)

  made_form : get_or (block_of w k words) 3 0 ≡ form_byte w
  unfolding sealed body_of head_of
  made_form = refl

  made_number : word_at (block_of w k words) 0 ≡ k
  unfolding sealed body_of head_of
  made_number = omega arith

  end_is : records_end w c ≡ 4 + 2 * length words
  end_is = rw long

  pub made_records : record_words w (block_of w k words) ≡ words
  unfolding record_words
  made_records =
      let d : drop 4 (head_of w k (length words) ++ (bytes_of words ++ (filling ++ pair))) ≡ bytes_of words ++ (filling ++ pair) = drop_at (head_of w k (length words)) _ 4 (length_head w k (length words)) in
      let l : length (bytes_of words) ≡ 4 + 2 * length words - 4 = length_bytes words ∙ omega arith in
      rw (made_count, end_is, pieces, d, take_at (bytes_of words) (filling ++ pair) _ l) (words_bytes words)

  made_filling : part (records_end w c) 510 (block_of w k words) ≡ filling
  made_filling =
      let h : length (head_of w k (length words) ++ bytes_of words) ≡ 4 + 2 * length words = simp length-append (omega (arith, length_head w k (length words), length_bytes words)) in
      let l : length filling ≡ 510 - (4 + 2 * length words) = length-replicate {A = ℕ} (506 - 2 * length words) 0 ∙ omega arith in
      rw (end_is, pieces, ← append_assoc (head_of w k (length words)) (bytes_of words) (filling ++ pair), drop_at (head_of w k (length words) ++ bytes_of words) (filling ++ pair) _ h) (take_at filling pair _ l)

  pub made_sound : (left : ℕ) → count_good w left c ≡ true → block_refusal w k left (block_of w k words) ≡ 0
  unfolding block_refusal shape_good
  made_sound left good = rw (sealed_good (body_of w k words) (body_long w k words short), eq-eqb _ _ made_number, made_count, good, eq-eqb _ _ made_form, made_filling, zeros)

-- the blocks of a made trace are those that were made
pub made_trace_long : (w m k : ℕ) (words : List ℕ) → length (joined (blocks_from w m k words)) ≡ m * 512
made_trace_long w zero k words = refl
made_trace_long w (suc m) k words =
    let s : length (take 252 words) ≤ 252 = simp length-take (omega arith) in
    length-append (block_of w k (take 252 words)) _ ∙ omega (arith, made_long w k (take 252 words) s, made_trace_long w m (k + 1) (drop 252 words))

pub made_blocks : (w m k : ℕ) (words : List ℕ) → blocks_of m (joined (blocks_from w m k words)) ≡ blocks_from w m k words
made_blocks w zero k words = refl
made_blocks w (suc m) k words =
    let s : length (take 252 words) ≤ 252 = simp length-take (omega arith) in
    let b = block_of w k (take 252 words) in
    let rest = joined (blocks_from w m (k + 1) (drop 252 words)) in
    let l : length b ≡ 512 = made_long w k (take 252 words) s in
    rw (take_at b rest 512 l, drop_at b rest 512 l, made_blocks w m (k + 1) (drop 252 words))

length_made : (w m k : ℕ) (words : List ℕ) → length (blocks_from w m k words) ≡ m
length_made w zero k words = refl
length_made w (suc m) k words = ap suc (length_made w m (k + 1) (drop 252 words))

some : (w n x : ℕ) → x ≡ w * n → 0 < x → 1 ≤ n
some w zero x e h = absurd (omega (arith, mul-zero w))
some w (suc n) x e h = omega arith

none : (w n : ℕ) → 0 < w → 0 ≡ w * n → n ≡ 0
none w zero h e = refl
none w (suc n) h e =
    let p : 0 < suc n = omega arith in
    absurd (omega (arith, mul-pos h p))

-- whole records fill a block
module _ (w : ℕ) (pos : 0 < w) (full : w * full_count w ≡ 252) where
  -- the first block of what is to be written, with `here` of n records, and the rest
  record First (m n : ℕ) (words : List ℕ) : Type 0 where
    here : ℕ
    after : ℕ
    sum : here + after ≡ n
    long : length (take 252 words) ≡ w * here
    rest : length (drop 252 words) ≡ w * after
    good : count_good w m here ≡ true
    most : length (drop 252 words) ≤ m * 252
    least : m * 252 < length (drop 252 words) + 252

  first : (m n : ℕ) (words : List ℕ) → length words ≡ w * n → length words ≤ suc m * 252 → suc m * 252 < length words + 252 → First m n words
  first m n words e h g = by_test (leb (length words) 252) refl
    where
      few : length words ≤ 252 → n ≤ full_count w
      few s =
          let q : w * n ≤ w * full_count w = omega (arith, full, e) in
          le_of_mul-le-mul_left q pos

      many : 252 < length words → full_count w ≤ n
      many s =
          let q : w * full_count w ≤ w * n = omega (arith, full, e) in
          le_of_mul-le-mul_left q pos

      by_test : (t : Bool) → leb (length words) 252 ≡ t → First m n words
      by_test true t =
          let s : length words ≤ 252 = leb-true _ _ t in
          let z : length (drop 252 words) ≡ 0 = simp length-drop (omega arith) in
          let last : m ≡ 0 = omega arith in
          record {
            here = n;
            after = 0;
            sum = omega arith;
            long = rw (take_all 252 words s) e;
            rest = z ∙ sym (mul-zero w);
            good = count_is_good w m n (some w n (length words) e (omega arith)) (few s) (λ q. absurd (q last));
            most = omega arith;
            least = omega arith;
          }
      by_test false t =
          let s : 252 < length words = leb-false _ _ t in
          let i : full_count w + (n - full_count w) ≡ n = omega (arith, many s) in
          let j : w * full_count w + w * (n - full_count w) ≡ w * n = sym (mul-add w (full_count w) (n - full_count w)) ∙ ap (λ (x : ℕ). w * x) i in
          let l : length (drop 252 words) ≡ length words - 252 = length-drop 252 words in
          record {
            here = full_count w;
            after = n - full_count w;
            sum = i;
            long = simp length-take (omega (arith, full));
            rest = omega (arith, j, l, full, e);
            good = count_is_good w m (full_count w) (some w (full_count w) 252 (sym full) (omega arith)) (omega arith) (λ q. refl);
            most = omega arith;
            least = omega arith;
          }

  -- m blocks made of n records are sound, have n records, and give back the words
  pub record Round (m k n : ℕ) (words : List ℕ) : Type 0 where
    pub sound : (i : ℕ) (rest : Placed ℕ) → after_blocks i (block_refusals w k (blocks_from w m k words)) rest ≡ rest
    pub count : record_count (blocks_from w m k words) ≡ n
    pub same : all_record_words w (blocks_from w m k words) ≡ words

  pub round : (m k n : ℕ) (words : List ℕ) → length words ≡ w * n → length words ≤ m * 252 → m * 252 < length words + 252 → Round m k n words
  round zero k n words e h g =
      let z : length words ≡ 0 = omega arith in
      record { sound = λ i rest. refl; count = sym (none w n pos (omega arith)); same = sym (none_left words z) }
  round (suc m) k n words e h g =
      let f = first m n words e h g in
      let s : length (take 252 words) ≤ 252 = simp length-take (omega arith) in
      let r = round m (k + 1) f.after (drop 252 words) f.rest f.most f.least in
      let zero-here : block_refusal w k (length (blocks_from w m (k + 1) (drop 252 words))) (block_of w k (take 252 words)) ≡ 0 =
      rw (length_made w m (k + 1) (drop 252 words)) (made_sound w k f.here (take 252 words) pos f.long s m f.good) in
      record {
        sound = λ i rest. rw (eq-eqb _ _ zero-here) (r.sound (i + 1) rest);
        count = rw (made_count w k f.here (take 252 words) pos f.long s, r.count) f.sum;
        same = rw (made_records w k f.here (take 252 words) pos f.long s, r.same) (take-append-drop 252 words);
      }
