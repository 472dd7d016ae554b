-- The blocks of a trace judged in turn.
use mathlib.Core.Path.{◌≡◌, refl, sym, ap, ◌∙◌}
use mathlib.Core.Bool.{Bool, true, false}
use mathlib.Core.List.{List, [], ◌∷◌}
use Prim.Native.Nat.{ℕ, suc, ◌+◌, ◌-◌, ◌≤◌, ◌<◌}
use native.Mathlib.Nat.{add_assoc}
use native.Mathlib.Omega.{arith}
use lib.Dec.{eqb}
use lib.ListN.{length, drop, get_or, length-drop, drop_of_length-le}
use lib.Seq.{drop-cons}
use native.Mathlib.Numerals.{add-one}
use borrow.Author.Tests.{eqb-true, eq-eqb}
use Rattle.choice.specs.Pick.{pick}
use Rattle.choice.specs.Tells.{Placed, accepted_whole, refused_at}
use Rattle.choice.proofs.Tells.{whole_one, whole_refused}
use Rattle.trace.specs.Blocks.{count_of, block_refusal}
use Rattle.trace.specs.Reading.{block_refusals, after_blocks, record_count}

-- the first of some blocks is sound where all are accepted, and so are the rest
pub sound_first : (number i y : ℕ) (rest : Placed ℕ) → pick (eqb number 0) rest (refused_at number i) ≡ accepted_whole y → (number ≡ 0) × (rest ≡ accepted_whole y)
sound_first number i y rest e = by_test (eqb number 0) refl e
  where
    by_test : (b : Bool) → eqb number 0 ≡ b → pick b rest (refused_at number i) ≡ accepted_whole y → (number ≡ 0) × (rest ≡ accepted_whole y)
    by_test true q f = (eqb-true number 0 q, f)
    by_test false q f = absurd (whole_refused y number i (sym f))

-- blocks that are all sound leave the answer to the rest, whatever it is
pub all_sound : (numbers : List ℕ) (i y : ℕ) (rest : Placed ℕ) → after_blocks i numbers rest ≡ accepted_whole y
    → (rest ≡ accepted_whole y) × ((other : Placed ℕ) → after_blocks i numbers other ≡ other)
all_sound [] i y rest e = (e, (λ other. refl))
all_sound (k ∷ numbers) i y rest e =
    let first = sound_first k i y (after_blocks (i + 1) numbers rest) e in
    let later = all_sound numbers (i + 1) y rest first.1 in
    (later.0, (λ other. rw (eq-eqb k 0 first.0) (later.1 other)))

-- and one that is refused decides it
module _ (rest : Placed ℕ) where
  pub one_refused : (numbers : List ℕ) (i x k j : ℕ) → after_blocks i numbers (accepted_whole x) ≡ refused_at k j → after_blocks i numbers rest ≡ refused_at k j
  one_refused [] i x k j e = absurd (whole_refused x k j e)
  one_refused (n ∷ numbers) i x k j e = by_test (eqb n 0) e (one_refused numbers (i + 1) x k j)
    where
      by_test : (b : Bool) → pick b (after_blocks (i + 1) numbers (accepted_whole x)) (refused_at n i) ≡ refused_at k j
          → (after_blocks (i + 1) numbers (accepted_whole x) ≡ refused_at k j → after_blocks (i + 1) numbers rest ≡ refused_at k j)
          → pick b (after_blocks (i + 1) numbers rest) (refused_at n i) ≡ refused_at k j
      by_test true e f = f e
      by_test false e f = e

-- some blocks, w words per record
module _ (w : ℕ) (blocks : List (List ℕ)) where
  abbrev pub block : ℕ → List ℕ
  block k = get_or blocks k []

  -- the refusal number of block k, and what becomes of the blocks from k on before some rest
  abbrev pub number : ℕ → ℕ
  number k = block_refusal w k (length blocks - k - 1) (block k)

  abbrev pub after_from : ℕ → Placed ℕ → Placed ℕ
  after_from k rest = after_blocks k (block_refusals w k (drop k blocks)) rest

  -- the judgement of the blocks from k on, with n records before them
  abbrev pub judged_from : ℕ → ℕ → Placed ℕ
  judged_from k n = after_from k (accepted_whole (n + record_count (drop k blocks)))

  -- no block is left
  pub after_none : (k : ℕ) (rest : Placed ℕ) → length blocks ≤ k → after_from k rest ≡ rest
  after_none k rest h = rw (drop_of_length-le blocks h)

  pub after_step : (k : ℕ) → k < length blocks → (rest : Placed ℕ) → after_from k rest ≡ pick (eqb (number k) 0) (after_from (k + 1) rest) (refused_at (number k) k)
  after_step k h rest =
      let e : length (drop (k + 1) blocks) ≡ length blocks - k - 1 = length-drop (k + 1) blocks ∙ omega arith in
      rw (cut k h, e)
    where
      cut : (k : ℕ) → k < length blocks → drop k blocks ≡ block k ∷ drop (k + 1) blocks
      cut k h = rw add-one (drop-cons blocks k [] h)

  module _ (k n : ℕ) (h : k < length blocks) where
    step : judged_from k n ≡ pick (eqb (number k) 0) (judged_from (k + 1) (n + count_of (block k))) (refused_at (number k) k)
    step =
        let counted : n + record_count (drop k blocks) ≡ n + count_of (block k) + record_count (drop (k + 1) blocks) =
        rw (add-one, drop-cons blocks k [] h) (sym (add_assoc n (count_of (block k)) (record_count (drop (suc k) blocks)))) in
        ap (λ (x : ℕ). after_from k (accepted_whole x)) counted ∙ after_step k h (accepted_whole (n + count_of (block k) + record_count (drop (k + 1) blocks)))

    -- where all is accepted, block k is sound and so is the rest
    pub accepted_step : (y : ℕ) → judged_from k n ≡ accepted_whole y
        → (number k ≡ 0) × (judged_from (k + 1) (n + count_of (block k)) ≡ accepted_whole y)
    accepted_step y e =
        sound_first (number k) k y (judged_from (k + 1) (n + count_of (block k))) (sym step ∙ e)

  -- the records so far are no more than all
  pub accepted_count : (k n y : ℕ) → judged_from k n ≡ accepted_whole y → n + record_count (drop k blocks) ≡ y
  accepted_count k n y e =
      whole_one (n + record_count (drop k blocks)) y (all_sound (block_refusals w k (drop k blocks)) k y (accepted_whole (n + record_count (drop k blocks))) e).0
