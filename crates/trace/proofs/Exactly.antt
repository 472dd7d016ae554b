-- Each number of the reader and the writer is given exactly when its condition holds and no earlier one does: by the length `whole_eleven`,
-- `whole_two`, of a block `block_twelve` and on, at the end `end_two`, `end_three`, of the writer `write_one` and on; then `write_refuses` and, last,
-- `read_refuses`.
use mathlib.Core.Path.{◌≡◌, refl, sym, ap, subst, ◌∙◌}
use mathlib.Core.Bool.{Bool, true, false, not}
use mathlib.Core.Logic.{◌↔◌}
use mathlib.Core.List.{List, [], ◌∷◌}
use Prim.Native.Nat.{ℕ, zero, suc, ◌+◌, ◌-◌, ◌*◌, ◌/◌, ◌%◌, ◌≤◌, ◌<◌}
use native.Mathlib.Nat.{zero-add}
use native.Mathlib.Omega.{arith}
use lib.Dec.{T, eqb, ltb}
use borrow.Author.Tests.{eqb-true, eqb-false, eq-eqb, ne_eqb}
use lib.ListN.{length, get_or}
use Rattle.choice.specs.Pick.{pick}
use Rattle.choice.specs.Checks.{check, refusal, clear}
use Rattle.choice.specs.Tells.{Placed, accepted_whole, refused_at}
use Rattle.choice.proofs.Checks.{positive, exactly}
use Rattle.choice.proofs.Tells.{refused_at_one, whole_refused}
use Rattle.choice.proofs.Picks.{picked, unpicked}
use Rattle.trace.specs.Layout.{block_bytes, part, word_at}
use Rattle.trace.specs.Blocks.{check_good, shape_good, block_refusal}
use Rattle.trace.specs.Answers.{or_refused}
use Rattle.run.specs.Runs.{most_cycles}
use Rattle.trace.specs.Limits.{most_blocks, blocks_for}
use Rattle.trace.specs.Reading.{trace_blocks, block_refusals, after_blocks, record_count, whole_checks, end_checks, read_end, read_of}
use Rattle.trace.specs.Writing.{write_checks, write_of}
use Rattle.trace.specs.Refusing.{block_count, whole_number, block_number, end_number, Refuses, by_length, by_block, by_end}
use Rattle.trace.proofs.Parts.{length_blocks, block_at}
use Rattle.trace.proofs.Judged.{number, after_from, after_none, after_step}

-- the checks of a whole trace, by its length
module _ (w bytes : ℕ) where
  abbrev uneven : Bool
  uneven = not (eqb (bytes % block_bytes) 0)

  abbrev many : Bool
  many = ltb (most_blocks w) (bytes / block_bytes)

  pub whole_eleven : (refusal (whole_checks w bytes) ≡ 11) ↔ (Unit {0} × (uneven ≡ true))
  whole_eleven = exactly 11 uneven (check 2 many ∷ []) (positive 11 tt) tt [] tt

  pub whole_two : (refusal (whole_checks w bytes) ≡ 2) ↔ (T (clear (check 11 uneven ∷ [])) × (many ≡ true))
  whole_two = exactly 2 many [] (positive 2 tt) tt (check 11 uneven ∷ []) tt

-- the checks of block k, with `left` blocks after it
module _ (w k left : ℕ) (block : List ℕ) where
  abbrev unchecked : Bool
  unchecked = not (check_good block)

  abbrev misplaced : Bool
  misplaced = not (eqb (word_at block 0) k)

  abbrev misshapen : Bool
  misshapen = not (shape_good w left block)

  pub block_twelve : (block_refusal w k left block ≡ 12) ↔ (Unit {0} × (unchecked ≡ true))
  unfolding block_refusal
  block_twelve = exactly 12 unchecked (check 13 misplaced ∷ check 14 misshapen ∷ []) (positive 12 tt) tt [] tt

  pub block_thirteen : (block_refusal w k left block ≡ 13) ↔ (T (clear (check 12 unchecked ∷ [])) × (misplaced ≡ true))
  unfolding block_refusal
  block_thirteen = exactly 13 misplaced (check 14 misshapen ∷ []) (positive 13 tt) tt (check 12 unchecked ∷ []) tt

  pub block_fourteen : (block_refusal w k left block ≡ 14) ↔ (T (clear (check 12 unchecked ∷ check 13 misplaced ∷ [])) × (misshapen ≡ true))
  unfolding block_refusal
  block_fourteen = exactly 14 misshapen [] (positive 14 tt) tt (check 12 unchecked ∷ check 13 misplaced ∷ []) tt

-- the checks once all blocks are sound
module _ (w records room : ℕ) where
  abbrev over : Bool
  over = ltb most_cycles records

  abbrev short : Bool
  short = ltb room (w * records)

  pub end_two : (refusal (end_checks w records room) ≡ 2) ↔ (Unit {0} × (over ≡ true))
  end_two = exactly 2 over (check 3 short ∷ []) (positive 2 tt) tt [] tt

  pub end_three : (refusal (end_checks w records room) ≡ 3) ↔ (T (clear (check 2 over ∷ [])) × (short ≡ true))
  end_three = exactly 3 short [] (positive 3 tt) tt (check 2 over ∷ []) tt

-- the checks of the writer, by the number of words and the room
module _ (w n room : ℕ) where
  abbrev broken : Bool
  broken = not (eqb (n % w) 0)

  abbrev long : Bool
  long = ltb most_cycles (n / w)

  abbrev narrow : Bool
  narrow = ltb room (blocks_for n * block_bytes)

  pub write_one : (refusal (write_checks w n room) ≡ 1) ↔ (Unit {0} × (broken ≡ true))
  write_one = exactly 1 broken (check 2 long ∷ check 3 narrow ∷ []) (positive 1 tt) tt [] tt

  pub write_two : (refusal (write_checks w n room) ≡ 2) ↔ (T (clear (check 1 broken ∷ [])) × (long ≡ true))
  write_two = exactly 2 long (check 3 narrow ∷ []) (positive 2 tt) tt (check 1 broken ∷ []) tt

  pub write_three : (refusal (write_checks w n room) ≡ 3) ↔ (T (clear (check 1 broken ∷ check 2 long ∷ [])) × (narrow ≡ true))
  write_three = exactly 3 narrow [] (positive 3 tt) tt (check 1 broken ∷ check 2 long ∷ []) tt

-- a number that checks give, before a rest
module _ (given : ℕ) (rest : Placed ℕ) where
  pub refused_first : (given ≡ 0 → ⊥) → or_refused given rest ≡ refused_at given 0
  refused_first n = unpicked (eqb given 0) rest (refused_at given 0) (ne_eqb given 0 n)

  pub rest_first : given ≡ 0 → or_refused given rest ≡ rest
  rest_first e = picked (eqb given 0) rest (refused_at given 0) (eq-eqb given 0 e)

-- an accepted rest: the refusal is that of the checks, with index 0
checks_decide : (given x k i : ℕ) → (k ≡ 0 → ⊥) → (or_refused given (accepted_whole x) ≡ refused_at k i) ↔ ((given ≡ k) × (i ≡ 0))
checks_decide given x k i some = (to (eqb given 0) refl, back)
  where
    to : (b : Bool) → eqb given 0 ≡ b → or_refused given (accepted_whole x) ≡ refused_at k i → (given ≡ k) × (i ≡ 0)
    to true q e = absurd (whole_refused x k i (sym (rest_first given (accepted_whole x) (eqb-true given 0 q)) ∙ e))
    to false q e =
        let both = refused_at_one given k 0 i (sym (refused_first given (accepted_whole x) (eqb-false given 0 q)) ∙ e) in
        (both.0, sym both.1)

    back : (given ≡ k) × (i ≡ 0) → or_refused given (accepted_whole x) ≡ refused_at k i
    back h =
        refused_first given (accepted_whole x) (λ z. some (sym h.0 ∙ z)) ∙ ap (λ (j : ℕ). refused_at j 0) h.0 ∙ ap (refused_at k) (sym h.1)

-- the writer refuses with k exactly when its checks give k; the index is 0
pub write_refuses : (w n room k i : ℕ) → (k ≡ 0 → ⊥) → (write_of w n room ≡ refused_at k i) ↔ ((refusal (write_checks w n room) ≡ k) × (i ≡ 0))
unfolding write_of
write_refuses w n room k i some = checks_decide (refusal (write_checks w n room)) (blocks_for n * block_bytes) k i some

module _ (w : ℕ) (t : List ℕ) where
  -- block i, where its number is 0, leaves the answer to the blocks after it
  block_step : (i : ℕ) → i < block_count t → (rest : Placed ℕ)
      → after_from w (trace_blocks t) i rest ≡ pick (eqb (block_number w t i) 0) (after_from w (trace_blocks t) (i + 1) rest) (refused_at (block_number w t i) i)
  block_step i h rest =
      let long : length (trace_blocks t) ≡ block_count t = length_blocks (block_count t) t in
      let cut : get_or (trace_blocks t) i [] ≡ part (i * 512) (i * 512 + 512) t = block_at (block_count t) i t h in
      let same : number w (trace_blocks t) i ≡ block_number w t i =
      ap (λ (m : ℕ). block_refusal w i (m - i - 1) (get_or (trace_blocks t) i [])) long ∙ ap (block_refusal w i (block_count t - i - 1)) cut in
      after_step w (trace_blocks t) i (omega (arith, long)) rest ∙ ap (λ (k : ℕ). pick (eqb k 0) (after_from w (trace_blocks t) (i + 1) rest) (refused_at k i)) same

  module _ (rest : Placed ℕ) where
    -- sound blocks are passed over
    passed : (i : ℕ) → i ≤ block_count t → ((j : ℕ) → j < i → block_number w t j ≡ 0) → after_from w (trace_blocks t) 0 rest ≡ after_from w (trace_blocks t) i rest
    passed zero h sound = refl
    passed (suc i) h sound =
        let next : i + 1 ≡ suc i = omega arith in
        passed i (omega arith) (λ j l. sound j (omega arith)) ∙ block_step i (omega arith) rest
        ∙ picked (eqb (block_number w t i) 0) (after_from w (trace_blocks t) (i + 1) rest) (refused_at (block_number w t i) i) (eq-eqb (block_number w t i) 0 (sound i (omega arith)))
        ∙ ap (λ (j : ℕ). after_from w (trace_blocks t) j rest) next

  -- all blocks are sound, or there is a first that is not
  data Found : Type 0 where
    all_pass : ((j : ℕ) → j < block_count t → block_number w t j ≡ 0) → Found
    first_at : (i : ℕ) → i < block_count t → ((j : ℕ) → j < i → block_number w t j ≡ 0) → (block_number w t i ≡ 0 → ⊥) → Found

  with_this : (k : ℕ) → ((j : ℕ) → j < k → block_number w t j ≡ 0) → block_number w t k ≡ 0 → (j : ℕ) → j < suc k → block_number w t j ≡ 0
  with_this k sound e j h = by_test (eqb j k) refl
    where
      by_test : (b : Bool) → eqb j k ≡ b → block_number w t j ≡ 0
      by_test true q = ap (block_number w t) (eqb-true j k q) ∙ e
      by_test false q = sound j (omega (arith, eqb-false j k q))

  look : (left k : ℕ) → k + left ≡ block_count t → ((j : ℕ) → j < k → block_number w t j ≡ 0) → Found
  look zero k e sound = all_pass (λ j h. sound j (omega arith))
  look (suc left) k e sound = by_test (eqb (block_number w t k) 0) refl (λ z. look left (suc k) (omega arith) (with_this k sound z))
    where
      by_test : (b : Bool) → eqb (block_number w t k) 0 ≡ b → (block_number w t k ≡ 0 → Found) → Found
      by_test true q further = further (eqb-true (block_number w t k) 0 q)
      by_test false q further = first_at k (omega arith) sound (eqb-false (block_number w t k) 0 q)

  module _ (room : ℕ) where
    abbrev end : Placed ℕ
    end = read_end w (record_count (trace_blocks t)) room

    whole_decides : (whole_number w t ≡ 0 → ⊥) → read_of w t room ≡ refused_at (whole_number w t) 0
    unfolding read_of
    whole_decides n = refused_first (whole_number w t) (after_blocks 0 (block_refusals w 0 (trace_blocks t)) end) n

    blocks_decide : whole_number w t ≡ 0 → read_of w t room ≡ after_from w (trace_blocks t) 0 end
    unfolding read_of
    blocks_decide e = rest_first (whole_number w t) (after_blocks 0 (block_refusals w 0 (trace_blocks t)) end) e

    block_decides : (i : ℕ) → i < block_count t → ((j : ℕ) → j < i → block_number w t j ≡ 0) → (block_number w t i ≡ 0 → ⊥) → after_from w (trace_blocks t) 0 end ≡ refused_at (block_number w t i) i
    block_decides i h sound n =
        passed end i (omega arith) sound ∙ block_step i h end
        ∙ unpicked (eqb (block_number w t i) 0) (after_from w (trace_blocks t) (i + 1) end) (refused_at (block_number w t i) i) (ne_eqb (block_number w t i) 0 n)

    end_decides : ((j : ℕ) → j < block_count t → block_number w t j ≡ 0) → after_from w (trace_blocks t) 0 end ≡ end
    end_decides sound = passed end (block_count t) (omega arith) sound ∙ after_none w (trace_blocks t) (block_count t) end (omega (arith, length_blocks (block_count t) t))

    -- the reader refuses with k at i exactly when one of the three says so
    module _ (k i : ℕ) (some : k ≡ 0 → ⊥) where
      refused_by : read_of w t room ≡ refused_at k i → Refuses w t room k i
      refused_by e = by_test (eqb (whole_number w t) 0) refl
        where
          by_found : whole_number w t ≡ 0 → after_from w (trace_blocks t) 0 end ≡ refused_at k i → Found → Refuses w t room k i
          by_found z f (all_pass sound) =
              let given = (checks_decide (end_number w t room) (w * record_count (trace_blocks t)) k i some).0 (sym (end_decides sound) ∙ f) in
              by_end z sound given.0 given.1
          by_found z f (first_at j h sound n) =
              let both = refused_at_one (block_number w t j) k j i (sym (block_decides j h sound n) ∙ f) in
              by_block z (subst (λ (x : ℕ). x < block_count t) both.1 h)
              (λ l g. sound l (subst (λ (x : ℕ). l < x) (sym both.1) g))
              (ap (block_number w t) (sym both.1) ∙ both.0)

          by_test : (b : Bool) → eqb (whole_number w t) 0 ≡ b → Refuses w t room k i
          by_test true q =
              let z : whole_number w t ≡ 0 = eqb-true (whole_number w t) 0 q in
              by_found z (sym (blocks_decide z) ∙ e) (look (block_count t) 0 (zero-add (block_count t)) (λ j h. absurd (omega arith)))
          by_test false q =
              let both = refused_at_one (whole_number w t) k 0 i (sym (whole_decides (eqb-false (whole_number w t) 0 q)) ∙ e) in
              by_length both.0 (sym both.1)

      refuses_so : Refuses w t room k i → read_of w t room ≡ refused_at k i
      refuses_so (by_length e z) = whole_decides (λ n. some (sym e ∙ n)) ∙ ap (λ (x : ℕ). refused_at x 0) e ∙ ap (refused_at k) (sym z)
      refuses_so (by_block z h sound e) =
          blocks_decide z ∙ block_decides i h sound (λ n. some (sym e ∙ n)) ∙ ap (λ (x : ℕ). refused_at x i) e
      refuses_so (by_end z sound e zero-index) =
          blocks_decide z ∙ end_decides sound ∙ (checks_decide (end_number w t room) (w * record_count (trace_blocks t)) k i some).1 (e, zero-index)

      pub read_refuses : (read_of w t room ≡ refused_at k i) ↔ Refuses w t room k i
      read_refuses = (refused_by, refuses_so)
