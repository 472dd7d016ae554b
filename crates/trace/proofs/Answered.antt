-- The ways out of the reader and the writer, and what an accepted answer says.
-- The laws, in this order: `write_says`, `read_says`.
use mathlib.Core.Path.{◌≡◌, sym, ap, ◌∙◌}
use mathlib.Core.Bool.{not}
use mathlib.Core.List.{List, [], ◌∷◌, ◌++◌}
use Prim.Native.Nat.{ℕ, ◌*◌, ◌/◌, ◌%◌, ◌≤◌, ◌<◌}
use lib.Dec.{eqb, ltb}
use lib.ListN.{length, drop}
use borrow.Author.Tests.{eqb-true, eq-eqb, ne_eqb, ltb-false, lt-ltb, le-ltb, not-false}
use Rattle.choice.specs.Checks.{check, refusal}
use Rattle.choice.proofs.Checks.{positive, cleared}
use Rattle.choice.proofs.Tells.{whole_one}
use Rattle.choice.specs.Tells.{Placed, accepted_whole, refused_at}
use Rattle.std.specs.Prelude.{Ok, Err}
use Rattle.refusals.specs.declared.Refused.{Refused}
use Rattle.refusals.specs.declared.Refusal.{Refusal}
use Rattle.refusals.specs.Numbers.{number_of, whole}
use Rattle.trace.specs.Layout.{block_bytes}
use Rattle.trace.specs.Answers.{leaves, Fills}
use Rattle.run.specs.Runs.{most_cycles}
use Rattle.trace.specs.Limits.{blocks_for, most_blocks}
use Rattle.trace.specs.Reading.{trace_blocks, block_refusals, after_blocks, record_count, whole_checks, end_checks, read_end, read_of}
use Rattle.trace.specs.Writing.{write_checks, write_of}
use Rattle.std.specs.Simd.{first_chunks}
use Rattle.trace.proofs.Parts.{blocks_cut}
use Rattle.trace.proofs.Judged.{all_sound, one_refused, sound_first}

-- an answer and the lent output, by what the definition tells
module _ {answer : Placed ℕ} {made before : List ℕ} where
  pub refuses : (r : Refused) → refused_at (number_of r.refusal) r.index ≡ answer → Fills answer made (Err r) before before
  refuses r e = record { told = e; written = ap (λ (a : Placed ℕ). leaves a made before) e }

  pub refuses_whole : (k : Refusal) (r : Refused) → r ≡ whole k → refused_at (number_of k) 0 ≡ answer → Fills answer made (Err r) before before
  refuses_whole k r er e = rw er (refuses (whole k) e)

  pub accepts : (n : ℕ) (after : List ℕ) → accepted_whole n ≡ answer → after ≡ made ++ drop n before → Fills answer made (Ok n) before after
  accepts n after e f = record { told = e; written = f ∙ ap (λ (a : Placed ℕ). leaves a made before) e }

-- the blocks of a trace judged, and how many records they have
abbrev pub judgement : ℕ → List ℕ → Placed ℕ
judgement w t = after_blocks 0 (block_refusals w 0 (trace_blocks t)) (accepted_whole (record_count (trace_blocks t)))

-- the code judges the blocks that it cuts a trace into, and where all are accepted it has counted their records
module _ (w : ℕ) where
  pub judged_cut : (t : List ℕ) (blocks : List (List ℕ)) (answer : Placed ℕ) → blocks ≡ first_chunks 512 (length t / block_bytes) t
      → answer ≡ after_blocks 0 (block_refusals w 0 blocks) (accepted_whole (record_count blocks)) → judgement w t ≡ answer
  judged_cut t blocks answer cut e = rw (blocks_cut, ← cut) (sym e)

  pub counted : (blocks : List (List ℕ)) (n : ℕ) → accepted_whole n ≡ after_blocks 0 (block_refusals w 0 blocks) (accepted_whole (record_count blocks)) → record_count blocks ≡ n
  counted blocks n e = whole_one (record_count blocks) n (all_sound (block_refusals w 0 blocks) 0 n (accepted_whole (record_count blocks)) (sym e)).0

module _ (w : ℕ) (t : List ℕ) (room : ℕ) where
  pub read_11 : (length t % block_bytes ≡ 0 → ⊥) → refused_at 11 0 ≡ read_of w t room
  unfolding read_of
  read_11 n = rw (ne_eqb (length t % block_bytes) 0 n)

  module _ (even : length t % block_bytes ≡ 0) where
    pub read_many : most_blocks w < length t / block_bytes → refused_at 2 0 ≡ read_of w t room
    unfolding read_of
    read_many h = rw (eq-eqb (length t % block_bytes) 0 even, lt-ltb (most_blocks w) (length t / block_bytes) h)

    module _ (few : length t / block_bytes ≤ most_blocks w) where
      blocks_decide : read_of w t room ≡ after_blocks 0 (block_refusals w 0 (trace_blocks t)) (read_end w (record_count (trace_blocks t)) room)
      unfolding read_of
      blocks_decide = rw (eq-eqb (length t % block_bytes) 0 even, le-ltb (most_blocks w) (length t / block_bytes) few)

      pub read_refused : (k i : ℕ) → judgement w t ≡ refused_at k i → refused_at k i ≡ read_of w t room
      read_refused k i e =
          sym (blocks_decide ∙ one_refused (read_end w (record_count (trace_blocks t)) room) (block_refusals w 0 (trace_blocks t)) 0 (record_count (trace_blocks t)) k i e)

      module _ (n : ℕ) (sound : judgement w t ≡ accepted_whole n) where
        pub end_decides : read_of w t room ≡ read_end w n room
        end_decides =
            let all = all_sound (block_refusals w 0 (trace_blocks t)) 0 n (accepted_whole (record_count (trace_blocks t))) sound in
            blocks_decide ∙ all.1 (read_end w (record_count (trace_blocks t)) room) ∙ ap (λ (x : ℕ). read_end w x room) (whole_one (record_count (trace_blocks t)) n all.0)

        pub read_over : most_cycles < n → refused_at 2 0 ≡ read_of w t room
        read_over h = rw (end_decides, lt-ltb most_cycles n h)

        module _ (h : n ≤ most_cycles) where
          pub read_short : room < w * n → refused_at 3 0 ≡ read_of w t room
          read_short g = rw (end_decides, le-ltb most_cycles n h, lt-ltb room (w * n) g)

          pub read_done : w * n ≤ room → accepted_whole (w * n) ≡ read_of w t room
          read_done g = rw (end_decides, le-ltb most_cycles n h, le-ltb room (w * n) g)

module _ (w n room : ℕ) where
  pub write_1 : (n % w ≡ 0 → ⊥) → refused_at 1 0 ≡ write_of w n room
  unfolding write_of
  write_1 h = rw (ne_eqb (n % w) 0 h)

  module _ (whole : n % w ≡ 0) where
    pub write_2 : most_cycles < n / w → refused_at 2 0 ≡ write_of w n room
    unfolding write_of
    write_2 h = rw (eq-eqb (n % w) 0 whole, lt-ltb most_cycles (n / w) h)

    module _ (few : n / w ≤ most_cycles) where
      pub write_3 : room < blocks_for n * block_bytes → refused_at 3 0 ≡ write_of w n room
      unfolding write_of
      write_3 h = rw (eq-eqb (n % w) 0 whole, le-ltb most_cycles (n / w) few, lt-ltb room (blocks_for n * block_bytes) h)

      pub write_done : blocks_for n * block_bytes ≤ room → accepted_whole (blocks_for n * block_bytes) ≡ write_of w n room
      unfolding write_of
      write_done h = rw (eq-eqb (n % w) 0 whole, le-ltb most_cycles (n / w) few, le-ltb room (blocks_for n * block_bytes) h)

-- what an accepted answer says
pub write_says : (w n room y : ℕ) → write_of w n room ≡ accepted_whole y
    → (n % w ≡ 0) × (n / w ≤ most_cycles) × (blocks_for n * block_bytes ≤ room) × (blocks_for n * block_bytes ≡ y)
unfolding write_of
write_says w n room y e =
    let end = sound_first (refusal (write_checks w n room)) 0 y (accepted_whole (blocks_for n * block_bytes)) e in
    let one = cleared 1 (not (eqb (n % w) 0)) (check 2 (ltb most_cycles (n / w)) ∷ check 3 (ltb room (blocks_for n * block_bytes)) ∷ []) (positive 1 tt) end.0 in
    let two = cleared 2 (ltb most_cycles (n / w)) (check 3 (ltb room (blocks_for n * block_bytes)) ∷ []) (positive 2 tt) one.1 in
    let three = cleared 3 (ltb room (blocks_for n * block_bytes)) [] (positive 3 tt) two.1 in
    (eqb-true (n % w) 0 (not-false (eqb (n % w) 0) one.0), ltb-false most_cycles (n / w) two.0, ltb-false room (blocks_for n * block_bytes) three.0, whole_one (blocks_for n * block_bytes) y end.1)

pub record ReadSays (w : ℕ) (t : List ℕ) (room y : ℕ) : Type 0 where
  pub even : length t % block_bytes ≡ 0
  pub blocks : length t / block_bytes ≤ most_blocks w
  pub sound : (other : Placed ℕ) → after_blocks 0 (block_refusals w 0 (trace_blocks t)) other ≡ other
  pub few : record_count (trace_blocks t) ≤ most_cycles
  pub room_enough : w * record_count (trace_blocks t) ≤ room
  pub words : w * record_count (trace_blocks t) ≡ y

pub read_says : (w : ℕ) (t : List ℕ) (room y : ℕ) → read_of w t room ≡ accepted_whole y → ReadSays w t room y
unfolding read_of
read_says w t room y e =
    let n = record_count (trace_blocks t) in
    let numbers = block_refusals w 0 (trace_blocks t) in
    let whole = sound_first (refusal (whole_checks w (length t))) 0 y (after_blocks 0 numbers (read_end w n room)) e in
    let eleven = cleared 11 (not (eqb (length t % block_bytes) 0)) (check 2 (ltb (most_blocks w) (length t / block_bytes)) ∷ []) (positive 11 tt) whole.0 in
    let many = cleared 2 (ltb (most_blocks w) (length t / block_bytes)) [] (positive 2 tt) eleven.1 in
    let all = all_sound numbers 0 y (read_end w n room) whole.1 in
    let end = sound_first (refusal (end_checks w n room)) 0 y (accepted_whole (w * n)) all.0 in
    let two = cleared 2 (ltb most_cycles n) (check 3 (ltb room (w * n)) ∷ []) (positive 2 tt) end.0 in
    let three = cleared 3 (ltb room (w * n)) [] (positive 3 tt) two.1 in
    record {
      even = eqb-true (length t % block_bytes) 0 (not-false (eqb (length t % block_bytes) 0) eleven.0);
      blocks = ltb-false (most_blocks w) (length t / block_bytes) many.0;
      sound = all.1;
      few = ltb-false most_cycles n two.0;
      room_enough = ltb-false room (w * n) three.0;
      words = whole_one (w * n) y end.1;
    }
