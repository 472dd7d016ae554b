-- The loop that copies the records of sound blocks.
use mathlib.Core.Path.{◌≡◌, sym, ◌∙◌}
use mathlib.Core.List.{List, [], ◌++◌}
use Prim.Native.Nat.{ℕ, ◌+◌, ◌-◌, ◌*◌, ◌≤◌, ◌<◌}
use native.Mathlib.Nat.{mul-add, mul-le-mul_left}
use native.Mathlib.Omega.{arith}
use native.Mathlib.Numerals.{add-one}
use lib.ListN.{length, take, drop}
use lib.Seq.{drop-cons}
use Rattle.choice.specs.Tells.{accepted_whole}
use Rattle.choice.proofs.Filling.{turn}
use Rattle.trace.specs.Layout.{full_count}
use Rattle.trace.specs.Blocks.{count_of, record_words}
use Rattle.trace.specs.Reading.{record_count, all_record_words}
use Rattle.trace.proofs.Sound.{count_fits, sound_count, records_long}
use Rattle.trace.proofs.Judged.{judged_from, block, accepted_step, accepted_count}

-- before block k: the blocks from here on are sound, n records are copied, and what is still to be copied
pub record Before (w : ℕ) (blocks : List (List ℕ)) (cycles₀ cycles : List ℕ) (k filled : ℕ) : Type 0 where
  pub n : ℕ
  pub words : filled ≡ w * n
  pub sound : judged_from w blocks k n ≡ accepted_whole (record_count blocks)
  pub room : length cycles ≡ length cycles₀
  pub fills : take filled cycles ++ all_record_words w (drop k blocks) ≡ all_record_words w blocks
  pub rest : drop filled cycles ≡ drop filled cycles₀

module _ {w : ℕ} {blocks : List (List ℕ)} {cycles₀ cycles : List ℕ} {k filled : ℕ} (b : Before w blocks cycles₀ cycles k filled)
    (fits : w * record_count blocks ≤ length cycles₀) where
  module _ (h : k < length blocks) where
    pub count_here : count_of (block w blocks k) ≤ full_count w
    count_here = sound_count w k (length blocks - k - 1) (block w blocks k) (accepted_step w blocks k b.n h (record_count blocks) b.sound).0

    -- with this block's records no more are copied than there are
    within : w * b.n + w * count_of (block w blocks k) ≤ w * record_count blocks
    within =
        let s = accepted_count w blocks (k + 1) (b.n + count_of (block w blocks k)) (record_count blocks) (accepted_step w blocks k b.n h (record_count blocks) b.sound).1 in
        let l : b.n + count_of (block w blocks k) ≤ record_count blocks = omega (arith, s) in
        rw (← mul-add w b.n (count_of (block w blocks k))) (mul-le-mul_left w l)

    pub room_here : filled + w * count_of (block w blocks k) ≤ length cycles
    room_here = omega (arith, within, b.words, b.room, fits)

    pub again : length (block w blocks k) ≡ 512 → (last : List ℕ) (r : ℕ) → r ≡ w * count_of (block w blocks k)
        → last ≡ record_words w (block w blocks k) ++ drop r (take (length cycles - filled) (drop filled cycles))
        → Before w blocks cycles₀ (take filled cycles ++ (last ++ drop (length cycles - filled) (drop filled cycles))) (k + 1) (filled + r)
    again long last r er el =
        let c = count_of (block w blocks k) in
        let size : length (record_words w (block w blocks k)) ≡ r = records_long w (block w blocks k) long (count_fits w c count_here) ∙ sym er in
        let next : all_record_words w (drop k blocks) ≡ record_words w (block w blocks k) ++ all_record_words w (drop (k + 1) blocks) = rw (add-one, drop-cons blocks k [] h) in
        let f = turn cycles cycles₀ last (record_words w (block w blocks k)) (all_record_words w (drop k blocks)) (all_record_words w (drop (k + 1) blocks))
        (all_record_words w blocks) filled r (omega (arith, room_here, er)) size el next b.fills b.rest in
        record {
          n = b.n + c;
          words = rw (er, b.words) (sym (mul-add w b.n c));
          sound = (accepted_step w blocks k b.n h (record_count blocks) b.sound).1;
          room = f.0 ∙ b.room;
          fills = f.1;
          rest = f.2;
        }
