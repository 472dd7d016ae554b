-- The two round trips: what the writer makes the reader gives back, and what the reader accepts the writer makes again.
-- The laws, in this order: `read_made`, `made_read`, `three_words`, `four_words`, `written_read`, `read_written`.
use mathlib.Core.Path.{◌≡◌, refl, sym, ap, subst, ◌∙◌}
use mathlib.Core.List.{List, ◌++◌}
use Prim.Native.Nat.{ℕ, ◌*◌, ◌/◌, ◌%◌, ◌≤◌, ◌<◌}
use native.Mathlib.Omega.{arith}
use native.Mathlib.Nat.{mod-add-div, mul-le-mul_left, mul-mod_right, mul-div_cancel_left}
use lib.ListN.{length, take, drop}
use lib.Seq.{take_at}
use Rattle.choice.specs.Tells.{Placed, accepted_whole}
use Rattle.std.specs.Prelude.{Result, Ok}
use Rattle.refusals.specs.declared.Refused.{Refused}
use Rattle.trace.specs.Layout.{block_bytes, full_count, Bytes}
use Rattle.trace.specs.Answers.{leaves}
use Rattle.run.specs.Runs.{most_cycles}
use Rattle.trace.specs.Limits.{blocks_for, most_blocks}
use Rattle.trace.specs.Reading.{blocks_of, trace_blocks, record_count, read_words, read_of, Reads}
use Rattle.trace.specs.Writing.{blocks_from, trace_of, write_of, Writes}
use Rattle.trace.proofs.Answered.{judgement, read_done, write_done, write_says, read_says}
use Rattle.trace.proofs.Round.{made_trace_long, made_blocks, round}
use Rattle.trace.proofs.Back.{back}
use Rattle.trace.proofs.Unique.{filled_one}

whole_times : (w x : ℕ) → x % w ≡ 0 → w * (x / w) ≡ x
whole_times w x e = omega (arith, mod-add-div x w)

-- over the words of a record, where whole records fill a block
module _ (w : ℕ) (pos : 0 < w) (full : w * full_count w ≡ 252) where
  -- a made trace is read, and gives back all the words
  pub read_made : (words : List ℕ) (room : ℕ) → length words % w ≡ 0 → length words / w ≤ most_cycles → length words ≤ room
      → (read_of w (trace_of w words) room ≡ accepted_whole (length words)) × (read_words w (trace_of w words) ≡ words)
  read_made words room whole few enough =
      let n = length words / w in
      let m = blocks_for (length words) in
      let t = trace_of w words in
      let all : w * n ≡ length words = whole_times w (length words) whole in
      let most : length words ≤ w * most_cycles = subst (λ (x : ℕ). x ≤ w * most_cycles) all (mul-le-mul_left w few) in
      let r = round w pos full m 0 n words (sym all) (omega arith) (omega arith) in
      let long : length t ≡ m * 512 = made_trace_long w m 0 words in
      let count : length t / block_bytes ≡ m = omega arith in
      let blocks : trace_blocks t ≡ blocks_from w m 0 words = ap (λ (j : ℕ). blocks_of j t) count ∙ made_blocks w m 0 words in
      let sound : judgement w t ≡ accepted_whole n = rw blocks (r.sound 0 (accepted_whole (record_count (blocks_from w m 0 words))) ∙ ap accepted_whole r.count) in (
        sym (read_done w t room (omega arith) (rw count (omega arith)) n sound few (omega (arith, all))) ∙ ap accepted_whole all,
        rw blocks r.same,
      )

  -- an accepted trace is made again of its words
  pub made_read : (t : List ℕ) (room y room' : ℕ) → read_of w t room ≡ accepted_whole y → Bytes t → length t ≤ room'
      → (length (read_words w t) ≡ y) × (write_of w y room' ≡ accepted_whole (length t)) × (trace_of w (read_words w t) ≡ t)
  made_read t room y room' e bytes enough =
      let says = read_says w t room y e in
      let n = record_count (trace_blocks t) in
      let m = length t / block_bytes in
      let b = back w pos full m 0 0 0 0 t (says.sound (accepted_whole 0)) (omega (arith, says.even)) bytes in
      let long : length (read_words w t) ≡ y = b.long ∙ says.words in
      let blocks : blocks_for (length (read_words w t)) ≡ m = omega (arith, b.most, b.least) in
      let size : blocks_for y * block_bytes ≡ length t = rw (← long, blocks) (omega (arith, says.even)) in
      let whole : y % w ≡ 0 = rw (← says.words) (mul-mod_right w n) in
      let few : y / w ≤ most_cycles = rw (← says.words, mul-div_cancel_left n pos) says.few in
      (long, sym (write_done w y room' whole few (omega (arith, size, enough))) ∙ ap accepted_whole size, rw blocks b.same)

-- the form of document 01, and the one with a fourth word that is to come
pub three_words : (3 * full_count 3 ≡ 252) × (full_count 3 ≡ 84) × (most_blocks 3 ≡ 49)
three_words = (refl, refl, refl)

pub four_words : (4 * full_count 4 ≡ 252) × (full_count 4 ≡ 63) × (most_blocks 4 ≡ 66)
four_words = (refl, refl, refl)

pub left_by : (answer : Placed ℕ) (n : ℕ) (made before after : List ℕ) → answer ≡ accepted_whole n → after ≡ leaves answer made before → after ≡ made ++ drop n before
left_by answer n made before after e f = f ∙ ap (λ (a : Placed ℕ). leaves a made before) e

-- what `write` makes, `read` gives back: all of it
pub written_read : (words : List ℕ) (n : ℕ) (trace trace' : List ℕ) → Writes words (Ok n) trace trace'
    → (r : Result ℕ Refused) (cycles cycles' : List ℕ) → Reads (take n trace') r cycles cycles' → length words ≤ length cycles
    → (r ≡ Ok (length words)) × (cycles' ≡ words ++ drop (length words) cycles)
written_read words n trace trace' w r cycles cycles' f enough =
    let says = write_says 3 (length words) (length trace) n (sym w.told) in
    let long : length (trace_of 3 words) ≡ n = made_trace_long 3 (blocks_for (length words)) 0 words ∙ says.3 in
    let filled : take n trace' ≡ trace_of 3 words =
    ap (take n) (left_by (write_of 3 (length words) (length trace)) n (trace_of 3 words) trace trace' (sym w.told) w.written) ∙ take_at (trace_of 3 words) (drop n trace) n long in
    let back = read_made 3 (omega arith) three_words.0 words (length cycles) says.0 says.1 enough in
    let answer : read_of 3 (take n trace') (length cycles) ≡ accepted_whole (length words) = ap (λ (t : List ℕ). read_of 3 t (length cycles)) filled ∙ back.0 in
    let given : read_words 3 (take n trace') ≡ words = ap (read_words 3) filled ∙ back.1 in (
      filled_one r (Ok (length words)) (f.told ∙ answer),
      left_by (read_of 3 (take n trace') (length cycles)) (length words) (read_words 3 (take n trace')) cycles cycles' answer f.written
          ∙ ap (λ (l : List ℕ). l ++ drop (length words) cycles) given,
    )

-- what `read` accepts, `write` makes again: byte for byte
pub read_written : (t : List ℕ) (n : ℕ) (cycles cycles' : List ℕ) → Bytes t → Reads t (Ok n) cycles cycles'
    → (r : Result ℕ Refused) (trace trace' : List ℕ) → Writes (take n cycles') r trace trace' → length t ≤ length trace
    → (r ≡ Ok (length t)) × (trace' ≡ t ++ drop (length t) trace)
read_written t n cycles cycles' bytes f r trace trace' w enough =
    let again = made_read 3 (omega arith) three_words.0 t (length cycles) n (length trace) (sym f.told) bytes enough in
    let filled : take n cycles' ≡ read_words 3 t =
    ap (take n) (left_by (read_of 3 t (length cycles)) n (read_words 3 t) cycles cycles' (sym f.told) f.written) ∙ take_at (read_words 3 t) (drop n cycles) n again.0 in
    let answer : write_of 3 (length (take n cycles')) (length trace) ≡ accepted_whole (length t) =
    ap (λ (l : List ℕ). write_of 3 (length l) (length trace)) filled ∙ ap (λ (x : ℕ). write_of 3 x (length trace)) again.0 ∙ again.1 in
    let made : trace_of 3 (take n cycles') ≡ t = ap (trace_of 3) filled ∙ again.2 in (
      filled_one r (Ok (length t)) (w.told ∙ answer),
      left_by (write_of 3 (length (take n cycles')) (length trace)) (length t) (trace_of 3 (take n cycles')) trace trace' answer w.written
          ∙ ap (λ (l : List ℕ). l ++ drop (length t) trace) made,
    )
