-- A trace as text: unpacked and packed again it is the same trace. The text is what `words_line` makes of the words that were read, line by
-- line; reading, taking and writing are the calls' own answers.
-- The law: `unpacked_and_packed`.
use mathlib.Core.Path.{◌≡◌, refl, sym, ap, subst, ◌∙◌}
use mathlib.Core.List.{List, [], ◌∷◌, ◌++◌}
use Prim.Native.Nat.{ℕ, zero, suc, ◌-◌, ◌*◌, ◌/◌, ◌≤◌}
use native.Mathlib.Omega.{arith}
use lib.ListN.{length, take, drop}
use lib.Seq.{take_at}
use Rattle.choice.specs.Tells.{accepted_whole}
use Rattle.std.specs.Prelude.{Result, Ok, None}
use Rattle.refusals.specs.declared.Refused.{Refused}
use Rattle.text.specs.declared.Taken.{Taken}
use Rattle.text.specs.Lines.{words_per_line}
use Rattle.text.specs.Taking.{start_of, Took, take_from}
use Rattle.trace.specs.Answers.{filled_tells}
use Rattle.trace.specs.Layout.{block_bytes, records_at, part, words_of, Bytes}
use Rattle.trace.specs.Blocks.{count_of, records_end, record_words}
use Rattle.trace.specs.Reading.{blocks_of, all_record_words, read_of, read_words}
use Rattle.trace.proofs.Words.{bytes_take, bytes_drop}
use Rattle.trace.proofs.Answered.{read_says}
use Rattle.trace.proofs.Trips.{left_by, made_read}
use Rattle.lines.specs.Words.{text_of, AllWords, all_read}
use Rattle.lines.proofs.ReadBack.{text_read}
use Rattle.demands.specs.Calls.{Filling, TakesText, ReadsTrace, WritesTrace}
use Rattle.demands.proofs.Conversions.{trace_there_and_back}

-- words of two bytes have 16 bits
words_small : (l : List ℕ) → Bytes l → AllWords (words_of l)
words_small [] h = tt
words_small (a ∷ []) h = tt
words_small (a ∷ b ∷ l) h = (omega (arith, h 0, h 1), words_small l (λ i. h (suc (suc i))))

small_both : (a b : List ℕ) → AllWords a → AllWords b → AllWords (a ++ b)
small_both [] b p q = q
small_both (x ∷ a) b p q = (p.0, small_both a b p.1 q)

record_small : (block : List ℕ) → Bytes block → AllWords (record_words 3 block)
unfolding record_words
record_small block h =
    words_small (part records_at (records_end 3 (count_of block)) block)
    (bytes_take (records_end 3 (count_of block) - records_at) (drop records_at block) (bytes_drop records_at block h))

blocks_small : (m : ℕ) (t : List ℕ) → Bytes t → AllWords (all_record_words 3 (blocks_of m t))
blocks_small zero t h = tt
blocks_small (suc m) t h =
    small_both (record_words 3 (take block_bytes t)) (all_record_words 3 (blocks_of m (drop block_bytes t)))
    (record_small (take block_bytes t) (bytes_take block_bytes t h))
    (blocks_small m (drop block_bytes t) (bytes_drop block_bytes t h))

module _ (t lent : List ℕ) (n : ℕ) (o : Filling (Result ℕ Refused)) (bytes : Bytes t) (reads : ReadsTrace (t, lent) o) (e : o.answer ≡ Ok n) where
  -- the words that were read: as many as the answer says, and whole lines of them
  abbrev cycles : List ℕ
  cycles = take n o.after

  told : read_of 3 t (length lent) ≡ accepted_whole n
  told = sym reads.told ∙ ap filled_tells e

  long : length (read_words 3 t) ≡ n
  long = (made_read 3 (omega arith) refl t (length lent) n (length t) told bytes (omega arith)).0

  same : cycles ≡ read_words 3 t
  same = ap (take n) (left_by (read_of 3 t (length lent)) n (read_words 3 t) lent o.after told reads.written) ∙ take_at (read_words 3 t) (drop n lent) n long

  size : length cycles ≡ n
  size = ap length same ∙ long

  small : AllWords cycles
  small = subst AllWords (sym same) (blocks_small (length t / block_bytes) t bytes)

  whole : words_per_line * (length cycles / words_per_line) ≡ length cycles
  whole = omega (arith, size, (read_says 3 t (length lent) n told).words)

  -- their text, taken: no fault, and every word found in its place
  module _ (words : List ℕ) (p : Filling Taken) (takes : TakesText (start_of, text_of cycles, words) p) (room : n ≤ length words) where
    read : take_from 0 start_of (text_of cycles) words ≡ all_read cycles words
    read = text_read cycles words small whole (omega (arith, size))

    answered : p.answer ≡ (all_read cycles words).taken
    answered = takes.taken ∙ ap (λ (k : Took). k.taken) read

    found : p.answer.reader.found ≡ length cycles
    found = ap (λ (k : Taken). k.reader.found) answered

    same_words : take p.answer.reader.found p.after ≡ cycles
    same_words =
        ap (λ (k : ℕ). take k p.after) found
        ∙ ap (take (length cycles)) (takes.written ∙ ap (λ (k : Took). k.words) read)
        ∙ take_at cycles (drop (length cycles) words) (length cycles) refl

    -- and written: the bytes of the trace
    pub unpacked_and_packed : (trace : List ℕ) (q : Filling (Result ℕ Refused)) → WritesTrace (take p.answer.reader.found p.after, trace) q → length t ≤ length trace
        → (p.answer.fault ≡ None) × (p.answer.reader.faults ≡ 0) × (q.answer ≡ Ok (length t)) × (q.after ≡ t ++ drop (length t) trace)
    unpacked_and_packed trace q w h =
        let again = trace_there_and_back t lent n o bytes reads e trace q (subst (λ (l : List ℕ). WritesTrace (l, trace) q) same_words w) h in
        (ap (λ (k : Taken). k.fault) answered, ap (λ (k : Taken). k.reader.faults) answered, again.0, again.1)
