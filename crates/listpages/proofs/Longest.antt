-- No listing is longer than the room for it, nor are the answers to a piece.
-- The laws, in this order: `list_fits`, `answers_fit`.
use mathlib.Core.Path.{◌≡◌, refl, ap}
use mathlib.Core.Bool.{Bool, true, false}
use mathlib.Core.List.{List, [], ◌∷◌, ◌++◌}
use mathlib.Core.Option.{Option, none, some}
use Prim.Native.Nat.{ℕ, zero, suc, ◌+◌, ◌*◌, ◌≤◌}
use native.Mathlib.Omega.{arith}
use lib.ListN.{length, length-append}
use Rattle.choice.specs.Text.{newline, hex}
use Rattle.run.specs.Splitting.{cycles_in}
use Rattle.run.specs.Runs.{most_cycles}
use Rattle.trace.specs.Layout.{words_per_record}
use Rattle.lines.specs.Lines.{word_refused_line, refused_line}
use Rattle.lines.proofs.Longest.{word_refused_line_le, refused_line_le}
use Rattle.listing.specs.Lines.{line_of}
use Rattle.listing.proofs.Hex.{data_long}
use Rattle.listing.proofs.Single.{line_short}
use Rattle.listpages.specs.declared.Reading.{Reading}
use Rattle.listpages.specs.Entries.{instruction_line, entry_line, waits_after, line_tells, answer_line}
use Rattle.listpages.specs.Listing.{line_words_from, line_words, list_text}
use Rattle.listpages.specs.Answering.{lines_of, after_line, answer_to, answers_of}
use Rattle.listpages.proofs.Walks.{text_le}
use Rattle.listpages.proofs.Lined.{lines_le}
use Rattle.listpages.proofs.Entered.{line_told}

hex_line_le : (w : ℕ) → length (hex 4 w ++ newline ∷ []) ≤ 29
hex_line_le w = rw (length-append (hex 4 w) (newline ∷ [])) (omega (arith, data_long w))

instruction_line_le : (w : ℕ) → length (instruction_line (line_of w)) ≤ 29
instruction_line_le w = by_value (line_of w).value refl
  where
    by_value : (o : Option (List ℕ)) → (line_of w).value ≡ o
        → length {A = ℕ} (elim o as (λ (z : Option (List ℕ)). List ℕ) [ some line ↦ line ++ newline ∷ [] | none ↦ word_refused_line (line_of w).number ]) ≤ 29
    by_value none q = word_refused_line_le (line_of w).number
    by_value (some t) q = rw (length-append t (newline ∷ [])) (omega (arith, line_short w t (line_told w t q)))

entry_line_le : (waits : Bool) (w : ℕ) → length (entry_line waits w) ≤ 29
unfolding entry_line
entry_line_le true w = hex_line_le w
entry_line_le false w = instruction_line_le w

words_long : (words : List ℕ) (i n : ℕ) → length (line_words_from words i n) ≡ n
words_long words i zero = refl
words_long words i (suc n) = ap suc (words_long words (i + 1) n)

-- no listing of at most 4,096 cycles is longer than `LIST_BYTES`
pub list_fits : (words : List ℕ) → length words ≤ words_per_record * most_cycles → length (list_text words) ≤ 118784
unfolding list_text
list_fits words h =
    omega (arith, text_le entry_line waits_after 29 entry_line_le false (line_words words), words_long words 0 (cycles_in (length words)))

answer_line_le : (waits : Bool) (line : List ℕ) → length (answer_line waits line) ≤ 53
unfolding answer_line
answer_line_le waits line = by_value (line_tells waits line).told.value
  where
    by_value : (o : Option ℕ)
        → length {A = ℕ} (elim o as (λ (z : Option ℕ). List ℕ) [ some w ↦ hex 4 w ++ newline ∷ [] | none ↦ refused_line (line_tells waits line).told.number (line_tells waits line).index ]) ≤ 53
    by_value none = refused_line_le (line_tells waits line).told.number (line_tells waits line).index
    by_value (some w) = omega (arith, hex_line_le w)

-- nor are the answers to at most 4,096 bytes longer than `ANSWER_BYTES`
pub answers_fit : (s : Reading) (bytes : List ℕ) → length bytes ≤ 4096 → length (answers_of s (lines_of bytes)) ≤ 217088
unfolding answers_of
answers_fit s bytes h =
    omega (arith, text_le answer_to after_line 53 (λ s line. answer_line_le s.waits line) s (lines_of bytes), lines_le bytes)
