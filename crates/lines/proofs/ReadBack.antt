-- The text of cycle words is read as those words.
-- The law: `text_read`.
use mathlib.Core.Path.{◌≡◌, sym, ap, ◌∙◌}
use mathlib.Core.Bool.{Bool, true, false}
use Rattle.std.specs.Prelude.{Option, Some, None}
use mathlib.Core.List.{List, [], ◌∷◌, ◌++◌, append_assoc}
use Prim.Native.Nat.{ℕ, zero, suc, ◌+◌, ◌-◌, ◌*◌, ◌/◌, ◌≤◌, ◌<◌}
use native.Mathlib.Omega.{arith}
use lib.Dec.{eqb, ltb}
use lib.ListN.{length, set, take, drop, length-set, length-drop, take-append-drop, drop_of_length-le}
use lib.Seq.{sets, sets-eq, length-take-le, length-sets, drop-drop}
use borrow.Author.Tests.{eqb-true, lt-ltb}
use Rattle.choice.specs.Text.{newline, blank, digit, hex}
use Rattle.choice.proofs.Spans.{holds, below}
use Rattle.choice.proofs.Picks.{picked}
use Rattle.text.specs.declared.Place.TheVariants.{Between, After}
use Rattle.text.specs.Bytes.{digit_value}
use Rattle.text.specs.Lines.{words_per_line}
use Rattle.text.specs.Taking.{start_of, one_more, stops_at, take_from, reader}
use Rattle.text.proofs.Reading.{word_read, blank_read, feed_read}
use Rattle.lines.specs.Words.{words_text, words_line, text_from, text_of, AllWords, all_read, lines_after}

-- a digit is read as what it stands for
worth : Option ℕ → ℕ → Bool
worth (Some v) k = eqb v k
worth None k = false

worth_it : (found : Option ℕ) (k : ℕ) → worth found k ≡ true → found ≡ Some k
unfolding worth
worth_it (Some v) k e = ap Some (eqb-true v k e)
worth_it None k e = absurd (cc)

digit_read : (d : ℕ) → d < 16 → digit_value (digit d) ≡ Some d
unfolding digit_value worth
digit_read d h = worth_it (digit_value (digit d)) d (holds _ (below (λ (k : ℕ). worth (digit_value (digit k)) k) 16 d tt h))

hex_read : (x : ℕ) → x < 65536 → (i l c w k f : ℕ) (rest words : List ℕ) → w < words_per_line → k < length words
    → take_from i (reader l c w Between k f) (hex 4 x ++ rest) words
    ≡ take_from (suc (suc (suc (suc i)))) (reader l (one_more (one_more (one_more (one_more c)))) (w + 1) After (k + 1) f) rest (set words k x)
unfolding hex
hex_read x h i l c w k f rest words =
    word_read x _ _ _ _ h (digit_read _ (omega arith)) (digit_read _ (omega arith)) (digit_read _ (omega arith)) (digit_read _ (omega arith)) i l c w k f rest words

-- a line's words from any of them on: each is kept, and the line is over after the last
line_read : (line : List ℕ) → AllWords line → (i l c w k f : ℕ) (rest words : List ℕ) → 0 < length line → w + length line ≡ words_per_line → k + length line ≤ length words
    → take_from i (reader l c w Between k f) (words_text line ++ rest) words
    ≡ take_from (i + 5 * length line) (reader (one_more l) 1 0 Between (k + length line) f) rest (sets words k line)
line_read [] a i l c w k f rest words z e h = absurd (omega arith)
line_read (x ∷ []) a i l c w k f rest words z e h =
    let last : w + 1 ≡ words_per_line = omega arith in
    let five : i + 5 ≡ suc (suc (suc (suc (suc i)))) = omega arith in
    ap (λ (t : List ℕ). take_from i (reader l c w Between k f) t words) (append_assoc (hex 4 x ++ newline ∷ []) [] rest ∙ append_assoc (hex 4 x) (newline ∷ []) rest)
    ∙ hex_read x a.0 i l c w k f (newline ∷ rest) words (omega arith) (omega arith)
    ∙ rw (last, five) (feed_read (suc (suc (suc (suc i)))) l _ (k + 1) f rest (set words k x))
line_read (x ∷ y ∷ line) a i l c w k f rest words z e h =
    let index : suc (suc (suc (suc (suc i)))) + 5 * suc (length line) ≡ i + 5 * suc (suc (length line)) = omega arith in
    let found : k + 1 + suc (length line) ≡ k + suc (suc (length line)) = omega arith in
    let room : k + 1 + suc (length line) ≤ length (set words k x) = rw (length-set words k x) (omega arith) in
    let next : k + 1 ≡ suc k = omega arith in
    ap (λ (t : List ℕ). take_from i (reader l c w Between k f) t words)
    (append_assoc (hex 4 x ++ blank ∷ []) (words_text (y ∷ line)) rest ∙ append_assoc (hex 4 x) (blank ∷ []) (words_text (y ∷ line) ++ rest))
    ∙ hex_read x a.0 i l c w k f (blank ∷ (words_text (y ∷ line) ++ rest)) words (omega arith) (omega arith)
    ∙ blank_read (suc (suc (suc (suc i)))) l _ (w + 1) (k + 1) f (words_text (y ∷ line) ++ rest) (set words k x)
    ∙ line_read (y ∷ line) a.1 (suc (suc (suc (suc (suc i))))) l _ (w + 1) (k + 1) f rest (set words k x) (omega arith) (omega arith) room
    ∙ rw (index, found, next)

take_words : (n : ℕ) (words : List ℕ) → AllWords words → AllWords (take n words)
take_words zero words a = tt
take_words (suc n) [] a = tt
take_words (suc n) (x ∷ words) a = (a.0, take_words n words a.1)

drop_words : (n : ℕ) (words : List ℕ) → AllWords words → AllWords (drop n words)
drop_words zero words a = a
drop_words (suc n) [] a = tt
drop_words (suc n) (x ∷ words) a = drop_words n words a.1

-- a list and then another, written in its place
sets_both : (a b l : List ℕ) (i k : ℕ) → k ≡ i + length a → sets (sets l i a) k b ≡ sets l i (a ++ b)
sets_both [] b l i k e =
    let same : k ≡ i = omega arith in
    rw same
sets_both (x ∷ a) b l i k e = sets_both a b (set l i x) (suc i) k (omega arith)

line_here : (all : List ℕ) (i : ℕ) → i < length all / words_per_line → words_line all i ≡ words_text (take words_per_line (drop (words_per_line * i) all))
unfolding words_line
line_here all i h = picked (ltb i (length all / words_per_line)) (words_text (take words_per_line (drop (words_per_line * i) all))) [] (lt-ltb i (length all / words_per_line) h)

-- the lines of some cycles, one after another
lines_read : (n i : ℕ) (all : List ℕ) → AllWords all → (j l f : ℕ) (words : List ℕ) → words_per_line * (i + n) ≡ length all → length all ≤ length words
    → take_from j (reader l 1 0 Between (words_per_line * i) f) (text_from all i n) words
    ≡ stops_at (reader (lines_after n l) 1 0 Between (length all) f) (j + 5 * words_per_line * n) None (sets words (words_per_line * i) (drop (words_per_line * i) all))
unfolding take_from
lines_read zero i all a j l f words e h =
    let over : length all ≤ words_per_line * i = omega arith in
    let none : drop (words_per_line * i) all ≡ [] = drop_of_length-le all over in
    let index : j + 0 ≡ j = omega arith in
    let found : words_per_line * i ≡ length all = omega arith in
    rw (none, index, found)
lines_read (suc n) i all a j l f words e h =
    let here = drop (words_per_line * i) all in
    let line = take words_per_line here in
    let long : length here ≡ length all - words_per_line * i = length-drop (words_per_line * i) all in
    let size : length line ≡ words_per_line = length-take-le words_per_line here (omega (arith, long)) in
    let index : j + 5 * length line + 5 * words_per_line * n ≡ j + 5 * words_per_line * suc n = omega (arith, size) in
    let found : words_per_line * i + length line ≡ words_per_line * suc i = omega (arith, size) in
    let on : words_per_line * suc i ≡ words_per_line * i + words_per_line = omega arith in
    let after : drop (words_per_line * suc i) all ≡ drop words_per_line here =
    ap (λ (k : ℕ). drop k all) on ∙ sym (drop-drop words_per_line (words_per_line * i) all) in
    let both : sets (sets words (words_per_line * i) line) (words_per_line * suc i) (drop (words_per_line * suc i) all) ≡ sets words (words_per_line * i) here =
    ap (sets (sets words (words_per_line * i) line) (words_per_line * suc i)) after
    ∙ sets_both line (drop words_per_line here) words (words_per_line * i) (words_per_line * suc i) (omega (arith, size))
    ∙ ap (sets words (words_per_line * i)) (take-append-drop words_per_line here) in
    let room : length all ≤ length (sets words (words_per_line * i) line) = rw (length-sets words (words_per_line * i) line) h in
    ap (λ (t : List ℕ). take_from j (reader l 1 0 Between (words_per_line * i) f) (t ++ text_from all (suc i) n) words) (line_here all i (omega arith))
    ∙ line_read line (take_words words_per_line here (drop_words (words_per_line * i) all a)) j l 1 0 (words_per_line * i) f (text_from all (suc i) n) words (omega (arith, size)) (omega (arith, size)) (omega (arith, size))
    ∙ ap (λ (k : ℕ). take_from (j + 5 * length line) (reader (one_more l) 1 0 Between k f) (text_from all (suc i) n) (sets words (words_per_line * i) line)) found
    ∙ lines_read n (suc i) all a (j + 5 * length line) (one_more l) f (sets words (words_per_line * i) line) (omega arith) room
    ∙ rw (index, both)

pub text_read : (all words : List ℕ) → AllWords all → words_per_line * (length all / words_per_line) ≡ length all → length all ≤ length words
    → take_from 0 start_of (text_of all) words ≡ all_read all words
text_read all words a e h =
    let index : 0 + 5 * words_per_line * (length all / words_per_line) ≡ 5 * words_per_line * (length all / words_per_line) = omega arith in
    let size : 0 + length all ≡ length all = omega arith in
    let filled : sets words 0 all ≡ all ++ drop (length all) words = sets-eq all words 0 (omega arith) ∙ ap (λ (k : ℕ). all ++ drop k words) size in
    lines_read (length all / words_per_line) 0 all a 0 1 0 words (omega (arith, e)) h ∙ rw (index, filled)
