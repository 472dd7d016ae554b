-- Words and their bytes, low byte first, and lists of zeros.
use mathlib.Core.Path.{◌≡◌, refl}
use mathlib.Core.Bool.{Bool, true, false, ◌&&◌}
use mathlib.Core.List.{List, [], ◌∷◌, ◌++◌, map}
use Prim.Native.Nat.{ℕ, zero, suc, ◌+◌, ◌*◌, ◌/◌, ◌%◌, ◌<◌}
use native.Mathlib.Omega.{arith}
use native.Mathlib.Numerals.{add-one}
use lib.Dec.{eqb}
use Rattle.std.specs.Simd.{first_chunks}
use lib.ListN.{length, take, drop, get_or, replicate}
use lib.Seq.{drop-cons, get_or-drop}
use borrow.Author.Tests.{eqb-true}
use Rattle.choice.specs.Pick.{pick}
use Rattle.choice.proofs.Spans.{never}
use Rattle.trace.specs.Layout.{words_of, bytes_of, Bytes}
use Rattle.trace.specs.Blocks.{all_zero}

-- both parts of a test that holds
pub both_hold : (a b : Bool) → pick a b false ≡ true → (a ≡ true) × (b ≡ true)
both_hold true b e = (refl, e)
both_hold false b e = absurd (never e)

pub pick_and : (a b : Bool) → pick a b false ≡ (a && b)
pick_and true b = refl
pick_and false b = refl

pub zeros : (n : ℕ) → all_zero (replicate n 0) ≡ true
zeros zero = refl
zeros (suc n) = zeros n

pub all_zeros : (l : List ℕ) → all_zero l ≡ true → l ≡ replicate (length l) 0
all_zeros [] e = refl
all_zeros (x ∷ l) e =
    let both = both_hold (eqb x 0) (all_zero l) e in
    rw (eqb-true x 0 both.0, ← all_zeros l both.1)

-- the words of bytes are those of the pairs that the code cuts them into
abbrev pub word_of : List ℕ → ℕ
word_of pair = get_or pair 0 0 + get_or pair 1 0 * 256

pub words_cut : (n : ℕ) (bytes : List ℕ) → n ≡ length bytes / 2 → map word_of (first_chunks 2 n bytes) ≡ words_of bytes
words_cut zero [] e = refl
words_cut zero (a ∷ []) e = refl
words_cut zero (a ∷ b ∷ bytes) e = absurd (omega arith)
words_cut (suc n) [] e = absurd (omega arith)
words_cut (suc n) (a ∷ []) e = absurd (omega arith)
words_cut (suc n) (a ∷ b ∷ bytes) e =
    let f : a + b * 256 ≡ a + 256 * b = omega arith in
    rw (f, words_cut n bytes (omega arith))

pub length_words : (l : List ℕ) → length (words_of l) ≡ length l / 2
length_words [] = refl
length_words (a ∷ []) = refl
length_words (a ∷ b ∷ l) = omega (arith, length_words l)

-- a turn of the loop that puts words into bytes
pub bytes_step : (words : List ℕ) (i : ℕ) → i < length words → get_or words i 0 < 65536
    → bytes_of (drop i words) ≡ (get_or words i 0 % 256 ∷ get_or words i 0 / 256 % 256 ∷ []) ++ bytes_of (drop (i + 1) words)
bytes_step words i h g =
    let f : get_or words i 0 / 256 % 256 ≡ get_or words i 0 / 256 = omega arith in
    rw (f, add-one i, drop-cons words i 0 h)

pub length_bytes : (l : List ℕ) → length (bytes_of l) ≡ 2 * length l
length_bytes [] = refl
length_bytes (x ∷ l) = omega (arith, length_bytes l)

-- words to bytes and back, and bytes to words and back
pub words_bytes : (l : List ℕ) → words_of (bytes_of l) ≡ l
words_bytes [] = refl
words_bytes (x ∷ l) =
    let e : x % 256 + 256 * (x / 256) ≡ x = omega arith in
    rw (e, words_bytes l)

pub bytes_take : (n : ℕ) (l : List ℕ) → Bytes l → Bytes (take n l)
bytes_take zero l h i = omega arith
bytes_take (suc n) [] h i = omega arith
bytes_take (suc n) (x ∷ l) h zero = h 0
bytes_take (suc n) (x ∷ l) h (suc i) = bytes_take n l (λ j. h (suc j)) i

pub bytes_drop : (n : ℕ) (l : List ℕ) → Bytes l → Bytes (drop n l)
bytes_drop n l h i = rw get_or-drop (h (n + i))

pub bytes_words : (l : List ℕ) → length l % 2 ≡ 0 → Bytes l → bytes_of (words_of l) ≡ l
bytes_words [] e h = refl
bytes_words (a ∷ []) e h = absurd (omega arith)
bytes_words (a ∷ b ∷ l) e h =
    let p : a < 256 = h 0 in
    let low : (a + 256 * b) % 256 ≡ a = omega arith in
    let high : (a + 256 * b) / 256 ≡ b = omega arith in
    rw (low, high, bytes_words l (omega arith) (λ i. h (suc (suc i))))

pub none_left : (l : List ℕ) → length l ≡ 0 → l ≡ []
none_left [] e = refl
none_left (x ∷ l) e = absurd (omega arith)
