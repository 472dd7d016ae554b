-- What is kept of an input that was taken in parts.
use Rattle.std.specs.Prelude.{Option}
use Rattle.std.proofs.Common.{◌≡◌, ℕ, ◌+◌, ◌%◌, ◌≤◌, ◌<◌, Bool, true, false, List, ◌++◌, length, take, None, Some, IfSome, refl, sym, ap, ◌∙◌, subst, arith, append-nil, length-append, length-take-le}
use Rattle.std.specs.Io.KnownBytes.{Consumes, IsAtEnd}
use lib.Dec.{ltb}
use borrow.Author.Tests.{ltb-true, ltb-false}
use Rattle.trace.specs.Layout.{words_per_record, block_bytes}
use Rattle.trace.specs.Limits.{too_long, kept_length}
use Rattle.trace.proofs.Long.{kept_short, kept_long, kept_more}
use Rattle.files.specs.Keeping.{IsKeptOf}

-- so many bytes more are counted onto what is kept
pub counted_more : (first n k k' : ℕ) (taken chunk : List ℕ) → n ≤ length chunk → k ≡ kept_length words_per_record (first + length taken) → k' ≡ kept_length words_per_record (k + n)
    → k' ≡ kept_length words_per_record (first + length (taken ++ take n chunk))
counted_more first n k k' taken chunk fits e e' =
    let longer : length (taken ++ take n chunk) ≡ length taken + n = length-append taken (take n chunk) ∙ ap (λ m. length taken + m) (length-take-le n chunk fits) in
    let all : first + length taken + n ≡ first + length (taken ++ take n chunk) = omega arith in
    e' ∙ ap (λ m. kept_length words_per_record (m + n)) e ∙ kept_more words_per_record (first + length taken) n ∙ ap (kept_length words_per_record) all

-- what was taken of a reader that is at its end is all that it had
pub all_taken : (a b : Option (List ℕ)) (taken : List ℕ) (P : List ℕ → Type 0) → Consumes a b taken → IsAtEnd b → P taken → IfSome a P
all_taken None b taken P e q p = tt
all_taken (Some x) None taken P e q p = absurd e
all_taken (Some x) (Some y) taken P e q p = subst P (sym (e ∙ ap (λ l. taken ++ l) q ∙ append-nil taken)) p

-- an input that has room is kept as long as it is
pub kept_within : (n : ℕ) → n < too_long words_per_record + block_bytes → n ≡ kept_length words_per_record n
kept_within n h = by_test (ltb n (too_long words_per_record)) refl
  where
    by_test : (b : Bool) → ltb n (too_long words_per_record) ≡ b → n ≡ kept_length words_per_record n
    by_test true q = kept_short words_per_record n (ltb-true n (too_long words_per_record) q)
    by_test false q =
        let long : too_long words_per_record ≤ n = ltb-false n (too_long words_per_record) q in
        let same : n ≡ too_long words_per_record + n % block_bytes = omega arith in
        same ∙ kept_long words_per_record n long

-- an input of which the front filled the room, with the rest of it counted
pub rest_counted : (a b : Option (List ℕ)) (front kept : List ℕ) (k : ℕ) → Consumes a b front → length front ≡ too_long words_per_record + block_bytes → length kept ≡ k
    → IfSome b (λ ys. k ≡ kept_length words_per_record (too_long words_per_record + block_bytes + length ys)) → IfSome a (λ xs. IsKeptOf xs kept)
rest_counted None b front kept k e full size counted = tt
rest_counted (Some x) None front kept k e full size counted = absurd e
rest_counted (Some x) (Some y) front kept k e full size counted =
    let long : length x ≡ length front + length y = ap length e ∙ length-append front y in
    let all : too_long words_per_record + block_bytes + length y ≡ length x = omega arith in
    record {
      size = size ∙ counted ∙ ap (kept_length words_per_record) all;
      short = λ h. absurd (omega arith);
    }
