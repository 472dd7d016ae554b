-- Each call's outcome is determined by its statement, and a text may come in pieces.
-- The laws, in this order: `start_unique`, `take_unique`, `take_some`, `left_some`, `in_pieces`, `two_calls`.
use mathlib.Core.Path.{◌≡◌, refl, sym, ap, ◌∙◌}
use Rattle.std.specs.Prelude.{Option, Some, None}
use mathlib.Core.List.{List, [], ◌∷◌, ◌++◌}
use Prim.Native.Nat.{ℕ, suc, ◌+◌, ◌-◌, ◌≤◌, ◌<◌}
use native.Mathlib.Omega.{arith}
use lib.ListN.{length, take, drop, length-take, length-drop}
use Rattle.text.specs.declared.Expected.{Expected}
use Rattle.text.specs.declared.Met.{Met}
use Rattle.text.specs.declared.Reader.{Reader}
use Rattle.text.specs.declared.Fault.{Fault}
use Rattle.text.specs.declared.Taken.{Taken}
use Rattle.text.specs.Taking.{start_of, passed, kept_word, with_word, with_fault, fault_at, Took, stops_at, move_at, met_by, take_from, Takes, goes_on}

pub start_unique : (r q : Reader) → r ≡ start_of → q ≡ start_of → r ≡ q
start_unique r q e f = e ∙ sym f

pub take_unique : (s : Reader) (text : List ℕ) (r q : Taken) (before after left : List ℕ) → Takes s text r before after → Takes s text q before left
    → (r ≡ q) × (after ≡ left)
take_unique s text r q before after left t u = (t.taken ∙ sym u.taken, t.written ∙ sym u.written)

-- what holds of each of the three outcomes of a byte holds of its outcome, and so of two outcomes beside each other
pub met_all : {A : Type 0} (P : A → Type 0) (x : Met) (a : A) (w : ℕ → A) (f : Expected → A) → P a → ((y : ℕ) → P (w y)) → ((e : Expected) → P (f e)) → P (met_by x a w f)
met_all P Met.Nothing a w f p q r = p
met_all P (Met.Word y) a w f p q r = q y
met_all P (Met.Fault e) a w f p q r = r e

pub met_both : {A B : Type 0} (R : A → B → Type 0) (x : Met) (a : A) (w : ℕ → A) (f : Expected → A) (b : B) (v : ℕ → B) (g : Expected → B)
    → R a b → ((y : ℕ) → R (w y) (v y)) → ((e : Expected) → R (f e) (g e)) → R (met_by x a w f) (met_by x b v g)
met_both R Met.Nothing a w f b v g p q r = p
met_both R (Met.Word y) a w f b v g p q r = q y
met_both R (Met.Fault e) a w f b v g p q r = r e

-- of a piece that is not empty at least one byte is taken, and no more than it has
bytes_by : (x : Met) (i n : ℕ) (a : Took) (w : ℕ → Took) (f : Expected → Took) → (suc i ≤ a.taken.bytes) × (a.taken.bytes ≤ n)
    → ((y : ℕ) → (suc i ≤ (w y).taken.bytes) × ((w y).taken.bytes ≤ n)) → ((e : Expected) → (suc i ≤ (f e).taken.bytes) × ((f e).taken.bytes ≤ n))
    → (suc i ≤ (met_by x a w f).taken.bytes) × ((met_by x a w f).taken.bytes ≤ n)
bytes_by Met.Nothing i n a w f p q r = p
bytes_by (Met.Word y) i n a w f p q r = q y
bytes_by (Met.Fault e) i n a w f p q r = r e

pub some_bytes : (i : ℕ) (s : Reader) (text words : List ℕ) → (i ≤ (take_from i s text words).taken.bytes) × ((take_from i s text words).taken.bytes ≤ i + length text)
    × (0 < length text → suc i ≤ (take_from i s text words).taken.bytes)
unfolding take_from
some_bytes i s [] words = (omega arith, omega arith, λ z. absurd (omega arith))
some_bytes i s (b ∷ text) words =
    let next = passed s (move_at s b) b in
    let on = some_bytes (suc i) next text words in
    let both =
    bytes_by (move_at s b).met i (i + suc (length text))
    (take_from (suc i) next text words)
    (λ y. take_from (suc i) (with_word next (length words)) text (kept_word s.found y words))
    (λ e. stops_at (with_fault next) (suc i) (Some (fault_at s e)) words)
    (on.0, omega (arith, on.1))
    (λ y. let kept = some_bytes (suc i) (with_word next (length words)) text (kept_word s.found y words) in (kept.0, omega (arith, kept.1)))
    (λ e. (omega arith, omega arith)) in
    (omega (arith, both.0), both.1, λ z. both.0)

pub take_some : (s : Reader) (text : List ℕ) (r : Taken) (before after : List ℕ) → Takes s text r before after → 0 < length text
    → (0 < r.bytes) × (r.bytes ≤ length text)
take_some s text r before after t z =
    let some = some_bytes 0 s text before in
    rw t.taken (some.2 z, omega (arith, some.1))

-- the same of what is left of a piece
pub left_some : (piece : List ℕ) (from : ℕ) (s : Reader) (r : Taken) (before after : List ℕ) → from < length piece
    → Takes s (take (length piece - from) (drop from piece)) r before after → (0 < r.bytes) × (from + r.bytes ≤ length piece)
left_some piece from s r before after h t =
    let size : length (take (length piece - from) (drop from piece)) ≡ length piece - from = simp (length-take, length-drop) (omega arith) in
    let taken = take_some s (take (length piece - from) (drop from piece)) r before after t (omega (arith, size)) in
    (taken.0, omega (arith, taken.1, size))

by_met : (x : Met) (rest : List ℕ) (n m : Took) (w v : ℕ → Took) (f : Expected → Took) → n ≡ goes_on m rest → ((y : ℕ) → w y ≡ goes_on (v y) rest)
    → ((e : Expected) → f e ≡ goes_on (f e) rest) → met_by x n w f ≡ goes_on (met_by x m v f) rest
by_met Met.Nothing rest n m w v f p q r = p
by_met (Met.Word y) rest n m w v f p q r = q y
by_met (Met.Fault e) rest n m w v f p q r = r e

pub in_pieces : (i : ℕ) (s : Reader) (text rest words : List ℕ) → take_from i s (text ++ rest) words ≡ goes_on (take_from i s text words) rest
unfolding take_from
in_pieces i s [] rest words = refl
in_pieces i s (b ∷ text) rest words =
    by_met (move_at s b).met rest _ _ _ _ (λ e. stops_at (with_fault (passed s (move_at s b) b)) (suc i) (Some (fault_at s e)) words)
    (in_pieces (suc i) (passed s (move_at s b) b) text rest words)
    (λ y. in_pieces (suc i) (with_word (passed s (move_at s b) b) (length words)) text rest (kept_word s.found y words))
    (λ e. refl)

goes_on_lem : (t : Took) (rest : List ℕ) → t.taken.fault ≡ None → goes_on t rest ≡ take_from t.taken.bytes t.taken.reader rest t.words
goes_on_lem t rest e =
    ap (λ (x : Option Fault). elim x as (λ (y : Option Fault). Took) [ None ↦ take_from t.taken.bytes t.taken.reader rest t.words | Some f ↦ t ]) e

-- bytes that were taken before
abbrev later : ℕ → Took → Took
later i t = record { taken = record { reader = t.taken.reader; bytes = i + t.taken.bytes; fault = t.taken.fault }; words = t.words }

later_by : (x : Met) (i : ℕ) (n m : Took) (w v : ℕ → Took) (f g : Expected → Took) → n ≡ later i m → ((y : ℕ) → w y ≡ later i (v y))
    → ((e : Expected) → f e ≡ later i (g e)) → met_by x n w f ≡ later i (met_by x m v g)
later_by Met.Nothing i n m w v f g p q r = p
later_by (Met.Word y) i n m w v f g p q r = q y
later_by (Met.Fault e) i n m w v f g p q r = r e

from_later : (i j k : ℕ) (s : Reader) (text words : List ℕ) → k ≡ i + j → take_from k s text words ≡ later i (take_from j s text words)
unfolding take_from
from_later i j k s [] words e = ap (λ (n : ℕ). stops_at s n None words) e
from_later i j k s (b ∷ text) words e =
    let next = passed s (move_at s b) b in
    let on : suc k ≡ i + suc j = omega arith in
    later_by (move_at s b).met i
    (take_from (suc k) next text words)
    (take_from (suc j) next text words)
    (λ y. take_from (suc k) (with_word next (length words)) text (kept_word s.found y words))
    (λ y. take_from (suc j) (with_word next (length words)) text (kept_word s.found y words))
    (λ x. stops_at (with_fault next) (suc k) (Some (fault_at s x)) words)
    (λ x. stops_at (with_fault next) (suc j) (Some (fault_at s x)) words)
    (from_later i (suc j) (suc k) next text words on)
    (λ y. from_later i (suc j) (suc k) (with_word next (length words)) text (kept_word s.found y words) on)
    (λ x. ap (λ (n : ℕ). stops_at (with_fault next) n (Some (fault_at s x)) words) on)

-- two calls, the second where the first came to the end of its piece: they are one call on both pieces
pub two_calls : (s : Reader) (text rest : List ℕ) (r q : Taken) (before between after : List ℕ) → Takes s text r before between → r.fault ≡ None
    → Takes r.reader rest q between after
    → Takes s (text ++ rest) (record { reader = q.reader; bytes = r.bytes + q.bytes; fault = q.fault }) before after
two_calls s text rest r q before between after t e u = record {
  taken = ap (λ (k : Taken). record { reader = k.reader; bytes = r.bytes + k.bytes; fault = k.fault }) u.taken ∙ ap (λ (k : Took). k.taken) whole;
  written = u.written ∙ ap (λ (k : Took). k.words) whole;
}
  where
    first : Took
    first = take_from 0 s text before

    ended : first.taken.fault ≡ None
    ended = sym (ap (λ (k : Taken). k.fault) t.taken) ∙ e

    whole : later r.bytes (take_from 0 r.reader rest between) ≡ take_from 0 s (text ++ rest) before
    whole =
        sym (from_later r.bytes 0 r.bytes r.reader rest between (omega arith))
        ∙ ap (λ (k : Taken). take_from k.bytes k.reader rest between) t.taken
        ∙ ap (take_from first.taken.bytes first.taken.reader rest) t.written
        ∙ sym (goes_on_lem first rest ended)
        ∙ sym (in_pieces 0 s text rest before)
