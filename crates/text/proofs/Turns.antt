-- One byte more of a text, by what it brings.
use mathlib.Core.Path.{◌≡◌, refl, sym, ap, ◌∙◌}
use Rattle.std.specs.Prelude.{Some, None}
use mathlib.Core.Bool.{Bool, true, false}
use mathlib.Core.List.{List}
use Prim.Native.Nat.{ℕ, suc, ◌+◌, ◌≤◌, ◌<◌}
use native.Mathlib.Numerals.{add-one}
use lib.Dec.{ltb}
use lib.ListN.{length, set, drop, get_or, length-set, drop_of_length-le}
use lib.Seq.{drop-cons}
use Rattle.choice.specs.Pick.{pick}
use Rattle.text.specs.declared.Expected.{Expected}
use Rattle.text.specs.declared.Met.{Met}
use Rattle.text.specs.declared.Move.{Move}
use Rattle.text.specs.declared.Reader.{Reader}
use Rattle.text.specs.declared.Fault.{Fault}
use Rattle.text.specs.Taking.{passed, kept_word, with_word, with_fault, fault_at, Took, stops_at, move_at, met_by, take_from}

pub length_kept : (at x : ℕ) (words : List ℕ) → length (kept_word at x words) ≡ length words
length_kept at x words = by_test (ltb at (length words))
  where
    by_test : (b : Bool) → length (pick b (set words at x) words) ≡ length words
    by_test true = length-set words at x
    by_test false = refl

module _ (text : List ℕ) (i : ℕ) (h : i < length text) (s : Reader) (words : List ℕ) where
  abbrev b : ℕ
  b = get_or text i 0

  abbrev next : Reader
  next = passed s (move_at s b) b

  abbrev nothing : Took
  nothing = take_from (suc i) next (drop (suc i) text) words

  abbrev word : ℕ → Took
  word x = take_from (suc i) (with_word next (length words)) (drop (suc i) text) (kept_word s.found x words)

  abbrev fault : Expected → Took
  fault e = stops_at (with_fault next) (suc i) (Some (fault_at s e)) words

  opened : take_from i s (drop i text) words ≡ met_by (move_at s b).met nothing word fault
  unfolding take_from
  opened = rw (drop-cons text i 0 h)

  -- by the move that was found, and the reader after it
  module _ (m : Move) (em : m ≡ move_at s b) (n : Reader) (en : n ≡ passed s m b) where
    turn : (x : Met) → m.met ≡ x → met_by x nothing word fault ≡ take_from i s (drop i text) words
    turn x q = sym (opened ∙ ap (λ (y : Met). met_by y nothing word fault) (sym (ap (λ (k : Move). k.met) em) ∙ q))

    is_next : n ≡ next
    is_next = en ∙ ap (λ (k : Move). passed s k b) em

    pub turn_nothing : m.met ≡ Met.Nothing → take_from (suc i) n (drop (suc i) text) words ≡ take_from i s (drop i text) words
    turn_nothing q = rw is_next (turn Met.Nothing q)

    pub turn_word : (x : ℕ) (after : List ℕ) (r : Reader) → m.met ≡ Met.Word x → after ≡ kept_word s.found x words → r ≡ with_word n (length after)
        → take_from (suc i) r (drop (suc i) text) after ≡ take_from i s (drop i text) words
    turn_word x after r q ea er = rw (er, ea, length_kept s.found x words, is_next) (turn (Met.Word x) q)

    pub turn_fault : (e : Expected) (f : Fault) (r : Reader) → m.met ≡ Met.Fault e → f ≡ fault_at s e → r ≡ with_fault n
        → stops_at r (i + 1) (Some f) words ≡ take_from i s (drop i text) words
    turn_fault e f r q ef er = rw (add-one, er, ef, is_next) (turn (Met.Fault e) q)

pub turn_end : (text : List ℕ) (i : ℕ) (s : Reader) (words : List ℕ) → length text ≤ i → stops_at s i None words ≡ take_from i s (drop i text) words
unfolding take_from
turn_end text i s words h = rw (drop_of_length-le text h)
