-- A text gathered by calls of `take`, one after another.
use mathlib.Core.Path.{◌≡◌, refl, sym, ap, ◌∙◌}
use mathlib.Core.List.{List, [], ◌∷◌}
use Prim.Native.Nat.{ℕ, suc, ◌+◌, ◌-◌, ◌≤◌}
use mathlib.Core.Bool.{Bool, true, false}
use native.Mathlib.Nat.{add-zero}
use native.Mathlib.Omega.{arith}
use lib.Dec.{eqb}
use lib.ListN.{length, drop}
use Rattle.choice.specs.Pick.{pick}
use Rattle.text.specs.Bytes.{line_feed}
use Rattle.text.specs.declared.Expected.{Expected}
use Rattle.text.specs.declared.Reader.{Reader}
use Rattle.text.specs.declared.Fault.{Fault}
use Rattle.std.proofs.Common.{Option, Some, None}
use Rattle.text.specs.Taking.{one_more, next_line, next_column, passed, kept_word, with_word, with_fault, fault_at, Took, stops_at, move_at, take_from}
use Rattle.text.proofs.Laws.{met_all, met_both, some_bytes}
use Rattle.pages.specs.Packing.{Gathered, fault_then, gather_from, gathered_after}

-- what a call says of the faults, and of its bytes where there was none
abbrev pub Says : ℕ → ℕ → ℕ → Took → Type 0
Says faults i n t =
    elim t.taken.fault [
      | None ↦ (t.taken.reader.faults ≡ faults) × (t.taken.bytes ≡ i + n)
      | Some f ↦ t.taken.reader.faults ≡ one_more faults
    ]

module _ (i b : ℕ) (rest : List ℕ) where
  one_byte_on : (t : Took) → suc i ≤ t.taken.bytes → gathered_after t (suc i) rest ≡ gathered_after t i (b ∷ rest)
  one_byte_on t h = by_fault t.taken.fault
    where
      again : (f : Fault) → fault_then f (gather_from t.taken.reader (drop (t.taken.bytes - suc i) rest) t.words)
          ≡ fault_then f (gather_from t.taken.reader (drop (t.taken.bytes - i) (b ∷ rest)) t.words)
      again f =
          let e : t.taken.bytes - i ≡ suc (t.taken.bytes - suc i) = omega arith in
          ap (λ (k : ℕ). fault_then f (gather_from t.taken.reader (drop k (b ∷ rest)) t.words)) (sym e)

      by_fault : (x : Option Fault) → gathered_after (stops_at t.taken.reader t.taken.bytes x t.words) (suc i) rest ≡ gathered_after (stops_at t.taken.reader t.taken.bytes x t.words) i (b ∷ rest)
      by_fault None = refl
      by_fault (Some f) = again f

pub gather_take : (i : ℕ) (s : Reader) (text words : List ℕ) → gather_from s text words ≡ gathered_after (take_from i s text words) i text
unfolding take_from gather_from
gather_take i s [] words = refl
gather_take i s (b ∷ text) words =
    let next = passed s (move_at s b) b in
    met_both (λ (g : Gathered) (t : Took). g ≡ gathered_after t i (b ∷ text)) (move_at s b).met
    (gather_from next text words)
    (λ y. gather_from (with_word next (length words)) text (kept_word s.found y words))
    (λ e. fault_then (fault_at s e) (gather_from (with_fault next) text words))
    (take_from (suc i) next text words)
    (λ y. take_from (suc i) (with_word next (length words)) text (kept_word s.found y words))
    (λ e. stops_at (with_fault next) (suc i) (Some (fault_at s e)) words)
    (gather_take (suc i) next text words ∙ one_byte_on i b text (take_from (suc i) next text words) (some_bytes (suc i) next text words).0)
    (λ y. gather_take (suc i) (with_word next (length words)) text (kept_word s.found y words)
    ∙ one_byte_on i b text (take_from (suc i) (with_word next (length words)) text (kept_word s.found y words)) (some_bytes (suc i) (with_word next (length words)) text (kept_word s.found y words)).0)
    (λ e. one_byte e)
  where
    one_byte : (e : Expected) → fault_then (fault_at s e) (gather_from (with_fault (passed s (move_at s b) b)) text words)
        ≡ gathered_after (stops_at (with_fault (passed s (move_at s b) b)) (suc i) (Some (fault_at s e)) words) i (b ∷ text)
    one_byte e =
        let one : suc i - i ≡ 1 = omega arith in
        ap (λ (k : ℕ). fault_then (fault_at s e) (gather_from (with_fault (passed s (move_at s b) b)) (drop k (b ∷ text)) words)) (sym one)

-- a byte keeps the faults, with a word or without
passed_faults : (s : Reader) (b : ℕ) → (passed s (move_at s b) b).faults ≡ s.faults
unfolding passed
passed_faults s b = by_test (eqb b line_feed)
  where
    by_test : (t : Bool) → (pick t (next_line s) (next_column s (move_at s b))).faults ≡ s.faults
    by_test true = refl
    by_test false = refl

says_on : (k l i n : ℕ) (t : Took) → k ≡ l → Says k (suc i) n t → Says l i (suc n) t
says_on k l i n t e h = by_fault t.taken.fault h
  where
    by_fault : (x : Option Fault) → Says k (suc i) n (stops_at t.taken.reader t.taken.bytes x t.words) → Says l i (suc n) (stops_at t.taken.reader t.taken.bytes x t.words)
    by_fault None p = (p.0 ∙ e, omega (arith, p.1))
    by_fault (Some f) p = p ∙ ap one_more e

pub take_says : (i : ℕ) (s : Reader) (text words : List ℕ) → Says s.faults i (length text) (take_from i s text words)
unfolding take_from
take_says i s [] words = (refl, sym (add-zero i))
take_says i s (b ∷ text) words =
    let next = passed s (move_at s b) b in
    let same = passed_faults s b in
    met_all (Says s.faults i (suc (length text))) (move_at s b).met
    (take_from (suc i) next text words)
    (λ y. take_from (suc i) (with_word next (length words)) text (kept_word s.found y words))
    (λ e. stops_at (with_fault next) (suc i) (Some (fault_at s e)) words)
    (says_on next.faults s.faults i (length text) (take_from (suc i) next text words) same (take_says (suc i) next text words))
    (λ y. says_on next.faults s.faults i (length text) (take_from (suc i) (with_word next (length words)) text (kept_word s.found y words)) same (take_says (suc i) (with_word next (length words)) text (kept_word s.found y words)))
    (λ e. ap one_more same)
