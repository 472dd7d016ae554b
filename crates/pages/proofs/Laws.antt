-- What is kept of a long input is answered as all of it would be, and a text may come in pieces.
-- The laws, in this order: `kept_page`, `kept_unpacked`, `gather_pieces`, `named_pieces`.
use mathlib.Core.Path.{◌≡◌, refl, sym, ap, ◌∙◌}
use mathlib.Core.Bool.{Bool, true, false}
use mathlib.Core.List.{List, [], ◌∷◌, ◌++◌, append_assoc}
use Prim.Native.Nat.{ℕ, ◌*◌, ◌%◌, ◌≤◌, ◌<◌}
use native.Mathlib.Omega.{arith}
use lib.Dec.{eqb, ltb}
use lib.ListN.{length}
use borrow.Author.Tests.{eqb-true, eqb-false, ltb-true, ltb-false}
use Rattle.choice.specs.Pick.{pick}
use Rattle.choice.specs.Tells.{Placed, refused_at}
use Rattle.run.specs.Runs.{most_cycles}
use Rattle.text.specs.declared.Fault.{Fault}
use Rattle.text.specs.declared.Reader.{Reader}
use Rattle.text.specs.Taking.{one_more, passed, kept_word, with_word, with_fault, fault_at, move_at}
use Rattle.text.proofs.Laws.{met_both}
use Rattle.trace.specs.Layout.{words_per_record, block_bytes}
use Rattle.trace.specs.Limits.{too_long, kept_length}
use Rattle.trace.specs.Reading.{read_words}
use Rattle.trace.proofs.Answered.{read_11, read_many}
use Rattle.trace.proofs.Long.{kept_answers}
use Rattle.lines.specs.declared.Program.TheVariants.{RunTrace, UnpackTrace}
use Rattle.lines.specs.Lines.{refused_line}
use Rattle.lines.specs.Words.{text_of, fault_line}
use Rattle.pages.specs.Running.{reading_of, if_accepted, refusal_said, run_text, run_said, page_text, page_said}
use Rattle.pages.specs.Unpacking.{unpacked_text, unpacked_said}
use Rattle.pages.specs.Packing.{Gathered, fault_then, gather_from, most_named, named_from, gather_on, bad_after}

-- a trace that is too long is refused, whatever it would have made
module _ (t : List ℕ) (long : too_long words_per_record ≤ length t) (x y : List ℕ) (refusal : ℕ → ℕ → List ℕ) where
  by_number : (k i : ℕ) → refused_at k i ≡ reading_of t → if_accepted (reading_of t) x refusal ≡ if_accepted (reading_of t) y refusal
  by_number k i e = ap (λ (a : Placed ℕ). if_accepted a x refusal) (sym e) ∙ ap (λ (a : Placed ℕ). if_accepted a y refusal) e

  no_text : if_accepted (reading_of t) x refusal ≡ if_accepted (reading_of t) y refusal
  no_text = by_test (eqb (length t % block_bytes) 0) refl
    where
      by_test : (b : Bool) → eqb (length t % block_bytes) 0 ≡ b → if_accepted (reading_of t) x refusal ≡ if_accepted (reading_of t) y refusal
      by_test true q = by_number 2 0 (read_many 3 t (words_per_record * most_cycles) (eqb-true (length t % block_bytes) 0 q) (omega arith))
      by_test false q = by_number 11 0 (read_11 3 t (words_per_record * most_cycles) (eqb-false (length t % block_bytes) 0 q))

-- u is what is kept of t (trace, `kept_answers`): all of it, or its kept length of any bytes
module _ (t u : List ℕ) (size : length u ≡ kept_length words_per_record (length t)) (short : length t < too_long words_per_record → u ≡ t) where
  kept_text : (text : List ℕ → List ℕ) (refusal : ℕ → ℕ → List ℕ) → if_accepted (reading_of u) (text u) refusal ≡ if_accepted (reading_of t) (text t) refusal
  kept_text text refusal = by_test (ltb (length t) (too_long words_per_record)) refl
    where
      by_test : (b : Bool) → ltb (length t) (too_long words_per_record) ≡ b → if_accepted (reading_of u) (text u) refusal ≡ if_accepted (reading_of t) (text t) refusal
      by_test true q = ap (λ (l : List ℕ). if_accepted (reading_of l) (text l) refusal) (short (ltb-true (length t) (too_long words_per_record) q))
      by_test false q =
          ap (λ (a : Placed ℕ). if_accepted a (text u) refusal) (kept_answers 3 t u (words_per_record * most_cycles) size short)
          ∙ no_text t (ltb-false (length t) (too_long words_per_record) q) (text u) (text t) refusal

  pub kept_page : (page_text u ≡ page_text t) × (page_said u ≡ page_said t)
  unfolding page_text page_said
  kept_page = (kept_text (λ (l : List ℕ). run_text (read_words words_per_record l)) refused_line, kept_text (λ (l : List ℕ). run_said (read_words words_per_record l)) (refusal_said RunTrace))

  pub kept_unpacked : (unpacked_text u ≡ unpacked_text t) × (unpacked_said u ≡ unpacked_said t)
  unfolding unpacked_text unpacked_said
  kept_unpacked = (kept_text (λ (l : List ℕ). text_of (read_words words_per_record l)) (λ (number index : ℕ). []), kept_text (λ (l : List ℕ). []) (refusal_said UnpackTrace))

pub gather_pieces : (s : Reader) (text more words : List ℕ) → gather_from s (text ++ more) words ≡ gather_on (gather_from s text words) more
unfolding gather_from
gather_pieces s [] more words = refl
gather_pieces s (b ∷ text) more words =
    let next = passed s (move_at s b) b in
    met_both (λ (x y : Gathered). x ≡ gather_on y more) (move_at s b).met
    (gather_from next (text ++ more) words)
    (λ y. gather_from (with_word next (length words)) (text ++ more) (kept_word s.found y words))
    (λ e. fault_then (fault_at s e) (gather_from (with_fault next) (text ++ more) words))
    (gather_from next text words)
    (λ y. gather_from (with_word next (length words)) text (kept_word s.found y words))
    (λ e. fault_then (fault_at s e) (gather_from (with_fault next) text words))
    (gather_pieces next text more words)
    (λ y. gather_pieces (with_word next (length words)) text more (kept_word s.found y words))
    (λ e. ap (fault_then (fault_at s e)) (gather_pieces (with_fault next) text more words))

pub named_pieces : (k : ℕ) (xs ys : List Fault) → named_from k (xs ++ ys) ≡ named_from k xs ++ named_from (bad_after k xs) ys
named_pieces k [] ys = refl
named_pieces k (f ∷ xs) ys =
    let here = pick (ltb k most_named) (fault_line f) [] in
    ap (λ (l : List ℕ). here ++ l) (named_pieces (one_more k) xs ys) ∙ sym (append_assoc here (named_from (one_more k) xs) (named_from (bad_after (one_more k) xs) ys))
