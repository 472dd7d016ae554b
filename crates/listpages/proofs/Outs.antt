-- The ways out of the calls.
use mathlib.Core.Path.{◌≡◌, sym, ap, subst, ◌∙◌}
use mathlib.Core.Bool.{Bool, true, false}
use mathlib.Core.List.{List, [], ◌∷◌, ◌++◌}
use Prim.Native.Nat.{ℕ, suc, ◌+◌, ◌-◌, ◌<◌, ◌≤◌}
use native.Mathlib.Omega.{arith}
use lib.Dec.{eqb}
use lib.ListN.{length, get_or, take, drop}
use borrow.Author.Tests.{eq-eqb, ne_eqb}
use Rattle.choice.specs.Pick.{pick}
use Rattle.choice.specs.Tells.{Placed}
use Rattle.std.specs.Simd.{first_chunks}
use Rattle.machine.specs.declared.Words.{Words}
use Rattle.run.specs.Splitting.{words_per_cycle, cycles_in}
use Rattle.run.proofs.Loop.{cycle_cut}
use Rattle.lines.specs.declared.Program.TheVariants.{ListTrace}
use Rattle.lines.specs.declared.Remark.TheVariants.{Refusal}
use Rattle.lines.specs.Answers.{Makes}
use Rattle.lines.specs.Lines.{refused_line}
use Rattle.lines.specs.Remarks.{remark_line}
use Rattle.lines.proofs.Answered.{makes_as}
use Rattle.std.proofs.Common.{Result, Ok, Err}
use Rattle.refusals.specs.declared.Refused.{Refused}
use Rattle.refusals.specs.Numbers.{number_of}
use Rattle.trace.specs.Layout.{words_per_record}
use Rattle.trace.specs.Reading.{read_words, Reads}
use Rattle.pages.specs.declared.Written.{Written}
use Rattle.pages.specs.Writing.{Writes}
use Rattle.pages.specs.Running.{refusal_said}
use Rattle.pages.proofs.Answers.{cycle_room, not_read, is_read, words_read}
use Rattle.listpages.specs.declared.Reading.{Reading}
use Rattle.listpages.specs.Entries.{waits_after, refusal_at, line_tells, answer_by, answer_line, waits_next, is_refused}
use Rattle.listpages.specs.Listing.{line_word, line_words_from, list_text, said_from, list_said, listed_text, listed_said}
use Rattle.listpages.specs.Answering.{lines_of, after_line, answer_to, answers_of, reading_after, after_answer, line_end}
use Rattle.listpages.proofs.Lined.{first_of}
use Rattle.listpages.proofs.Walks.{line_fits, line_more}

-- the words that are still to come, cycle by cycle
module _ (words : List ℕ) (n i : ℕ) where
  pub words_cons : i < n → line_words_from words i (n - i) ≡ line_word words i ∷ line_words_from words (i + 1) (n - (i + 1))
  words_cons h =
      let e : n - i ≡ suc (n - (i + 1)) = omega arith in
      ap (line_words_from words i) e

  -- the word of cycle i, as the code cuts it out
  pub words_cut : (parts : List (List ℕ)) → n ≡ cycles_in (length words) → parts ≡ first_chunks words_per_cycle (cycles_in (length words)) words → i < n
      → line_words_from words i (n - i) ≡ get_or (get_or parts i []) 0 0 ∷ line_words_from words (i + 1) (n - (i + 1))
  words_cut parts all e h =
      words_cons h ∙ ap (λ (w : Words). w.lines ∷ line_words_from words (i + 1) (n - (i + 1))) (sym (cycle_cut words parts i e (omega (arith, all, h))))

  pub words_none : n ≤ i → line_words_from words i (n - i) ≡ []
  words_none h =
      let e : n - i ≡ 0 = omega arith in
      ap (line_words_from words i) e

  module _ (waits : Bool) (all : List ℕ) (inv : said_from waits i (line_words_from words i (n - i)) ≡ all) where
    said_here : i < n → (q : Bool) → eqb (refusal_at waits (line_word words i)) 0 ≡ q
        → pick q (said_from (waits_after waits (line_word words i)) (i + 1) (line_words_from words (i + 1) (n - (i + 1)))) (remark_line ListTrace (Refusal (refusal_at waits (line_word words i)) i (line_word words i) 0)) ≡ all
    said_here h q e =
        sym (ap (said_from waits i) (words_cons h)
        ∙ ap (λ (q : Bool). pick q (said_from (waits_after waits (line_word words i)) (i + 1) (line_words_from words (i + 1) (n - (i + 1)))) (remark_line ListTrace (Refusal (refusal_at waits (line_word words i)) i (line_word words i) 0))) e)
        ∙ inv

    module _ (h : i < n) (w k : ℕ) (ew : w ≡ line_word words i) (ek : k ≡ refusal_at waits w) where
      here : refusal_at waits (line_word words i) ≡ k
      here = sym (ek ∙ ap (refusal_at waits) ew)

      pub said_word : (k ≡ 0 → ⊥) → remark_line ListTrace (Refusal k i w 0) ≡ all
      said_word z =
          ap (λ (w : ℕ). remark_line ListTrace (Refusal k i w 0)) ew
          ∙ ap (λ (k : ℕ). remark_line ListTrace (Refusal k i (line_word words i) 0)) (sym here)
          ∙ said_here h false (ne_eqb _ 0 (λ q. z (sym here ∙ q)))

      pub said_next : k ≡ 0 → (waits' : Bool) → waits' ≡ waits_after waits w → said_from waits' (i + 1) (line_words_from words (i + 1) (n - (i + 1))) ≡ all
      said_next z waits' e =
          ap (λ (b : Bool). said_from b (i + 1) (line_words_from words (i + 1) (n - (i + 1)))) (e ∙ ap (waits_after waits) ew)
          ∙ said_here h true (eq-eqb _ 0 (here ∙ z))

    pub said_none : n ≤ i → [] ≡ all
    said_none h = sym (ap (said_from waits i) (words_none h)) ∙ inv

pub said_begun : (words : List ℕ) → said_from false 0 (line_words_from words 0 (cycles_in (length words) - 0)) ≡ list_said words
unfolding list_said
said_begun words =
    let z : cycles_in (length words) - 0 ≡ cycles_in (length words) = omega arith in
    ap (λ (n : ℕ). said_from false 0 (line_words_from words 0 n)) z

-- the first line of what is left of a listing: what it told, the reader after it, and what is left then
module _ (state next : Reading) (rest front others left : List ℕ) (p : Placed ℕ) (some : 0 < length rest) (cut : front ≡ take (line_end rest) rest) (back : others ≡ drop (line_end rest) rest) (onward : left ≡ drop 1 others)
    (told : p ≡ line_tells state.waits front) (after : next ≡ after_answer state p) where
  first : lines_of rest ≡ front ∷ lines_of left
  first = rw (onward, back, cut) (first_of rest some)

  next_is : next ≡ after_line state front
  unfolding waits_next is_refused
  next_is = after ∙ ap (after_answer state) told

  answer_is : answer_by p ≡ answer_to state front
  unfolding answer_line
  answer_is = ap answer_by told

  module _ (text all : List ℕ) (whole : text ++ answers_of state (lines_of rest) ≡ all) where
    pub answer_fits : (room : ℕ) → length all ≤ room → length text + length (answer_by p) ≤ room
    unfolding answers_of
    answer_fits room enough = rw answer_is (line_fits answer_to after_line state (lines_of rest) text all whole front (lines_of left) first room enough)

    pub answer_more : (more : List ℕ) → more ≡ text ++ answer_by p → more ++ answers_of next (lines_of left) ≡ all
    unfolding answers_of
    answer_more more e = rw next_is (line_more answer_to after_line state (lines_of rest) text all whole front (lines_of left) first more (e ∙ ap (λ (l : List ℕ). text ++ l) answer_is))

  pub reading_more : (r : Reading) → reading_after state (lines_of rest) ≡ r → reading_after next (lines_of left) ≡ r
  unfolding reading_after
  reading_more r e = rw next_is (ap (reading_after state) (sym first) ∙ e)

-- a trace, refused and read
module _ (t cycles cycles' : List ℕ) (answer : Result ℕ Refused) (reads_all : Reads t answer cycles cycles') (size : length cycles ≡ cycle_room) (out errors out' errors' : List ℕ) (r : Written) where
  pub listed_refused : (e : Refused) → answer ≡ Err e → Makes (refused_line (number_of e.refusal) e.index) r.output out out' → Makes (refusal_said ListTrace (number_of e.refusal) e.index) r.said errors errors'
      → Writes (listed_text t) (listed_said t) r out errors out' errors'
  unfolding listed_text listed_said
  listed_refused e q shown told = let reads = subst (λ (f : Result ℕ Refused). Reads t f cycles cycles') q reads_all in record {
    shown = makes_as (sym (not_read t cycles cycles' size e reads (list_text (read_words words_per_record t)) refused_line)) shown;
    told = makes_as (sym (not_read t cycles cycles' size e reads (list_said (read_words words_per_record t)) (refusal_said ListTrace))) told;
  }

  module _ (n : ℕ) (e : answer ≡ Ok n) (same_size : length cycles' ≡ length cycles) where
    reads : Reads t (Ok n) cycles cycles'
    reads = subst (λ (f : Result ℕ Refused). Reads t f cycles cycles') e reads_all

    words_are : take n cycles' ≡ read_words words_per_record t
    words_are = words_read t cycles cycles' size n reads same_size

    pub listed_read : Makes (list_text (take n cycles')) r.output out out' → Makes (list_said (take n cycles')) r.said errors errors'
        → Writes (listed_text t) (listed_said t) r out errors out' errors'
    unfolding listed_text listed_said
    listed_read shown told = record {
      shown = makes_as (ap list_text words_are ∙ sym (is_read t cycles cycles' size n reads same_size (list_text (read_words words_per_record t)) refused_line)) shown;
      told = makes_as (ap list_said words_are ∙ sym (is_read t cycles cycles' size n reads same_size (list_said (read_words words_per_record t)) (refusal_said ListTrace))) told;
    }
