-- The loop that takes a piece of a text and names its bad lines.
use Rattle.std.proofs.Common.{◌≡◌, refl, sym, ap, subst, ◌∙◌, ℕ, ◌+◌, ◌-◌, ◌*◌, ◌≤◌, Bool, true, false, List, [], ◌++◌, append_assoc, append-nil, length, drop, ltb, Option, Some, None, arith}
use native.Mathlib.Nat.{sub-zero}
use Rattle.std.proofs.Math.ListN.{drop_of_length-le}
use Rattle.std.proofs.lemmas.List.{length-append}
use borrow.Author.Tests.{ltb-true, ltb-false}
use Rattle.choice.specs.Pick.{pick}
use Rattle.text.specs.declared.Reader.{Reader}
use Rattle.text.specs.declared.Fault.{Fault}
use Rattle.text.specs.declared.Taken.{Taken}
use Rattle.text.specs.Taking.{one_more, Took, take_from, Takes}
use Rattle.lines.specs.Words.{fault_line}
use Rattle.lines.proofs.Longest.{fault_line_le}
use Rattle.pages.specs.Packing.{Gathered, fault_then, gather_from, most_named, named_from, gathered_after}
use Rattle.pages.specs.Naming.{fault_bytes, named_bytes, Names}
use Rattle.pages.proofs.Longest.{one_more_up, one_more_no_less}
use Rattle.pages.proofs.Gathered.{Says, gather_take, take_says}

-- the room for the lines that may still be named, with one fault more
one_fault_more : (k : ℕ) (f : Fault) (said : List ℕ) (room : ℕ) → length said + fault_bytes * (most_named - k) ≤ room
    → length (said ++ pick (ltb k most_named) (fault_line f) []) + fault_bytes * (most_named - one_more k) ≤ room
one_fault_more k f said room h = by_test (ltb k most_named) refl
  where
    by_test : (b : Bool) → ltb k most_named ≡ b → length (said ++ pick b (fault_line f) []) + fault_bytes * (most_named - one_more k) ≤ room
    by_test true q =
        let l = ltb-true k most_named q in
        rw (one_more_up k l, length-append said (fault_line f)) (omega (arith, fault_line_le f, h, l))
    by_test false q = rw (append-nil said) (omega (arith, h, one_more_no_less k, ltb-false k most_named q))

module _ (start : Reader) (piece words₀ said₀ : List ℕ) where
  abbrev all : Gathered
  all = gather_from start piece words₀

  -- the words and what is said so far, the reader, and what is left of the piece
  pub record Taking (words said : List ℕ) (state : Reader) (rest : List ℕ) : Type 0 where
    pub room : length said + fault_bytes * (most_named - state.faults) ≤ length said₀ + named_bytes
    pub reader : (gather_from state rest words).reader ≡ all.reader
    pub kept : (gather_from state rest words).words ≡ all.words
    pub named : said ++ named_from state.faults (gather_from state rest words).faults ≡ said₀ ++ named_from start.faults all.faults

  pub begins : Taking words₀ said₀ start piece
  begins = record { room = omega arith; reader = refl; kept = refl; named = refl }

  module _ (words said : List ℕ) (state : Reader) (rest : List ℕ) (t : Taking words said state rest) where
    pub ends : rest ≡ [] → Names start piece state words₀ said₀ words said
    unfolding gather_from
    ends none =
        let over : gather_from state rest words ≡ record { reader = state; words = words; faults = [] } = ap (λ (l : List ℕ). gather_from state l words) none in
        record {
          reader = sym (ap (λ (g : Gathered). g.reader) over) ∙ t.reader;
          kept = sym (ap (λ (g : Gathered). g.words) over) ∙ t.kept;
          named = sym (append-nil said) ∙ ap (λ (g : Gathered). said ++ named_from state.faults g.faults) (sym over) ∙ t.named;
          few = omega (arith, t.room);
        }

    -- a call of `take` on what is left
    module _ (r : Taken) (words' : List ℕ) (takes : Takes state rest r words words') where
      made : Took
      made = record { taken = r; words = words' }

      made_is : made ≡ take_from 0 state rest words
      unfolding made
      made_is =
          let took = take_from 0 state rest words in
          ap (λ (x : Taken). record { taken = x; words = words' }) takes.taken ∙ ap (λ (l : List ℕ). record { taken = took.taken; words = l }) takes.written

      goes : gather_from state rest words ≡ gathered_after made 0 rest
      goes = gather_take 0 state rest words ∙ ap (λ (x : Took). gathered_after x 0 rest) (sym made_is)

      says : Says state.faults 0 (length rest) made
      says = subst (Says state.faults 0 (length rest)) (sym made_is) (take_says 0 state rest words)

      by_fault : (x : Option Fault) → r.fault ≡ x → made ≡ record { taken = record { reader = r.reader; bytes = r.bytes; fault = x }; words = words' }
      unfolding made
      by_fault x e = ap (λ (f : Option Fault). record { taken = record { reader = r.reader; bytes = r.bytes; fault = f }; words = words' }) e

      -- what is left then
      module _ (left : List ℕ) (onward : left ≡ drop r.bytes rest) where
        -- the piece is at its end
        pub at_end : r.fault ≡ None → Taking words' said r.reader left
        unfolding gather_from
        at_end e =
            let ended = by_fault None e in
            let s = subst (Says state.faults 0 (length rest)) ended says in
            let over : gather_from state rest words ≡ record { reader = r.reader; words = words'; faults = [] } = goes ∙ ap (λ (x : Took). gathered_after x 0 rest) ended in
            let none : left ≡ [] = onward ∙ drop_of_length-le rest (omega (arith, s.1)) in
            let now : gather_from r.reader left words' ≡ gather_from state rest words = ap (λ (l : List ℕ). gather_from r.reader l words') none ∙ sym over in
            record {
              room = rw s.0 t.room;
              reader = ap (λ (g : Gathered). g.reader) now ∙ t.reader;
              kept = ap (λ (g : Gathered). g.words) now ∙ t.kept;
              named = ap (λ (g : Gathered). said ++ named_from r.reader.faults g.faults) now
                  ∙ ap (λ (k : ℕ). said ++ named_from k (gather_from state rest words).faults) s.0
                  ∙ t.named;
            }

        -- a line is bad
        pub after_fault : (f : Fault) → r.fault ≡ Some f → (said' : List ℕ) → said' ≡ said ++ pick (ltb state.faults most_named) (fault_line f) [] → Taking words' said' r.reader left
        after_fault f e said' p =
            let bad = by_fault (Some f) e in
            let counted : r.reader.faults ≡ one_more state.faults = subst (Says state.faults 0 (length rest)) bad says in
            let same : drop (r.bytes - 0) rest ≡ left = ap (λ (k : ℕ). drop k rest) (sub-zero r.bytes) ∙ sym onward in
            let over : gather_from state rest words ≡ fault_then f (gather_from r.reader left words') =
            goes ∙ ap (λ (x : Took). gathered_after x 0 rest) bad ∙ ap (λ (l : List ℕ). fault_then f (gather_from r.reader l words')) same in
            let here = pick (ltb state.faults most_named) (fault_line f) [] in
            let later = gather_from r.reader left words' in
            record {
              room = rw (counted, p) (one_fault_more state.faults f said (length said₀ + named_bytes) t.room);
              reader = ap (λ (g : Gathered). g.reader) (sym over) ∙ t.reader;
              kept = ap (λ (g : Gathered). g.words) (sym over) ∙ t.kept;
              named = ap (λ (l : List ℕ). l ++ named_from r.reader.faults later.faults) p
                  ∙ append_assoc said here (named_from r.reader.faults later.faults)
                  ∙ ap (λ (k : ℕ). said ++ (here ++ named_from k later.faults)) counted
                  ∙ ap (λ (g : Gathered). said ++ named_from state.faults g.faults) (sym over)
                  ∙ t.named;
            }
