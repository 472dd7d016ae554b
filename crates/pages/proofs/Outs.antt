-- The ways out of the calls, each over plain variables.
use mathlib.Core.Path.{◌≡◌, sym, ap, subst, ◌∙◌}
use mathlib.Core.Bool.{Bool, true, false}
use mathlib.Core.List.{List, [], ◌++◌, append-nil, append_assoc}
use Prim.Native.Nat.{ℕ, ◌*◌, ◌≤◌}
use native.Mathlib.Omega.{arith}
use lib.Dec.{eqb}
use lib.ListN.{length, take, drop}
use borrow.Author.Tests.{eq-eqb, ne_eqb}
use Rattle.choice.specs.Pick.{pick}
use Rattle.run.specs.declared.Ran.{Ran}
use Rattle.run.specs.Splitting.{words_per_report}
use Rattle.run.specs.Courses.{reports_of}
use Rattle.run.specs.Runs.{most_cycles, run_of, zero_machine, full_budget, Gives}
use Rattle.text.specs.declared.Reader.{Reader}
use Rattle.refusals.specs.declared.Refused.{Refused}
use Rattle.refusals.specs.Numbers.{number_of}
use Rattle.trace.specs.Layout.{words_per_record, joined}
use Rattle.trace.specs.Reading.{read_words, Reads}
use Rattle.trace.specs.Writing.{trace_of}
use Rattle.trace.specs.Writing.{Writes as WritesTrace}
use Rattle.trace.proofs.Answered.{write_says}
use Rattle.std.proofs.Common.{Option, Some, Result, Ok, Err}
use Rattle.lines.specs.declared.Program.TheVariants.{RunTrace, PackTrace, UnpackTrace}
use Rattle.lines.specs.Answers.{Makes}
use Rattle.lines.specs.Lines.{refused_line}
use Rattle.lines.specs.Pages.{page_of}
use Rattle.lines.specs.Words.{text_of}
use Rattle.lines.proofs.Answered.{made_all, makes_as, nothing_made}
use Rattle.pages.specs.declared.Written.{Written}
use Rattle.pages.specs.Writing.{Writes}
use Rattle.pages.specs.Running.{course_of, ran_from, refusal_said, end_said, run_text, run_said, page_text, page_said}
use Rattle.pages.specs.Unpacking.{unpacked_text, unpacked_said}
use Rattle.pages.specs.Packing.{Gathered, named_from, ended_from, found_words, written_text, written_said, packed_text, unnamed_said, packed_said}
use Rattle.pages.specs.Naming.{Packs}
use Rattle.pages.proofs.Answers.{cycle_room, not_read, is_read, words_le, words_read, not_written, kept_out, is_written, trace_long, trace_out, ran_is, reports_are}

-- the writer's answer
module _ (words out out' said said' : List ℕ) where
  pub refused_packs : (e : Refused) → WritesTrace words (Err e) out out' → said' ≡ said ++ refusal_said PackTrace (number_of e.refusal) e.index → Packs words 0 out said out' said'
  refused_packs e w told =
      let none : written_text words (length out) ≡ [] = not_written words out out' e w (trace_of words_per_record words) (λ (number index : ℕ). []) in
      record {
        bytes = sym (ap length none);
        blocks = kept_out words out out' e w ∙ ap (λ (l : List ℕ). l ++ drop (length l) out) (sym none);
        fits = rw none (omega arith);
        told = told ∙ ap (λ (l : List ℕ). said ++ l) (sym (not_written words out out' e w [] (refusal_said PackTrace)));
      }

  pub accepted_packs : (n : ℕ) → WritesTrace words (Ok n) out out' → said' ≡ said → Packs words n out said out' said'
  accepted_packs n w same =
      let text : written_text words (length out) ≡ trace_of words_per_record words = is_written words out out' n w (trace_of words_per_record words) (λ (number index : ℕ). []) in
      let long : length (written_text words (length out)) ≡ n = ap length text ∙ trace_long words out out' n w in
      let says = write_says 3 (length words) (length out) n (sym w.told) in
      record {
        bytes = sym long;
        blocks = trace_out words out out' n w ∙ ap (λ (l : List ℕ). l ++ drop n out) (sym text) ∙ ap (λ (k : ℕ). written_text words (length out) ++ drop k out) (sym long);
        fits = omega (arith, says.2, says.3, long);
        told = same ∙ sym (append-nil said) ∙ ap (λ (l : List ℕ). said ++ l) (sym (is_written words out out' n w [] (refusal_said PackTrace)));
      }

-- the end of a text: what is said of it, and the trace, if no line is bad
module _ (s r : Reader) (words words' out errors errors' said : List ℕ) (line : Option ℕ) (next : r ≡ (ended_from s words).reader) (kept : words' ≡ (ended_from s words).words) where
  abbrev g : Gathered
  g = ended_from s words

  pub faulty_ends : (r.faults ≡ 0 → ⊥) → said ≡ named_from s.faults g.faults ++ unnamed_said r.faults → Makes said line errors errors'
      → Writes (packed_text g (length out)) (packed_said s g (length out)) (record { output = Some 0; said = line }) out errors out errors'
  unfolding packed_text packed_said
  faulty_ends n told m =
      let bad : eqb g.reader.faults 0 ≡ false = subst (λ (x : Reader). eqb x.faults 0 ≡ false) next (ne_eqb r.faults 0 n) in
      record {
        shown = makes_as (sym (ap (λ (c : Bool). pick c (written_text (found_words g) (length out)) []) bad)) (nothing_made out);
        told = makes_as (told ∙ ap (λ (x : Reader). named_from s.faults g.faults ++ unnamed_said x.faults) next
            ∙ ap (λ (l : List ℕ). named_from s.faults g.faults ++ l) (sym (append-nil (unnamed_said g.reader.faults)) ∙ ap (λ (c : Bool). unnamed_said g.reader.faults ++ pick c (written_said (found_words g) (length out)) []) (sym bad))) m;
      }

  pub sound_ends : r.faults ≡ 0 → (n : ℕ) (before out' : List ℕ) → before ≡ named_from s.faults g.faults ++ unnamed_said r.faults → Packs (take r.found words') n out before out' said → Makes said line errors errors'
      → Writes (packed_text g (length out)) (packed_said s g (length out)) (record { output = Some n; said = line }) out errors out' errors'
  unfolding packed_text packed_said
  sound_ends e n before out' told p m =
      let good : eqb g.reader.faults 0 ≡ true = subst (λ (x : Reader). eqb x.faults 0 ≡ true) next (eq-eqb r.faults 0 e) in
      let found : take r.found words' ≡ found_words g = ap (λ (x : Reader). take x.found words') next ∙ ap (take g.reader.found) kept in
      let packs : Packs (found_words g) n out before out' said = subst (λ (l : List ℕ). Packs l n out before out' said) found p in
      let text = written_text (found_words g) (length out) in
      let more = written_said (found_words g) (length out) in
      record {
        shown = makes_as (sym (ap (λ (c : Bool). pick c text []) good)) (made_all n out' packs.fits packs.bytes packs.blocks);
        told = makes_as (packs.told ∙ ap (λ (l : List ℕ). l ++ more) (told ∙ ap (λ (x : Reader). named_from s.faults g.faults ++ unnamed_said x.faults) next)
            ∙ append_assoc (named_from s.faults g.faults) (unnamed_said g.reader.faults) more
            ∙ ap (λ (c : Bool). named_from s.faults g.faults ++ (unnamed_said g.reader.faults ++ pick c more [])) (sym good)) m;
      }

-- a trace, refused and read
module _ (t cycles cycles' : List ℕ) (answer : Result ℕ Refused) (reads_all : Reads t answer cycles cycles') (size : length cycles ≡ cycle_room) where
  read_as : (x : Result ℕ Refused) → answer ≡ x → Reads t x cycles cycles'
  read_as x e = subst (λ (f : Result ℕ Refused). Reads t f cycles cycles') e reads_all

  pub read_le : (n : ℕ) → answer ≡ Ok n → length cycles' ≡ length cycles → n ≤ length cycles
  read_le n e same_size = words_le t cycles cycles' size n (read_as (Ok n) e) same_size

  module _ (out errors out' errors' : List ℕ) (r : Written) where
    pub page_refused : (e : Refused) → answer ≡ Err e → Makes (refused_line (number_of e.refusal) e.index) r.output out out' → Makes (refusal_said RunTrace (number_of e.refusal) e.index) r.said errors errors'
        → Writes (page_text t) (page_said t) r out errors out' errors'
    unfolding page_text page_said
    page_refused e q shown told = let reads = read_as (Err e) q in record {
      shown = makes_as (sym (not_read t cycles cycles' size e reads (run_text (read_words words_per_record t)) refused_line)) shown;
      told = makes_as (sym (not_read t cycles cycles' size e reads (run_said (read_words words_per_record t)) (refusal_said RunTrace))) told;
    }

    pub unpacked_refused : (e : Refused) → answer ≡ Err e → Makes [] r.output out out' → Makes (refusal_said UnpackTrace (number_of e.refusal) e.index) r.said errors errors'
        → Writes (unpacked_text t) (unpacked_said t) r out errors out' errors'
    unfolding unpacked_text unpacked_said
    unpacked_refused e q shown told = let reads = read_as (Err e) q in record {
      shown = makes_as (sym (not_read t cycles cycles' size e reads (text_of (read_words words_per_record t)) (λ (number index : ℕ). []))) shown;
      told = makes_as (sym (not_read t cycles cycles' size e reads [] (refusal_said UnpackTrace))) told;
    }

    module _ (n : ℕ) (e : answer ≡ Ok n) (same_size : length cycles' ≡ length cycles) where
      reads : Reads t (Ok n) cycles cycles'
      reads = read_as (Ok n) e

      words_are : take n cycles' ≡ read_words words_per_record t
      words_are = words_read t cycles cycles' size n reads same_size

      pub page_read : Writes (run_text (take n cycles')) (run_said (take n cycles')) r out errors out' errors' → Writes (page_text t) (page_said t) r out errors out' errors'
      unfolding page_text page_said
      page_read w = record {
        shown = makes_as (ap run_text words_are ∙ sym (is_read t cycles cycles' size n reads same_size (run_text (read_words words_per_record t)) refused_line)) w.shown;
        told = makes_as (ap run_said words_are ∙ sym (is_read t cycles cycles' size n reads same_size (run_said (read_words words_per_record t)) (refusal_said RunTrace))) w.told;
      }

      pub unpacked_read : Makes (text_of (take n cycles')) r.output out out' → Makes [] r.said errors errors' → Writes (unpacked_text t) (unpacked_said t) r out errors out' errors'
      unfolding unpacked_text unpacked_said
      unpacked_read shown told = record {
        shown = makes_as (ap text_of words_are ∙ sym (is_read t cycles cycles' size n reads same_size (text_of (read_words words_per_record t)) (λ (number index : ℕ). []))) shown;
        told = makes_as (sym (is_read t cycles cycles' size n reads same_size [] (refusal_said UnpackTrace))) told;
      }

-- a run
pub run_shown : (words reports reports' : List ℕ) (ran : Ran) → length reports ≡ words_per_report * most_cycles → Gives zero_machine (run_of zero_machine words full_budget (length reports)) ran reports reports'
    → (page : List ℕ) → page ≡ joined (page_of ran (take (words_per_report * ran.accepted) reports'))
    → (r : Written) (out errors out' errors' : List ℕ) → Makes page r.output out out'
    → Makes (end_said words ran.ending ran.machine.registers.waiting) r.said errors errors'
    → Writes (run_text words) (run_said words) r out errors out' errors'
unfolding run_text run_said
run_shown words reports reports' ran size g page p r out errors out' errors' shown told =
    let same = ran_is words reports reports' ran size g in
    let lines : joined (page_of ran (take (words_per_report * ran.accepted) reports')) ≡ joined (page_of (ran_from words) (reports_of (course_of words).steps)) =
    ap (λ (l : List ℕ). joined (page_of ran l)) (reports_are words reports reports' ran size g) ∙ ap (λ (x : Ran). joined (page_of x (reports_of (course_of words).steps))) same in
    record {
      shown = makes_as (p ∙ lines) shown;
      told = makes_as (ap (λ (x : Ran). end_said words x.ending x.machine.registers.waiting) same) told;
    }
