-- No page is longer than the room for it, nor is anything that is said.
-- The laws, in this order: `text_fits`, `page_text_fits`, `page_said_fits`, `unpacked_said_fits`, `piece_said_fits`, `packed_said_fits`.
use mathlib.Core.Path.{◌≡◌, refl, sym, ap, ◌∙◌}
use mathlib.Core.Bool.{Bool, true, false}
use mathlib.Core.Option.{Option, none, some}
use mathlib.Core.List.{List, [], ◌∷◌, ◌++◌, append_assoc}
use Prim.Native.Nat.{ℕ, zero, suc, ◌+◌, ◌-◌, ◌*◌, ◌/◌, ◌≤◌, ◌<◌}
use native.Mathlib.Nat.{add-zero, mul-suc}
use native.Mathlib.Numerals.{add-one}
use native.Mathlib.Omega.{arith}
use lib.ListN.{length, get_or, length-append}
use lib.Dec.{eqb, ltb}
use borrow.Author.Tests.{ltb-true, ltb-false, lt-ltb}
use Rattle.choice.specs.Pick.{pick}
use Rattle.choice.specs.Tells.{Placed}
use Rattle.choice.proofs.Picks.{picked}
use Rattle.machine.specs.declared.Waiting.{Waiting}
use Rattle.machine.specs.declared.Waiting.TheVariants.{Nothing, Held}
use Rattle.text.specs.declared.Fault.{Fault}
use Rattle.text.specs.declared.Reader.{Reader}
use Rattle.text.specs.Taking.{most_counted, one_more}
use Rattle.text.specs.Lines.{words_per_line}
use Rattle.run.specs.declared.Ending.{Ending}
use Rattle.run.specs.declared.Ending.TheVariants.{Done, Stopped, Refused}
use Rattle.run.specs.Splitting.{cycle_at}
use Rattle.run.specs.Courses.{reports_of}
use Rattle.trace.specs.Reading.{read_words}
use Rattle.run.specs.declared.Ran.{Ran}
use Rattle.run.specs.Runs.{most_cycles}
use Rattle.trace.specs.Layout.{words_per_record, joined}
use Rattle.lines.specs.declared.Program.{Program}
use Rattle.lines.specs.declared.Program.TheVariants.{RunTrace, PackTrace, UnpackTrace}
use Rattle.lines.specs.declared.Remark.TheVariants.{Waits, Marked, Unnamed, Refusal}
use Rattle.lines.specs.Remarks.{remark_line}
use Rattle.lines.specs.Lines.{state_line, register_line, refused_line, last_line}
use Rattle.lines.specs.Pages.{report_line, lines_from, register_count, page_of}
use Rattle.lines.specs.Words.{words_line, text_from, text_of, fault_line}
use Rattle.lines.proofs.Longest.{cycle_line_le, state_line_le, register_line_le, refused_line_le, last_line_le, words_line_le, fault_line_le, remark_line_le}
use Rattle.lines.proofs.Shown.{page_length}
use Rattle.pages.specs.Running.{reading_of, if_accepted, refusal_said, course_of, ran_from, run_text, wait_said, end_said, run_said, page_text, page_said}
use Rattle.pages.specs.Unpacking.{unpacked_said}
use Rattle.pages.specs.Packing.{Gathered, gather_from, most_named, named_from, is_mark, at_start, mark_said, piece_said, found_words, writing_of, written_said, if_sound, unnamed_said, packed_said}
use Rattle.pages.specs.Naming.{fault_bytes, remark_bytes, named_bytes}
use Rattle.pages.proofs.Answers.{few_steps}

-- the lines of a list by their places
lines_same : (f g : ℕ → List ℕ) (i j n : ℕ) → ((k : ℕ) → f (i + k) ≡ g (j + k)) → lines_from f i n ≡ lines_from g j n
lines_same f g i j zero e = refl
lines_same f g i j (suc n) e =
    let first : f i ≡ g j = ap f (sym (add-zero i)) ∙ e 0 ∙ ap g (add-zero j) in
    let on : (k : ℕ) → f (i + 1 + k) ≡ g (j + 1 + k) = λ k. next k in
    ap (λ (l : List ℕ). l ∷ lines_from f (i + 1) n) first ∙ ap (λ (ls : List (List ℕ)). g j ∷ ls) (lines_same f g (i + 1) (j + 1) n on)
  where
    next : (k : ℕ) → f (i + 1 + k) ≡ g (j + 1 + k)
    next k =
        let p : i + 1 + k ≡ i + suc k = omega arith in
        let q : j + suc k ≡ j + 1 + k = omega arith in
        ap f p ∙ e (suc k) ∙ ap g q

pub all_lines : (ls : List (List ℕ)) → lines_from (λ (k : ℕ). get_or ls k []) 0 (length ls) ≡ ls
all_lines [] = refl
all_lines (l ∷ ls) =
    ap (λ (rest : List (List ℕ)). l ∷ rest)
    (lines_same (λ (k : ℕ). get_or (l ∷ ls) k []) (λ (k : ℕ). get_or ls k []) (0 + 1) 0 (length ls) moved ∙ all_lines ls)
  where
    moved : (k : ℕ) → get_or (l ∷ ls) (0 + 1 + k) [] ≡ get_or ls (0 + k) []
    moved k =
        let p : 0 + 1 + k ≡ suc k = omega arith in
        let q : k ≡ 0 + k = omega arith in
        ap (λ (j : ℕ). get_or (l ∷ ls) j []) p ∙ ap (λ (j : ℕ). get_or ls j []) q

pub page_lines : (r : Ran) (reports : List ℕ) → joined (lines_from (λ (k : ℕ). get_or (page_of r reports) k []) 0 (r.accepted + 34)) ≡ joined (page_of r reports)
page_lines r reports =
    ap (λ (n : ℕ). joined (lines_from (λ (k : ℕ). get_or (page_of r reports) k []) 0 n)) (sym (page_length r reports)) ∙ ap joined (all_lines (page_of r reports))

text_lines : (words : List ℕ) (i n : ℕ) → joined (lines_from (words_line words) i n) ≡ text_from words i n
text_lines words i zero = refl
text_lines words i (suc n) =
    ap (λ (l : List ℕ). words_line words i ++ l) (text_lines words (i + 1) n ∙ ap (λ (k : ℕ). text_from words k n) (add-one i))

pub all_text : (words : List ℕ) → joined (lines_from (words_line words) 0 (length words / words_per_line)) ≡ text_of words
all_text words = text_lines words 0 (length words / words_per_line)

joined_both : (xs ys : List (List ℕ)) → joined (xs ++ ys) ≡ joined xs ++ joined ys
joined_both [] ys = refl
joined_both (x ∷ xs) ys = ap (λ (l : List ℕ). x ++ l) (joined_both xs ys) ∙ sym (append_assoc x (joined xs) (joined ys))

-- lines of at most b bytes
lines_le : (b : ℕ) (line : ℕ → List ℕ) (i n : ℕ) → ((k : ℕ) → k < i + n → length (line k) ≤ b) → length (joined (lines_from line i n)) ≤ b * n
lines_le b line i zero h = omega arith
lines_le b line i (suc n) h =
    let on = lines_le b line (i + 1) n (λ k l. h k (omega arith)) in
    rw (length-append (line i) (joined (lines_from line (i + 1) n)), mul-suc b n) (omega (arith, on, h i (omega arith)))

-- the room for a page: 19 bytes for each cycle, 32 for the state, 9 for each register, and 53 for the end
abbrev pub page_bytes : ℕ
page_bytes = 19 * most_cycles + 32 + 9 * register_count + 53

pub page_fits : (r : Ran) (reports : List ℕ) → r.accepted ≤ most_cycles → length (joined (page_of r reports)) ≤ page_bytes
unfolding page_of
page_fits r reports h =
    let cycles = lines_from (report_line reports) 0 r.accepted in
    let register : ℕ → List ℕ = λ (k : ℕ). register_line k (get_or r.machine.registers.ram k 0) in
    let registers = lines_from register 0 register_count in
    let state = state_line r.machine.registers in
    let last = last_line r.ending r.accepted in
    let first : length (joined cycles) ≤ 19 * r.accepted = lines_le 19 (report_line reports) 0 r.accepted (λ k l. cycle_line_le k _ _ _ _ (omega (arith, l, h))) in
    let second : length (joined registers) ≤ 9 * register_count = lines_le 9 register 0 register_count (λ k l. register_line_le k _) in
    rw (joined_both cycles (state ∷ (registers ++ last ∷ [])), length-append (joined cycles), length-append state, joined_both registers (last ∷ []), length-append (joined registers), length-append last [])
    (omega (arith, first, second, h, state_line_le r.machine.registers, last_line_le r.ending r.accepted))

-- and for a text: 15 bytes for each cycle
abbrev pub text_bytes : ℕ
text_bytes = 15 * most_cycles

pub text_fits : (words : List ℕ) → length words ≤ words_per_line * most_cycles → length (text_of words) ≤ text_bytes
text_fits words h =
    let n = length words / words_per_line in
    let all : length (joined (lines_from (words_line words) 0 n)) ≤ 15 * n = lines_le 15 (words_line words) 0 n (λ k l. words_line_le words k) in
    rw (← all_text words) (omega (arith, all, h))

-- what `runtrace` writes and says of any trace, and what `unpacktrace` says
module _ (answer : Placed ℕ) (text : List ℕ) (refusal : ℕ → ℕ → List ℕ) (b : ℕ) (p : length text ≤ b) (q : (k i : ℕ) → length (refusal k i) ≤ b) where
  either_fits : length (if_accepted answer text refusal) ≤ b
  either_fits = by_value answer.told.value
    where
      by_value : (v : Option ℕ) → length (if_accepted (record { told = record { number = answer.told.number; value = v }; index = answer.index }) text refusal) ≤ b
      by_value (some n) = p
      by_value none = q answer.told.number answer.index

run_text_fits : (words : List ℕ) → length (run_text words) ≤ page_bytes
unfolding run_text
run_text_fits words = page_fits (ran_from words) (reports_of (course_of words).steps) (few_steps words)

pub page_text_fits : (t : List ℕ) → length (page_text t) ≤ page_bytes
unfolding page_text
page_text_fits t =
    either_fits (reading_of t) (run_text (read_words words_per_record t)) refused_line page_bytes (run_text_fits (read_words words_per_record t)) (λ k i. omega (arith, refused_line_le k i))

refusal_said_fits : (program : Program) (k i : ℕ) → length (refusal_said program k i) ≤ remark_bytes
refusal_said_fits program k i = remark_line_le program (Refusal k i 0 0)

wait_said_fits : (w : Waiting) → length (wait_said w) ≤ remark_bytes
wait_said_fits Nothing = omega arith
wait_said_fits (Held w) = remark_line_le RunTrace (Waits w)

end_said_fits : (words : List ℕ) (e : Ending) (w : Waiting) → length (end_said words e w) ≤ remark_bytes
end_said_fits words Done w = wait_said_fits w
end_said_fits words Stopped w = wait_said_fits w
end_said_fits words (Refused k i) w = remark_line_le RunTrace (Refusal k i (cycle_at words i).lines (cycle_at words i).pins)

run_said_fits : (words : List ℕ) → length (run_said words) ≤ remark_bytes
unfolding run_said
run_said_fits words = end_said_fits words (ran_from words).ending (ran_from words).machine.registers.waiting

pub page_said_fits : (t : List ℕ) → length (page_said t) ≤ remark_bytes
unfolding page_said
page_said_fits t = either_fits (reading_of t) (run_said (read_words words_per_record t)) (refusal_said RunTrace) remark_bytes (run_said_fits (read_words words_per_record t)) (refusal_said_fits RunTrace)

pub unpacked_said_fits : (t : List ℕ) → length (unpacked_said t) ≤ remark_bytes
unfolding unpacked_said
unpacked_said_fits t = either_fits (reading_of t) [] (refusal_said UnpackTrace) remark_bytes (omega arith) (refusal_said_fits UnpackTrace)

-- what `packtrace` says of a piece, and at the end of a text
pub one_more_up : (k : ℕ) → k < most_named → one_more k ≡ k + 1
one_more_up k l = picked (ltb k most_counted) (k + 1) k (lt-ltb k most_counted (omega arith))

pub one_more_no_less : (k : ℕ) → k ≤ one_more k
one_more_no_less k = by_test (ltb k most_counted)
  where
    by_test : (b : Bool) → k ≤ pick b (k + 1) k
    by_test true = omega arith
    by_test false = omega arith

named_fits : (k : ℕ) (faults : List Fault) → length (named_from k faults) ≤ fault_bytes * (most_named - k)
named_fits k [] = omega arith
named_fits k (f ∷ faults) = by_test (ltb k most_named) refl (named_fits (one_more k) faults)
  where
    by_test : (b : Bool) → ltb k most_named ≡ b → length (named_from (one_more k) faults) ≤ fault_bytes * (most_named - one_more k)
        → length (pick b (fault_line f) [] ++ named_from (one_more k) faults) ≤ fault_bytes * (most_named - k)
    by_test true q more =
        let l : k < most_named = ltb-true k most_named q in
        rw (length-append (fault_line f) (named_from (one_more k) faults)) (omega (arith, more, fault_line_le f, one_more_up k l, l))
    by_test false q more = omega (arith, more, one_more_no_less k, ltb-false k most_named q)

mark_said_fits : (s : Reader) (text : List ℕ) → length (mark_said s text) ≤ remark_bytes
mark_said_fits s text = by_tests (at_start s) (is_mark (get_or text 0 0) (get_or text 1 0) (get_or text 2 0))
  where
    by_tests : (a b : Bool) → length (pick a (pick b (remark_line PackTrace Marked) []) []) ≤ remark_bytes
    by_tests true true = remark_line_le PackTrace Marked
    by_tests true false = omega arith
    by_tests false b = omega arith

abbrev pub said_bytes : ℕ
said_bytes = named_bytes + remark_bytes + remark_bytes

pub piece_said_fits : (s : Reader) (text words : List ℕ) → length (piece_said s text words) ≤ said_bytes
unfolding piece_said
piece_said_fits s text words =
    rw (length-append (mark_said s text) (named_from s.faults (gather_from s text words).faults))
    (omega (arith, mark_said_fits s text, named_fits s.faults (gather_from s text words).faults))

unnamed_said_fits : (k : ℕ) → length (unnamed_said k) ≤ remark_bytes
unnamed_said_fits k = by_test (ltb most_named k)
  where
    by_test : (b : Bool) → length (pick b (remark_line PackTrace (Unnamed (k - most_named))) []) ≤ remark_bytes
    by_test true = remark_line_le PackTrace (Unnamed (k - most_named))
    by_test false = omega arith

sound_fits : (b : Bool) (text : List ℕ) (n : ℕ) → length text ≤ n → length (pick b text []) ≤ n
sound_fits true text n h = h
sound_fits false text n h = omega arith

pub packed_said_fits : (s : Reader) (g : Gathered) (room : ℕ) → length (packed_said s g room) ≤ said_bytes
unfolding packed_said
packed_said_fits s g room =
    let written = written_said (found_words g) room in
    let short : length written ≤ remark_bytes = either_fits (writing_of (found_words g) room) [] (refusal_said PackTrace) remark_bytes (omega arith) (refusal_said_fits PackTrace) in
    rw (length-append (named_from s.faults g.faults) (unnamed_said g.reader.faults ++ if_sound g written), length-append (unnamed_said g.reader.faults) (if_sound g written))
    (omega (arith, named_fits s.faults g.faults, unnamed_said_fits g.reader.faults, sound_fits (eqb g.reader.faults 0) written remark_bytes short))
