-- One outcome to each call, one word to each line, and what a line is at most long.
-- The laws, in this order: `line_of_unique`, `data_line_unique`, `word_of_unique`, `data_of_unique`, `one_word`, `line_short`.
use mathlib.Core.Path.{◌≡◌, refl, sym, ap, ◌∙◌, subst}
use mathlib.Core.Bool.{Bool, true, false}
use mathlib.Core.List.{List, [], ◌∷◌, ◌++◌, append-nil}
use mathlib.Core.Logic.{inl, inr}
use Prim.Native.Nat.{ℕ, zero, suc, ◌+◌, ◌<◌, ◌≤◌, max}
use native.Mathlib.Omega.{arith}
use lib.Dec.{T, eqb, ltb, leb, ltb→lt, leb→le}
use borrow.Author.Tests.{eqb-true, eqb-false, leb-false}
use lib.ListN.{length, length-append}
use Rattle.std.specs.Prelude.{Result, Ok, Err}
use Rattle.choice.specs.Pick.{pick}
use Rattle.choice.specs.Tells.{accepted, refused}
use Rattle.choice.proofs.Spans.{span, below}
use Rattle.choice.specs.Checks.{refusal}
use Rattle.choice.proofs.Checks.{cleared}
use Rattle.choice.proofs.Tells.{told_accepted, accepted_one, refused_one, accepted_refused, whole_one, refused_at_one, whole_refused}
use Rattle.isa.specs.declared.Family.{Family}
use Rattle.isa.specs.declared.Named.{Named}
use Rattle.isa.specs.Fields.{mark_for, mark_of, quadrant_of, field_a, field_b, field_c}
use Rattle.isa.specs.Table.{row_at, no_row, number_of}
use Rattle.isa.specs.Words.{decode_of, encode_of, named_by, word_number, word_row, word_checks, rule_checks, Answered}
use Rattle.isa.proofs.Families.{own_row, narrow, mark_small}
use Rattle.isa.proofs.Takes.{taken, small}
use Rattle.isa.proofs.Values.{within}
use Rattle.isa.proofs.Found.{row_belongs}
use Rattle.isa.proofs.Laws.{encode_decode, encode_takes, word_answered}
use Rattle.refusals.specs.declared.Refusal.{Refusal}
use Rattle.refusals.specs.declared.Refused.{Refused}
use Rattle.refusals.specs.Numbers.{number_of as refusal_number}
use Rattle.refusals.proofs.Laws.{number_of_one}
use Rattle.listing.specs.Places.{Place, written, at_family, at_mode, form_of}
use Rattle.listing.specs.Items.{after_blanks, joined}
use Rattle.listing.specs.Lines.{text_of, field_texts, texts_by, texts_of, line_by, line_of, word_of}
use Rattle.listing.specs.Data.{data_of}
use Rattle.listing.specs.Answers.{Outcome, printed_tells, read_tells, outcome, print_into, data_into}
use Rattle.listing.proofs.Prints.{after_append}
use Rattle.listing.proofs.Tables.{most_values}
use Rattle.listing.proofs.Laws.{print_read, half}

-- what the two calls that print answer, and the two that read
abbrev Printed : Type 0
Printed = Result ℕ Refusal

abbrev Read : Type 0
Read = Result ℕ Refused

printed_one : (r s : Printed) → printed_tells r ≡ printed_tells s → r ≡ s
printed_one (Ok x) (Ok y) e = ap Ok (accepted_one x y e)
printed_one (Ok x) (Err k) e = absurd (accepted_refused x (refusal_number k) e)
printed_one (Err k) (Ok x) e = absurd (accepted_refused x (refusal_number k) (sym e))
printed_one (Err j) (Err k) e = ap Err (number_of_one j k (refused_one {A = ℕ} (refusal_number j) (refusal_number k) e))

pub line_of_unique : (w : ℕ) (before : List ℕ) (r s : Printed) (x y : List ℕ) → outcome (printed_tells r) x ≡ print_into w before → outcome (printed_tells s) y ≡ print_into w before → (r ≡ s) × (x ≡ y)
line_of_unique w before r s x y p q =
    let e = p ∙ sym q in
    (printed_one r s (ap (λ (o : Outcome). o.told) e), ap (λ (o : Outcome). o.bytes) e)

refused_same : (j k : Refusal) (a b : ℕ) → j ≡ k → a ≡ b → ◌≡◌ {A = Refused} (record { refusal = j; index = a }) (record { refusal = k; index = b })
refused_same j k a b p q = cc

read_one : (r s : Read) → read_tells r ≡ read_tells s → r ≡ s
read_one (Ok x) (Ok y) e = ap Ok (whole_one x y e)
read_one (Ok x) (Err k) e = absurd (whole_refused x (refusal_number k.refusal) k.index e)
read_one (Err k) (Ok x) e = absurd (whole_refused x (refusal_number k.refusal) k.index (sym e))
read_one (Err j) (Err k) e =
    let h = refused_at_one {A = ℕ} (refusal_number j.refusal) (refusal_number k.refusal) j.index k.index e in
    ap Err (refused_same j.refusal k.refusal j.index k.index (number_of_one j.refusal k.refusal h.0) h.1)

pub data_line_unique : (d : ℕ) (before : List ℕ) (r s : Printed) (x y : List ℕ) → outcome (printed_tells r) x ≡ data_into d before → outcome (printed_tells s) y ≡ data_into d before → (r ≡ s) × (x ≡ y)
data_line_unique d before r s x y p q =
    let e = p ∙ sym q in
    (printed_one r s (ap (λ (o : Outcome). o.told) e), ap (λ (o : Outcome). o.bytes) e)

pub word_of_unique : (line : List ℕ) (r s : Read) → read_tells r ≡ word_of line → read_tells s ≡ word_of line → r ≡ s
word_of_unique line r s p q = read_one r s (p ∙ sym q)

pub data_of_unique : (line : List ℕ) (r s : Read) → read_tells r ≡ data_of line → read_tells s ≡ data_of line → r ≡ s
data_of_unique line r s p q = read_one r s (p ∙ sym q)

-- two words with one line are one word
pub one_word : (v w : ℕ) → v < 0x10000 → w < 0x10000 → (line : List ℕ) → line_of v ≡ accepted line → line_of w ≡ accepted line → v ≡ w
one_word v w hv hw line p q = whole_one v w (sym (print_read v hv line p) ∙ print_read w hw line q)

-- the most that f is below n
abbrev most : ℕ → (ℕ → ℕ) → ℕ
most zero f = 0
most (suc n) f = max (f n) (most n f)

at_most : (n v : ℕ) (f : ℕ → ℕ) → v < n → f v ≤ most n f
at_most zero v f h = absurd (omega arith)
at_most (suc n) v f h = by_test (eqb v n) refl (at_most n v f)
  where
    by_test : (b : Bool) → eqb v n ≡ b → (v < n → f v ≤ most n f) → f v ≤ max (f n) (most n f)
    by_test true q rest = omega (arith, ap f (eqb-true v n q))
    by_test false q rest = omega (arith, rest (omega (arith, eqb-false v n q)))

-- the longest text of a place, and of a field
abbrev longest : Place → ℕ
longest p = most most_values (λ v. length (text_of p v))

abbrev longest_field : Place → ℕ
longest_field p = pick (written p) (1 + longest p) 0

abbrev pub longest_line : ℕ
longest_line = 23

abbrev short : ℕ → Bool
short i =
    leb (length (text_of at_family i) + (1 + longest at_mode + (longest_field (form_of (row_at i).family).a + (longest_field (form_of (row_at i).family).b + longest_field (form_of (row_at i).family).c)))) longest_line

all_short : T (span 0 no_row short)
all_short = tt

one_longer : (t : List ℕ) (n : ℕ) → length t ≤ n → length (after_blanks (t ∷ [])) ≤ 1 + n
one_longer t n h = simp append-nil (omega arith)

field_short : (p : Place) (v : ℕ) → v < most_values → length (after_blanks (field_texts p v)) ≤ longest_field p
field_short p v h = by_test (written p)
  where
    by_test : (b : Bool) → length (after_blanks (pick b (text_of p v ∷ []) [])) ≤ pick b (1 + longest p) 0
    by_test true =
        one_longer (text_of p v) (longest p) (at_most most_values v (λ v. length (text_of p v)) h)
    by_test false = omega arith

sum_short : (f m : List ℕ) (xs ys zs : List (List ℕ)) (k a b c n : ℕ) → length f + (1 + k + (a + (b + c))) ≤ n → length m ≤ k
    → length (after_blanks xs) ≤ a → length (after_blanks ys) ≤ b → length (after_blanks zs) ≤ c → length (joined (f ∷ m ∷ (xs ++ (ys ++ zs)))) ≤ n
sum_short f m xs ys zs k a b c n h lm la lb lc =
    rw (after_append xs (ys ++ zs), after_append ys zs) (simp length-append (omega arith))

-- the line of an instruction that has a word
texts_short : (i k a b c : ℕ) → i < no_row → k < 2 → a < most_values → b < most_values → c < most_values → length (joined (texts_by i k (form_of (row_at i).family) a b c)) ≤ longest_line
texts_short i k a b c si sk sa sb sc =
    sum_short (text_of at_family i) (text_of at_mode k) (field_texts (form_of (row_at i).family).a a) (field_texts (form_of (row_at i).family).b b) (field_texts (form_of (row_at i).family).c c)
    (longest at_mode) (longest_field (form_of (row_at i).family).a) (longest_field (form_of (row_at i).family).b) (longest_field (form_of (row_at i).family).c) longest_line
    (leb→le _ _ (below short no_row i all_short si))
    (at_most most_values k (λ v. length (text_of at_mode v)) (omega arith))
    (field_short (form_of (row_at i).family).a a sa)
    (field_short (form_of (row_at i).family).b b sb)
    (field_short (form_of (row_at i).family).c c sc)

named_short : (n : Named) (w : ℕ) → encode_of n ≡ accepted w → length (joined (texts_of n)) ≤ longest_line
named_short n w e =
    let i : ℕ = number_of n.family in
    let o = own_row n.family in
    let s = small (row_at i) (mark_for n.mode) n.a n.b n.c (narrow i o.0) (encode_takes n w e) in
    subst (λ (g : Family). length (joined (texts_by i (mark_for n.mode) (form_of g) n.a n.b n.c)) ≤ longest_line) o.1
    (texts_short i (mark_for n.mode) n.a n.b n.c o.0 (mark_small n.mode) (half n.a s.0) (half n.b s.1) s.2)

-- a number past 16 bits is no accepted word
abbrev two_modes : ℕ → Bool
two_modes i = ltb (row_at i).modes 4

all_two_modes : T (span 0 no_row two_modes)
all_two_modes = tt

accepted_small : (w : ℕ) (n : Named) → decode_of w ≡ accepted n → w < 0x10000
unfolding decode_of
accepted_small w n e =
    let i : ℕ = word_number w in
    let t = told_accepted (refusal (word_checks w)) (named_by w) n e in
    let f = cleared 7 (leb no_row i) (rule_checks (word_row w) (mark_of w) (field_a w) (field_b w)) (λ z. omega arith) t.0 in
    let b = row_belongs (mark_of w) (quadrant_of w) (field_a w) (field_b w) (field_c w) (leb-false no_row i f.0) in
    let k = taken (row_at i) (mark_of w) (field_a w) (field_b w) (field_c w) b.fields in
    let m : mark_of w < 2 = within 2 (row_at i).modes (mark_of w) (ltb→lt (row_at i).modes 4 (below two_modes no_row i all_two_modes b.listed)) k.mode in
    omega arith

-- no line is longer
pub line_short : (w : ℕ) (line : List ℕ) → line_of w ≡ accepted line → length line ≤ longest_line
unfolding line_of
line_short w line e = by_answer (word_answered w)
  where
    no : (k : ℕ) → decode_of w ≡ refused k → ⊥
    no k q = accepted_refused line k (sym e ∙ ap line_by q)

    by_answer : Answered (decode_of w) (named_by w) → length line ≤ longest_line
    by_answer (inl q) =
        subst (λ (l : List ℕ). length l ≤ longest_line) (accepted_one (joined (texts_of (named_by w))) line (sym (ap line_by q) ∙ e))
        (named_short (named_by w) w (encode_decode w (accepted_small w (named_by w) q) (named_by w) q))
    by_answer (inr (inl q)) = absurd (no 7 q)
    by_answer (inr (inr (inl q))) = absurd (no 8 q)
    by_answer (inr (inr (inr q))) = absurd (no 9 q)
