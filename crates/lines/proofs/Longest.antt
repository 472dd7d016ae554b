-- How long a line can be.
-- The laws, in this order: `cycle_line_le`, `state_line_le`, `register_line_le`, `word_refused_line_le`, `last_line_le`, `words_line_le`,
-- `fault_line_le`, `remark_line_le`.
use Prim.{Unit}
use mathlib.Core.Path.{◌≡◌, refl}
use mathlib.Core.Bool.{Bool, true, false}
use mathlib.Core.List.{List, [], ◌∷◌, ◌++◌}
use Prim.Native.Nat.{ℕ, ◌*◌, ◌/◌, ◌%◌, ◌≤◌, ◌<◌}
use native.Mathlib.Omega.{arith}
use lib.Dec.{T, eqb, ltb, leb}
use lib.ListN.{length, take, drop, length-append, length-take}
use borrow.Author.Tests.{leb-true}
use Rattle.choice.specs.Pick.{pick}
use Rattle.choice.specs.Text.{digit, numeral, hex, trimmed, longest, decimal, ascii}
use Rattle.choice.proofs.Spans.{holds}
use Rattle.text.specs.declared.Expected.{Expected}
use Rattle.text.specs.declared.Expected.TheVariants.{Digit, Blank, Word as AWord, LineEnd}
use Rattle.text.specs.declared.Fault.{Fault}
use Rattle.text.specs.Lines.{words_per_line}
use Rattle.machine.specs.declared.Waiting.{Waiting}
use Rattle.machine.specs.declared.Waiting.TheVariants.{Nothing, Held}
use Rattle.machine.specs.declared.Registers.{Registers}
use Rattle.run.specs.declared.Ending.{Ending}
use Rattle.run.specs.declared.Ending.TheVariants.{Done, Stopped, Refused}
use Rattle.lines.specs.declared.Program.{Program}
use Rattle.lines.specs.declared.Program.TheVariants.{RunTrace, PackTrace, UnpackTrace, ListTrace, ReadList}
use Rattle.lines.specs.declared.remarks.Subject.{Subject}
use Rattle.lines.specs.declared.remarks.Subject.TheVariants.{Whole, Block, Word, Pins}
use Rattle.lines.specs.declared.Remark.{Remark}
use Rattle.lines.specs.declared.Remark.TheVariants.{NoInput, NoOutput, Waits, Marked, Unnamed, Refusal, Unread, LongLine}
use Rattle.lines.specs.Lines.{line_of, cycle_line, state_line, register_line, word_refused_line, refused_line, last_line}
use Rattle.lines.specs.Words.{after_word, words_text, words_line, expected_text, fault_line}
use Rattle.lines.specs.Remarks.{name_of, Meaning, meanings, row_for, meaning_of, place_text, refusal_text, remark_text, remark_line}
use Rattle.lines.proofs.Spelled.{length_trimmed}

-- a number has at most 20 digits, and one below 10,000 at most four
trimmed_le : (digits : List ℕ) → length (trimmed digits) ≤ length digits
trimmed_le [] = omega arith
trimmed_le (d ∷ digits) = (length_trimmed d digits).1

decimal_le : (x : ℕ) → length (decimal x) ≤ 20
unfolding decimal
decimal_le x = trimmed_le (numeral 10 longest x)

decimal_four : (x : ℕ) → x < 10000 → length (decimal x) ≤ 4
unfolding decimal
decimal_four x h =
    let none : x / 10 / 10 / 10 / 10 ≡ 0 = omega arith in
    rw none (trimmed_le (digit (x / 10 / 10 / 10 % 10) ∷ digit (x / 10 / 10 % 10) ∷ digit (x / 10 % 10) ∷ digit (x % 10) ∷ []))

pub cycle_line_le : (number y mask ct t : ℕ) → number < 10000 → length (cycle_line number y mask ct t) ≤ 19
unfolding hex cycle_line
cycle_line_le number y mask ct t h = rw (length-append (decimal number)) (omega (arith, decimal_four number h))

pub state_line_le : (r : Registers) → length (state_line r) ≤ 32
unfolding hex state_line
state_line_le r = by_waiting r.waiting
  where
    by_waiting : (w : Waiting) → length (state_line (record { ram = r.ram; acc = r.acc; latch = r.latch; status = r.status; waiting = w })) ≤ 32
    by_waiting Nothing = omega arith
    by_waiting (Held w) = omega arith

pub register_line_le : (number value : ℕ) → length (register_line number value) ≤ 9
unfolding hex register_line
register_line_le number value = by_test (eqb value 0)
  where
    by_test : (b : Bool) → length (pick b [] (line_of (114 ∷ numeral 10 2 number) (hex 4 value ∷ []))) ≤ 9
    by_test true = omega arith
    by_test false = omega arith

pub word_refused_line_le : (number : ℕ) → length (word_refused_line number) ≤ 29
unfolding word_refused_line
word_refused_line_le number = rw (length-append (decimal number)) (omega (arith, decimal_le number))

pub refused_line_le : (number index : ℕ) → length (refused_line number index) ≤ 53
unfolding refused_line
refused_line_le number index = rw (length-append (decimal number), length-append (decimal index)) (omega (arith, decimal_le number, decimal_le index))

pub last_line_le : (e : Ending) (accepted : ℕ) → length (last_line e accepted) ≤ 53
unfolding last_line
last_line_le Done accepted = rw (length-append (decimal accepted)) (omega (arith, decimal_le accepted))
last_line_le Stopped accepted = rw (length-append (decimal accepted)) (omega (arith, decimal_le accepted))
last_line_le (Refused number index) accepted = refused_line_le number index

-- a word takes five bytes of a line of words
words_text_long : (words : List ℕ) → length (words_text words) ≡ 5 * length words
unfolding hex
words_text_long [] = refl
words_text_long (x ∷ words) = rw (length-append (hex 4 x ++ after_word words ∷ []) (words_text words)) (omega (arith, words_text_long words))

pub words_line_le : (words : List ℕ) (i : ℕ) → length (words_line words i) ≤ 15
unfolding words_line
words_line_le words i = by_test (ltb i (length words / words_per_line))
  where
    line : List ℕ
    line = take words_per_line (drop (words_per_line * i) words)

    by_test : (b : Bool) → length (pick b (words_text line) []) ≤ 15
    by_test true = rw (words_text_long line) (simp length-take (omega arith))
    by_test false = omega arith

expected_le : (e : Expected) → length (expected_text e) ≤ 20
expected_le Digit = omega arith
expected_le Blank = omega arith
expected_le AWord = omega arith
expected_le LineEnd = omega arith

pub fault_line_le : (f : Fault) → length (fault_line f) ≤ 85
unfolding fault_line
fault_line_le f =
    rw (length-append (decimal f.line ++ 44 ∷ []), length-append (decimal f.line), length-append (decimal f.column ++ 58 ∷ []), length-append (decimal f.column))
    (omega (arith, decimal_le f.line, decimal_le f.column, expected_le f.expected))

name_le : (p : Program) → length (name_of p) ≤ 11
name_le RunTrace = omega arith
name_le PackTrace = omega arith
name_le UnpackTrace = omega arith
name_le ListTrace = omega arith
name_le ReadList = omega arith

-- a reason of the table, whatever the number
why_by : (b : Bool) (m : Meaning) (rest : Meaning) → length m.why ≤ 47 → length rest.why ≤ 47 → length (pick b m rest).why ≤ 47
why_by true m rest p q = p
why_by false m rest p q = q

abbrev Short : List Meaning → Type 0
Short [] = Unit {0}
Short (m ∷ ms) = T (leb (length m.why) 47) × Short ms

row_le : (k : ℕ) (ms : List Meaning) → Short ms → length (row_for k ms).why ≤ 47
row_le k [] h = omega arith
row_le k (m ∷ ms) h = why_by (eqb k m.number) m (row_for k ms) (leb-true (length m.why) 47 (holds _ h.0)) (row_le k ms h.1)

why_le : (k : ℕ) → length (meaning_of k).why ≤ 47
unfolding meaning_of
why_le k = row_le k meanings (tt, (tt, (tt, (tt, (tt, (tt, (tt, (tt, (tt, (tt, (tt, (tt, (tt, (tt, tt))))))))))))))

place_le : (s : Subject) (i w p : ℕ) → length (place_text s i w p) ≤ 45
unfolding hex
place_le Whole i w p = omega arith
place_le Block i w p = rw (length-append (decimal i ++ 58 ∷ []), length-append (decimal i)) (omega (arith, decimal_le i))
place_le Word i w p = rw (length-append (decimal i ++ 58 ∷ []), length-append (decimal i)) (omega (arith, decimal_le i))
place_le Pins i w p = rw (length-append (decimal i ++ 58 ∷ []), length-append (decimal i)) (omega (arith, decimal_le i))

refusal_le : (k i w p : ℕ) → length (refusal_text k i w p) ≤ 122
refusal_le k i w p =
    let place = place_text (meaning_of k).subject i w p in
    rw (length-append (decimal k ++ 32 ∷ []), length-append (decimal k), length-append place, length-append (meaning_of k).why)
    (omega (arith, decimal_le k, place_le (meaning_of k).subject i w p, why_le k))

remark_le : (r : Remark) → length (remark_text r) ≤ 122
unfolding remark_text hex
remark_le NoInput = omega arith
remark_le NoOutput = omega arith
remark_le (Waits w) = omega arith
remark_le Marked = omega arith
remark_le (Unnamed n) = rw (length-append (decimal n)) (omega (arith, decimal_le n))
remark_le (Refusal k i w p) = refusal_le k i w p
remark_le (Unread n) = rw (length-append (decimal n)) (omega (arith, decimal_le n))
remark_le LongLine = omega arith

pub remark_line_le : (p : Program) (r : Remark) → length (remark_line p r) ≤ 135
unfolding remark_line
remark_line_le p r = rw (length-append (name_of p ++ ascii ": "), length-append (name_of p)) (omega (arith, name_le p, remark_le r))
