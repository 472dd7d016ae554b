-- Words and named instructions: what decoding and encoding tell (document 01, the instruction list and the refusal numbers).
use Rattle.std.specs.Prelude.{ℕ, zero, suc, ◌+◌, ◌*◌, ◌/◌, ◌≡◌, Bool, true, false, not, List, [], ◌∷◌, ◌++◌, eqb, leb, ltb, ◌⊎◌, Result, Ok, Err}
use Rattle.std.proofs.Math.Option.{Option, none, some}
use Rattle.choice.specs.Pick.{pick}
use Rattle.choice.specs.Checks.{Check, check, refusal, clear}
use Rattle.choice.specs.Tells.{Tells, accepted, refused, tells}
use Rattle.refusals.specs.declared.Refusal.{Refusal}
use Rattle.refusals.specs.Numbers.{number_of as refusal_number}
use Rattle.isa.specs.declared.Family.{Family}
use Rattle.isa.specs.declared.Row.{Row}
use Rattle.isa.specs.declared.Named.{Named}
use Rattle.isa.specs.declared.Lookup.{Lookup}
use Rattle.isa.specs.Fields.{mark_of, quadrant_of, field_a, field_b, field_c, word_of, mode_of, mark_for}
use Rattle.isa.specs.Sets.{has}
use Rattle.isa.specs.Table.{row_at, no_row, number_of, one_acc, bit_in_mode, numbered, refusal_of}
use Rattle.isa.specs.Slots.{takes, row_of}

-- a family takes a word (document 01, the instruction list): the word has the quadrant of the family's row, and a mode and fields that the row
-- takes. What 7, 8 and 9 mean for a word is said with it
pub record InFamily (f : Family) (w : ℕ) : Type 0 where
  pub quadrant : (row_at (number_of f)).quadrant ≡ quadrant_of w
  pub fields : takes (row_at (number_of f)) (mark_of w) (field_a w) (field_b w) (field_c w) ≡ true

-- 8: prioritize with ACC as source (B 4) and as mask (A 8)
abbrev pub acc_twice : Row → ℕ → ℕ → Bool
acc_twice r a b = pick (eqb (numbered r.rule) (numbered one_acc)) (pick (eqb a 8) (eqb b 4) false) false

-- 9: a bit instruction in byte mode with n over 7
abbrev pub bit_too_high : Row → ℕ → ℕ → Bool
bit_too_high r mark a = pick (eqb (numbered r.rule) (numbered bit_in_mode)) (pick (eqb mark 0) (ltb 7 a) false) false

-- what a row's rule refuses, in words and named instructions alike
abbrev pub rule_checks : Row → ℕ → ℕ → ℕ → List Check
rule_checks r mark a b = check 8 (acc_twice r a b) ∷ check 9 (bit_too_high r mark a) ∷ []

-- the number of the row that a word belongs to, and that row
abbrev pub word_number : ℕ → ℕ
word_number w = row_of (mark_of w) (quadrant_of w) (field_a w) (field_b w) (field_c w)

abbrev pub word_row : ℕ → Row
word_row w = row_at (word_number w)

-- a word is accepted: it is on the list, and its row's rule does not refuse it. So it is free of 7, 8 and 9 (document 01, the refusal numbers)
abbrev pub accepted_word : ℕ → Bool
accepted_word w =
    pick (leb no_row (word_number w)) false (clear (rule_checks (word_row w) (mark_of w) (field_a w) (field_b w)))

-- a test holds of some number below n
abbrev pub some_below : ℕ → (ℕ → Bool) → Bool
some_below zero test = false
some_below (suc n) test = pick (test n) true (some_below n test)

-- some accepted word agrees with a word in bits 15 to 5 (document 02, request 8); only field C can differ
abbrev pub slot_accepts : ℕ → Bool
slot_accepts w = some_below 32 (λ c. accepted_word (w / 32 * 32 + c))

-- 7 for a word: it is not on the list
abbrev pub unlisted_word : ℕ → List Check
unlisted_word w = check 7 (leb no_row (word_number w)) ∷ []

abbrev pub word_checks : ℕ → List Check
word_checks w = unlisted_word w ++ rule_checks (word_row w) (mark_of w) (field_a w) (field_b w)

-- the instruction that a word's row and fields name
abbrev pub named_by : ℕ → Named
named_by w = record { family = (word_row w).family; mode = mode_of (mark_of w); a = field_a w; b = field_b w; c = field_c w }

-- what decoding a word tells
unfoldable pub decode_of : ℕ → Tells Named
decode_of w = tells (refusal (word_checks w)) (named_by w)

-- a flat answer: the refusal, if any, and the instruction that the word's row and fields name. Of a refused word the refusal alone means something
unfoldable pub lookup_of : ℕ → Lookup
lookup_of w = record { refusal = refusal_of (refusal (word_checks w)); named = named_by w }

-- what the decoder's answer tells
abbrev pub decoded_tells : Result Named Refusal → Tells Named
decoded_tells (Ok n) = accepted n
decoded_tells (Err k) = refused (refusal_number k)

-- the row of an instruction's family
abbrev pub named_row : Named → Row
named_row n = row_at (number_of n.family)

-- an instruction of the list: its family takes its mode and fields (document 01, the instruction list)
abbrev pub Listed : Named → Type 0
Listed n = takes (named_row n) (mark_for n.mode) n.a n.b n.c ≡ true

-- 7 for a named instruction: its family does not take its mode and fields
abbrev pub unlisted_named : Named → List Check
unlisted_named n = check 7 (not (takes (named_row n) (mark_for n.mode) n.a n.b n.c)) ∷ []

abbrev pub named_checks : Named → List Check
named_checks n = unlisted_named n ++ rule_checks (named_row n) (mark_for n.mode) n.a n.b

-- the word of a named instruction of the list
abbrev pub word_for : Named → ℕ
word_for n = word_of (mark_for n.mode) (named_row n).quadrant n.a n.b n.c

-- what encoding a named instruction tells
unfoldable pub encode_of : Named → Tells ℕ
encode_of n = tells (refusal (named_checks n)) (word_for n)

-- what the encoder's answer tells
abbrev pub encoded_tells : Result ℕ Refusal → Tells ℕ
encoded_tells (Ok w) = accepted w
encoded_tells (Err k) = refused (refusal_number k)

-- the row's instruction with these values of A and B has an I operand
abbrev pub asks_i : Row → ℕ → ℕ → Bool
asks_i r a b = pick (has r.immediate a) true (has r.immediate (16 + b))

abbrev pub names_i : Option Named → Bool
names_i none = false
names_i (some n) = asks_i (named_row n) n.a n.b

-- a word is accepted, and its instruction has an I operand
unfoldable pub takes_immediate : ℕ → Bool
takes_immediate w = names_i (decode_of w).value

-- for laws: an answer is a value, or a refusal with 7, 8 or 9, which are all that a conversion gives (document 01, the refusal numbers)
abbrev pub Answered : {A : Type 0} → Tells A → A → Type 0
Answered t x = (t ≡ accepted x) ⊎ ((t ≡ refused 7) ⊎ ((t ≡ refused 8) ⊎ (t ≡ refused 9)))
