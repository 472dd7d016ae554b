-- Whether a cycle is refused, waits, or performs an instruction (document 01, the machine and one cycle; runs, blocks and refusal numbers).
-- No register but the waiting word is looked at.
use Rattle.std.specs.Prelude.{◌≡◌, ℕ, Bool, true, false, not, List, [], ◌∷◌, eqb}
use Rattle.choice.specs.Pick.{pick}
use Rattle.choice.specs.Checks.{Check, check, refusal}
use Rattle.isa.specs.declared.Named.{Named}
use Rattle.isa.specs.Words.{decode_of, named_by, takes_immediate}
use Rattle.plan.specs.declared.Plan.{Plan}
use Rattle.plan.specs.Plans.{plan_of}
use Rattle.machine.specs.declared.Waiting.{Waiting}
use Rattle.machine.specs.declared.Waiting.TheVariants.{Nothing, Held}
use Rattle.machine.specs.declared.Words.{Words}
use Rattle.machine.specs.Pins.{ien_high, stray_pin, bus_clash}

-- a cycle is refused with a number, or is the first of two, or performs an instruction by its plan, with its I operand
pub data Judgement : Type 0 where
  Refuse : ℕ → Judgement
  Wait : Judgement
  Perform : Named → Plan → ℕ → Judgement

-- the pins of any cycle
abbrev pub pin_checks : ℕ → List Check → List Check
pin_checks pins rest = check 5 (stray_pin pins) ∷ check 6 (bus_clash pins) ∷ rest

-- with nothing waiting: the pins; 7, 8 or 9, which is decoding's own number; 10 for an instruction with I begun with IEN high
abbrev pub begin_checks : Words → List Check
begin_checks c =
    pin_checks c.pins
    (check (decode_of c.lines).number (not (eqb (decode_of c.lines).number 0))
    ∷ check 10 (pick (takes_immediate c.lines) (ien_high c.pins) false)
    ∷ [])

-- with a word waiting: 4 if it may not wait, then the pins; the lines are the operand, any value
abbrev pub second_checks : ℕ → Words → List Check
second_checks w c = check 4 (not (takes_immediate w)) ∷ pin_checks c.pins []

abbrev pub checks_of : Waiting → Words → List Check
checks_of Nothing c = begin_checks c
checks_of (Held w) c = second_checks w c

-- the word that a cycle is about: the one that waits, since the lines are then the operand and never decoded, or the lines
abbrev pub word_about : Waiting → ℕ → ℕ
word_about Nothing lines = lines
word_about (Held w) lines = w

-- the I operand of a cycle: its lines, where a word waits. An instruction that is performed at once has none, and 0 stands for it
abbrev pub operand_about : Waiting → ℕ → ℕ
operand_about Nothing lines = 0
operand_about (Held w) lines = lines

-- how many words wait
abbrev pub waiting_words : Waiting → ℕ
waiting_words Nothing = 0
waiting_words (Held w) = 1

-- an instruction is performed by its plan
abbrev pub perform : Named → ℕ → Judgement
perform n immediate = Perform n (plan_of n) immediate

-- what an accepted cycle is
abbrev pub accepted_as : Waiting → Words → Judgement
accepted_as Nothing c = pick (takes_immediate c.lines) Wait (perform (named_by c.lines) 0)
accepted_as (Held w) c = perform (named_by w) c.lines

abbrev pub judged : ℕ → Judgement → Judgement
judged k j = pick (eqb k 0) j (Refuse k)

unfoldable pub judgement_of : Waiting → Words → Judgement
judgement_of w c = judged (refusal (checks_of w c)) (accepted_as w c)

-- code 4 for the start of a run: nothing waits, or an accepted word with an I operand
unfoldable pub may_start : Waiting → Bool
may_start Nothing = true
may_start (Held w) = takes_immediate w

-- for a law: a number that neither the pins nor IEN give, with nothing waiting. Decoding gives no such number but 7, 8 and 9 (isa, `word_answered`)
pub record OfWord (k : ℕ) : Type 0 where
  pub not_0 : k ≡ 0 → ⊥
  pub not_5 : k ≡ 5 → ⊥
  pub not_6 : k ≡ 6 → ⊥
  pub not_10 : k ≡ 10 → ⊥
