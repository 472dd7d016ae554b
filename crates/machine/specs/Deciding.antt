-- For the contracts of private parts alone, the judge and its parts: what a word's instruction and plan are, and that a verdict is the judgement.
-- What a cycle is judged to be is said in Judging.
use Rattle.std.specs.Prelude.{◌≡◌, ℕ, ◌<◌, Some, None, Result, Ok, Err}
use Rattle.choice.specs.Pick.{pick}
use Rattle.choice.specs.Tells.{accepted, refused}
use Rattle.refusals.specs.declared.Refusal.{Refusal}
use Rattle.refusals.specs.Numbers.{number_of}
use Rattle.isa.specs.declared.Lookup.{Lookup}
use Rattle.isa.specs.declared.Named.{Named}
use Rattle.isa.specs.Words.{named_by, decode_of, lookup_of, takes_immediate}
use Rattle.plan.specs.declared.Plan.{Plan}
use Rattle.plan.specs.Plans.{plan_of}
use Rattle.plan.specs.Reading.{names_i}
use Rattle.machine.specs.declared.Waiting.{Waiting}
use Rattle.machine.specs.declared.Words.{Words}
use Rattle.machine.specs.declared.Verdict.{Verdict}
use Rattle.machine.specs.Judging.{Refuse, Wait, Perform, word_about, operand_about, judgement_of}

-- the number of a refusal, 0 where there is none
abbrev pub fault_in : {A : Type 0} → Result A Refusal → ℕ
fault_in (Ok x) = 0
fault_in (Err k) = number_of k

-- what decoding a word tells, with the plan of its instruction, which names an I operand where the word takes one
abbrev pub Planned : ℕ → Result (Named × Plan) Refusal → Type 0
Planned w (Ok (n, p)) = (decode_of w ≡ accepted n) × (p ≡ plan_of n) × (takes_immediate w ≡ names_i p.work)
Planned w (Err k) = decode_of w ≡ refused (number_of k)

-- what the word says that a cycle is about, which is a word
abbrev pub LooksUp : Waiting → ℕ → Lookup → Type 0
LooksUp x lines found = (found ≡ lookup_of (word_about x lines)) × (word_about x lines < 0x10000)

-- the instruction of what was looked up, with its plan, or its refusal
abbrev pub PlannedBy : Lookup → Result (Named × Plan) Refusal → Type 0
PlannedBy f (Ok (n, p)) = (f.refusal ≡ None) × (n ≡ f.named) × (p ≡ plan_of n)
PlannedBy f (Err k) = f.refusal ≡ Some k

-- a verdict is the judgement, and each of its fields is fixed: it names the instruction of the word that the cycle is about, with its plan and its
-- operand, also where the cycle only begins it
abbrev pub Judges : Waiting → Words → Result Verdict Refusal → Type 0
Judges x c (Ok v) =
    (judgement_of x c ≡ pick v.begins Wait (Perform v.named v.plan v.immediate))
    × (v.named ≡ named_by (word_about x c.lines))
    × (v.plan ≡ plan_of v.named)
    × (v.immediate ≡ operand_about x c.lines)
Judges x c (Err k) = judgement_of x c ≡ Refuse (number_of k)
