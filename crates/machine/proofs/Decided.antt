-- The judge's ways out: what the pins and the word are refused with, or that they are not, gives the judgement.
use mathlib.Core.Path.{◌≡◌, ◌∙◌, sym, ap, subst}
use mathlib.Core.Bool.{Bool, true, false, not}
use mathlib.Core.List.{List, [], ◌∷◌}
use Prim.Native.Nat.{ℕ, ◌<◌}
use lib.Dec.{eqb}
use borrow.Author.Tests.{ne_eqb}
use Rattle.std.specs.Prelude.{Result, Ok, Err}
use Rattle.choice.specs.Pick.{pick}
use Rattle.choice.specs.Checks.{Check, check, refusal}
use Rattle.choice.specs.Tells.{Tells, accepted, refused}
use Rattle.choice.proofs.Checks.{held, passed, ahead, behind}
use Rattle.choice.proofs.Picks.{unpicked}
use Rattle.choice.proofs.Tells.{told_accepted}
use Rattle.refusals.specs.declared.Refusal.{Refusal}
use Rattle.refusals.specs.declared.Refusal.TheVariants.{NothingToOperate, DisabledImmediate}
use Rattle.refusals.specs.Numbers.{number_of}
use Rattle.refusals.proofs.Laws.{number_of_positive}
use Rattle.isa.specs.declared.Lookup.{Lookup}
use Rattle.isa.specs.declared.Named.{Named}
use Rattle.isa.specs.Words.{decode_of, word_checks, lookup_of, named_by, names_i as wordNamesI, takes_immediate}
use Rattle.isa.proofs.Answers.{decode_accepted, decode_refused}
use Rattle.plan.specs.declared.Plan.{Plan}
use Rattle.plan.specs.Plans.{plan_of}
use Rattle.plan.specs.Reading.{names_i}
use Rattle.plan.proofs.Laws.{word_immediate}
use Rattle.machine.specs.declared.Waiting.{Waiting}
use Rattle.machine.specs.declared.Waiting.TheVariants.{Nothing, Held}
use Rattle.machine.specs.declared.Words.{Words}
use Rattle.machine.specs.Pins.{ien_high}
use Rattle.machine.specs.Deciding.{LooksUp, PlannedBy, Planned}
use Rattle.machine.specs.Judging.{Refuse, Wait, Perform, word_about, pin_checks, begin_checks, second_checks, checks_of, accepted_as, judged, judgement_of}

-- what the checks give is the judgement
refused_by : (x : Waiting) (c : Words) (k : Refusal) → refusal (checks_of x c) ≡ number_of k → judgement_of x c ≡ Refuse (number_of k)
unfolding judgement_of
refused_by x c k e =
    ap (λ (i : ℕ). judged i (accepted_as x c)) e
    ∙ unpicked (eqb (number_of k) 0) (accepted_as x c) (Refuse (number_of k)) (ne_eqb (number_of k) 0 (number_of_positive k))

accepted_by : (x : Waiting) (c : Words) → refusal (checks_of x c) ≡ 0 → judgement_of x c ≡ accepted_as x c
unfolding judgement_of
accepted_by x c e = ap (λ (i : ℕ). judged i (accepted_as x c)) e

-- the pins are refused before any other check
pins_first : (pins : ℕ) (rest : List Check) (k : Refusal) → number_of k ≡ refusal (pin_checks pins []) → refusal (pin_checks pins rest) ≡ number_of k
pins_first pins rest k e = ahead (pin_checks pins []) rest (λ z. number_of_positive k (e ∙ z)) ∙ sym e

past_pins : (pins : ℕ) (rest : List Check) → 0 ≡ refusal (pin_checks pins []) → refusal (pin_checks pins rest) ≡ refusal rest
past_pins pins rest e = behind (pin_checks pins []) rest tt (sym e)

-- a word that is refused takes no I operand
refused_none : (w k : ℕ) → decode_of w ≡ refused k → takes_immediate w ≡ false
unfolding takes_immediate
refused_none w k e = ap (λ (t : Tells Named). wordNamesI t.value) e

-- an accepted word is planned
pub planned_right : (w : ℕ) → w < 0x10000 → (n : Named) (p : Plan) → decode_of w ≡ accepted n → p ≡ plan_of n → Planned w (Ok (n, p))
planned_right w h n p e f = (e, f, word_immediate w h n e ∙ ap (λ (p : Plan). names_i p.work) (sym f))

-- what was looked up, and its plan, are what decoding tells of the word
looked_planned : (x : Waiting) (lines : ℕ) (f : Lookup) → LooksUp x lines f → (r : Result (Named × Plan) Refusal) → PlannedBy f r → Planned (word_about x lines) r
looked_planned x lines f g (Ok (n, p)) e =
    planned_right (word_about x lines) g.1 n p (sym (decode_accepted (word_about x lines) f g.0 e.0) ∙ ap accepted (sym e.1)) e.2
looked_planned x lines f g (Err k) e = sym (decode_refused (word_about x lines) f g.0 k e)

-- the same, by what is known of the waiting word
pub planned_for : (x y : Waiting) → x ≡ y → (lines : ℕ) (f : Lookup) → LooksUp x lines f → (r : Result (Named × Plan) Refusal) → PlannedBy f r → Planned (word_about y lines) r
planned_for x y e lines f g r p = subst (λ (y : Waiting). Planned (word_about y lines) r) e (looked_planned x lines f g r p)

-- and it names that word's instruction
pub looked_named : (x : Waiting) (lines : ℕ) (f : Lookup) → LooksUp x lines f → f.named ≡ named_by (word_about x lines)
unfolding lookup_of
looked_named x lines f g = ap (λ (f : Lookup). f.named) g.0

-- an accepted word is the instruction that it names
pub named_right : (w : ℕ) (n : Named) → decode_of w ≡ accepted n → n ≡ named_by w
unfolding decode_of
named_right w n e = sym (told_accepted (refusal (word_checks w)) (named_by w) n e).1

-- with nothing waiting
module _ (x : Waiting) (c : Words) (idle : x ≡ Nothing) where
  abbrev late : Bool → List Check
  late asks = check 10 (pick asks (ien_high c.pins) false) ∷ []

  abbrev rest : List Check
  rest = check (decode_of c.lines).number (not (eqb (decode_of c.lines).number 0)) ∷ late (takes_immediate c.lines)

  begin_refused : (k : Refusal) → refusal (begin_checks c) ≡ number_of k → judgement_of x c ≡ Refuse (number_of k)
  begin_refused k e = refused_by x c k (ap (λ (x : Waiting). refusal (checks_of x c)) idle ∙ e)

  pub begin_pins : (k : Refusal) → number_of k ≡ refusal (pin_checks c.pins []) → judgement_of x c ≡ Refuse (number_of k)
  begin_pins k e = begin_refused k (pins_first c.pins rest k e)

  module _ (good : 0 ≡ refusal (pin_checks c.pins [])) where
    pub begin_word : (k : Refusal) → decode_of c.lines ≡ refused (number_of k) → judgement_of x c ≡ Refuse (number_of k)
    begin_word k e =
        begin_refused k (past_pins c.pins rest good
        ∙ ap (λ (t : Tells Named). refusal (check t.number (not (eqb t.number 0)) ∷ late (takes_immediate c.lines))) e
        ∙ held (number_of k) (not (eqb (number_of k) 0)) (late (takes_immediate c.lines)) (ap not (ne_eqb (number_of k) 0 (number_of_positive k))))

    module _ (n : Named) (p : Plan) (e : Planned c.lines (Ok (n, p))) (begins : Bool)
        (b : begins ≡ names_i p.work) where
      begun : takes_immediate c.lines ≡ begins
      begun = e.2 ∙ sym b

      begin_late : (asked : Bool) → pick begins (ien_high c.pins) false ≡ asked → refusal (begin_checks c) ≡ refusal (check 10 asked ∷ [])
      begin_late asked q =
          past_pins c.pins rest good
          ∙ ap (λ (t : Tells Named). refusal (check t.number (not (eqb t.number 0)) ∷ late (takes_immediate c.lines))) e.0
          ∙ ap (λ (a : Bool). refusal (late a)) begun
          ∙ ap (λ (a : Bool). refusal (check 10 a ∷ [])) q

      pub begin_ien : pick begins (ien_high c.pins) false ≡ true → judgement_of x c ≡ Refuse 10
      begin_ien q = begin_refused DisabledImmediate (begin_late true q)

      pub begin_good : pick begins (ien_high c.pins) false ≡ false → judgement_of x c ≡ pick begins Wait (Perform n p 0)
      begin_good q =
          accepted_by x c (ap (λ (x : Waiting). refusal (checks_of x c)) idle ∙ begin_late false q)
          ∙ ap (λ (x : Waiting). accepted_as x c) idle
          ∙ ap (λ (a : Bool). pick a Wait (Perform (named_by c.lines) (plan_of (named_by c.lines)) 0)) begun
          ∙ ap (λ (n : Named). pick begins Wait (Perform n (plan_of n) 0)) (sym (named_right c.lines n e.0))
          ∙ ap (λ (p : Plan). pick begins Wait (Perform n p 0)) (sym e.1)

-- with a word waiting
module _ (x : Waiting) (c : Words) (w : ℕ) (waits : x ≡ Held w) where
  second_refused : (k : Refusal) → refusal (second_checks w c) ≡ number_of k → judgement_of x c ≡ Refuse (number_of k)
  second_refused k e = refused_by x c k (ap (λ (x : Waiting). refusal (checks_of x c)) waits ∙ e)

  second_unfit : takes_immediate w ≡ false → judgement_of x c ≡ Refuse 4
  second_unfit e = second_refused NothingToOperate (held 4 (not (takes_immediate w)) (pin_checks c.pins []) (ap not e))

  pub second_word : (k : ℕ) → decode_of w ≡ refused k → judgement_of x c ≡ Refuse 4
  second_word k e = second_unfit (refused_none w k e)

  module _ (n : Named) (p : Plan) (e : Planned w (Ok (n, p))) where
    pub second_none : names_i p.work ≡ false → judgement_of x c ≡ Refuse 4
    second_none q = second_unfit (e.2 ∙ q)

    module _ (q : names_i p.work ≡ true) where
      second_late : refusal (second_checks w c) ≡ refusal (pin_checks c.pins [])
      second_late = passed 4 (not (takes_immediate w)) (pin_checks c.pins []) (ap not (e.2 ∙ q))

      pub second_pins : (k : Refusal) → number_of k ≡ refusal (pin_checks c.pins []) → judgement_of x c ≡ Refuse (number_of k)
      second_pins k g = second_refused k (second_late ∙ sym g)

      pub second_good : 0 ≡ refusal (pin_checks c.pins []) → judgement_of x c ≡ Perform n p c.lines
      second_good g =
          accepted_by x c (ap (λ (x : Waiting). refusal (checks_of x c)) waits ∙ second_late ∙ sym g)
          ∙ ap (λ (x : Waiting). accepted_as x c) waits
          ∙ ap (λ (n : Named). Perform n (plan_of n) c.lines) (sym (named_right w n e.0))
          ∙ ap (λ (p : Plan). Perform n p c.lines) (sym e.1)
