-- Each of 4 to 10 is given exactly when its condition holds and no earlier one does: with nothing waiting `begin_five`, `begin_six`,
-- `begin_word` (7, 8 and 9) and `begin_ten`, with a word waiting `second_four`, `second_five` and `second_six`; these are the numbers of the
-- cycle (`cycle_number`). From a machine that may start, 4 is not among them (`started_range`).
use mathlib.Core.Path.{◌≡◌, refl, ◌∙◌, sym, ap, subst}
use mathlib.Core.Bool.{Bool, true, false, not}
use mathlib.Core.List.{List, [], ◌∷◌}
use mathlib.Core.Logic.{◌↔◌, ⊎_elim}
use Prim.Native.Nat.{ℕ, ◌≤◌}
use native.Mathlib.Omega.{arith}
use lib.Dec.{T, eqb}
use borrow.Author.Tests.{eqb-true}
use Rattle.choice.specs.Pick.{pick}
use Rattle.choice.specs.Checks.{Check, check, refusal, clear, without}
use Rattle.choice.specs.Tells.{Tells}
use Rattle.choice.proofs.Checks.{positive, exactly}
use Rattle.choice.proofs.Spans.{never}
use Rattle.isa.specs.declared.Named.{Named}
use Rattle.isa.specs.Words.{decode_of, named_by, takes_immediate}
use Rattle.isa.proofs.Laws.{word_answered}
use Rattle.machine.specs.declared.Waiting.{Waiting}
use Rattle.machine.specs.declared.Waiting.TheVariants.{Nothing, Held}
use Rattle.machine.specs.declared.Registers.{Registers}
use Rattle.machine.specs.declared.Machine.{Machine}
use Rattle.machine.specs.declared.Words.{Words}
use Rattle.machine.specs.Pins.{ien_high, stray_pin, bus_clash}
use Rattle.machine.specs.Judging.{Judgement, Refuse, Wait, OfWord, begin_checks, second_checks, checks_of, accepted_as, judged, perform, judgement_of, may_start}
use Rattle.machine.specs.Settling.{latched}
use Rattle.machine.specs.Cycles.{turn_of, cycle_of}

-- a word's number is 0, 7, 8 or 9
by_number : (P : ℕ → Type 0) → P 0 → P 7 → P 8 → P 9 → (w : ℕ) → P (decode_of w).number
by_number P zero seven eight nine w =
    ⊎_elim (λ e. subst (λ (t : Tells Named). P t.number) (sym e) zero)
    (λ r. ⊎_elim (λ e. subst (λ (t : Tells Named). P t.number) (sym e) seven)
    (λ r. ⊎_elim (λ e. subst (λ (t : Tells Named). P t.number) (sym e) eight) (λ e. subst (λ (t : Tells Named). P t.number) (sym e) nine) r) r)
    (word_answered w)

-- with nothing waiting
module _ (c : Words) where
  abbrev number : ℕ
  number = (decode_of c.lines).number

  abbrev late : Bool
  late = pick (takes_immediate c.lines) (ien_high c.pins) false

  abbrev word : Check
  word = check number (not (eqb number 0))

  -- 5: a pin bit that must be 0 is 1
  pub begin_five : (refusal (begin_checks c) ≡ 5) ↔ (Unit {0} × (stray_pin c.pins ≡ true))
  begin_five =
      exactly 5 (stray_pin c.pins) (check 6 (bus_clash c.pins) ∷ word ∷ check 10 late ∷ []) (positive 5 tt)
      (by_number (λ d. T (without 5 (check 6 (bus_clash c.pins) ∷ check d (not (eqb d 0)) ∷ check 10 late ∷ []))) tt tt tt tt c.lines) [] tt

  -- 6: DLE is high with OE_Y low
  pub begin_six : (refusal (begin_checks c) ≡ 6) ↔ (T (clear (check 5 (stray_pin c.pins) ∷ [])) × (bus_clash c.pins ≡ true))
  begin_six =
      exactly 6 (bus_clash c.pins) (word ∷ check 10 late ∷ []) (positive 6 tt)
      (by_number (λ d. T (without 6 (check d (not (eqb d 0)) ∷ check 10 late ∷ []))) tt tt tt tt c.lines) (check 5 (stray_pin c.pins) ∷ []) tt

  -- 10: an instruction with I is begun with IEN high
  pub begin_ten : (refusal (begin_checks c) ≡ 10)
      ↔ (T (clear (check 5 (stray_pin c.pins) ∷ check 6 (bus_clash c.pins) ∷ word ∷ [])) × (late ≡ true))
  begin_ten =
      exactly 10 late [] (positive 10 tt) tt (check 5 (stray_pin c.pins) ∷ check 6 (bus_clash c.pins) ∷ word ∷ [])
      (by_number (λ d. T (without 10 (check 5 (stray_pin c.pins) ∷ check 6 (bus_clash c.pins) ∷ check d (not (eqb d 0)) ∷ []))) tt tt tt tt c.lines)

-- 7, 8 or 9: the word's own number, with good pins
word_parts : (s b t : Bool) (d k : ℕ) → OfWord k
    → (refusal (check 5 s ∷ check 6 b ∷ check d (not (eqb d 0)) ∷ check 10 t ∷ []) ≡ k) ↔ ((s ≡ false) × (b ≡ false) × (d ≡ k))
word_parts true b t d k h = ((λ e. absurd (h.not_5 (sym e))), (λ z. absurd (never (sym z.0))))
word_parts false true t d k h = ((λ e. absurd (h.not_6 (sym e))), (λ z. absurd (never (sym z.1))))
word_parts false false t d k h = by_test (eqb d 0) refl t
  where
    by_test : (z : Bool) → eqb d 0 ≡ z → (t : Bool)
        → (elim (not z) [ true ↦ d | false ↦ elim t [ true ↦ 10 | false ↦ 0 ] ] ≡ k) ↔ ((false ≡ false) × (false ≡ false) × (d ≡ k))
    by_test true q true = ((λ e. absurd (h.not_10 (sym e))), (λ z. absurd (h.not_0 (sym z.2 ∙ eqb-true d 0 q))))
    by_test true q false = ((λ e. absurd (h.not_0 (sym e))), (λ z. absurd (h.not_0 (sym z.2 ∙ eqb-true d 0 q))))
    by_test false q t = ((λ e. (refl, refl, e)), (λ z. z.2))

pub begin_word : (c : Words) (k : ℕ) → OfWord k
    → (refusal (begin_checks c) ≡ k) ↔ ((stray_pin c.pins ≡ false) × (bus_clash c.pins ≡ false) × ((decode_of c.lines).number ≡ k))
begin_word c k h = word_parts (stray_pin c.pins) (bus_clash c.pins) (late c) (number c) k h

-- with a word waiting: 4, then the pins alone
module _ (w : ℕ) (c : Words) where
  abbrev unfit : Bool
  unfit = not (takes_immediate w)

  pub second_four : (refusal (second_checks w c) ≡ 4) ↔ (Unit {0} × (unfit ≡ true))
  second_four = exactly 4 unfit (check 5 (stray_pin c.pins) ∷ check 6 (bus_clash c.pins) ∷ []) (positive 4 tt) tt [] tt

  pub second_five : (refusal (second_checks w c) ≡ 5) ↔ (T (clear (check 4 unfit ∷ [])) × (stray_pin c.pins ≡ true))
  second_five = exactly 5 (stray_pin c.pins) (check 6 (bus_clash c.pins) ∷ []) (positive 5 tt) tt (check 4 unfit ∷ []) tt

  pub second_six : (refusal (second_checks w c) ≡ 6) ↔ (T (clear (check 4 unfit ∷ check 5 (stray_pin c.pins) ∷ [])) × (bus_clash c.pins ≡ true))
  second_six = exactly 6 (bus_clash c.pins) [] (positive 6 tt) tt (check 4 unfit ∷ check 5 (stray_pin c.pins) ∷ []) tt

-- these are the numbers of the cycle
module _ (m : Machine) (c : Words) where
  abbrev r : Registers
  r = latched m.registers c.input c.pins

  number_by : (k : ℕ) (j : Judgement) → (turn_of j m r c).answer.number ≡ 0 → (turn_of (judged k j) m r c).answer.number ≡ k
  number_by k j z = by_test (eqb k 0) refl
    where
      by_test : (b : Bool) → eqb k 0 ≡ b → (turn_of (pick b j (Refuse k)) m r c).answer.number ≡ k
      by_test true q = z ∙ sym (eqb-true k 0 q)
      by_test false q = refl

  accepts : (w : Waiting) → (turn_of (accepted_as w c) m r c).answer.number ≡ 0
  accepts Nothing = by_test (takes_immediate c.lines)
    where
      by_test : (b : Bool) → (turn_of (pick b Wait (perform (named_by c.lines) 0)) m r c).answer.number ≡ 0
      by_test true = refl
      by_test false = refl
  accepts (Held w) = refl

  pub cycle_number : (cycle_of m c).answer.number ≡ refusal (checks_of m.registers.waiting c)
  unfolding cycle_of judgement_of
  cycle_number = number_by (refusal (checks_of m.registers.waiting c)) (accepted_as m.registers.waiting c) (accepts m.registers.waiting)

-- every number that a cycle's checks can give
module _ (P : ℕ → Type 0) (none : P 0) (five : P 5) (six : P 6) where
  by_pins : (stray clash : Bool) (rest : List Check) → P (refusal rest) → P (refusal (check 5 stray ∷ check 6 clash ∷ rest))
  by_pins true clash rest p = five
  by_pins false true rest p = six
  by_pins false false rest p = p

  pub begin_numbers : P 7 → P 8 → P 9 → P 10 → (c : Words) → P (refusal (begin_checks c))
  begin_numbers seven eight nine ten c = by_pins (stray_pin c.pins) (bus_clash c.pins) (word c ∷ check 10 (late c) ∷ []) (by_word (eqb (number c) 0) (late c))
    where
      by_word : (zero l : Bool) → P (elim (not zero) [ true ↦ number c | false ↦ elim l [ true ↦ 10 | false ↦ 0 ] ])
      by_word false l = by_number P none seven eight nine c.lines
      by_word true true = ten
      by_word true false = none

  pub second_numbers : P 4 → (w : ℕ) (c : Words) → P (refusal (second_checks w c))
  second_numbers four w c = by_first (not (takes_immediate w))
    where
      by_first : (b : Bool) → P (refusal (check 4 b ∷ check 5 (stray_pin c.pins) ∷ check 6 (bus_clash c.pins) ∷ []))
      by_first true = four
      by_first false = by_pins (stray_pin c.pins) (bus_clash c.pins) [] none

-- a cycle from a machine that may start is refused with none but 5 to 10
abbrev InRange : ℕ → ℕ → Type 0
InRange k j = j ≡ k → (k ≡ 0 → ⊥) → (5 ≤ k) × (k ≤ 10)

in_range : (k j : ℕ) → 5 ≤ j → j ≤ 10 → InRange k j
in_range k j lo hi q n = (omega (arith, q, lo), omega (arith, q, hi))

pub started_range : (waiting : Waiting) (c : Words) (k : ℕ) → may_start waiting ≡ true → refusal (checks_of waiting c) ≡ k → (k ≡ 0 → ⊥) → (5 ≤ k) × (k ≤ 10)
unfolding may_start
started_range Nothing c k may e n =
    begin_numbers (InRange k) (λ q m. absurd (m (sym q))) (in_range k 5 (omega arith) (omega arith)) (in_range k 6 (omega arith) (omega arith))
    (in_range k 7 (omega arith) (omega arith)) (in_range k 8 (omega arith) (omega arith)) (in_range k 9 (omega arith) (omega arith))
    (in_range k 10 (omega arith) (omega arith)) c e n
started_range (Held w) c k may e n =
    second_numbers (InRange k) (λ q m. absurd (m (sym q))) (in_range k 5 (omega arith) (omega arith)) (in_range k 6 (omega arith) (omega arith))
    (λ q m. absurd (never (sym (ap not may) ∙ ((second_four w c).0 (e ∙ sym q)).1))) w c e n
