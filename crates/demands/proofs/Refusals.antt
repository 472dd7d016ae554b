-- Demand 1, second part: the numbers of the answers, each exactly when, and what a refusal leaves as it was. Reader and writer first; then
-- `run_refused_exactly` (1 to 4), `cycle_refused_exactly` (5 to 10), `run_numbers` and `started_never_four`; then one cycle, one step, words and named
-- instructions.
-- Further laws, in this order: `read_refused_exactly`, `read_refused_leaves`, `write_refused_exactly`, `write_refused_leaves`,
-- `cycle_refused_leaves`, `one_cycle_refused_exactly`, `step_refused_exactly`, `step_refused_leaves`, `decode_refused_exactly`,
-- `encode_refused_exactly`.
use mathlib.Core.Path.{◌≡◌, refl, sym, ap, ap₂, subst, ◌∙◌}
use mathlib.Core.Bool.{Bool, true, false, not}
use mathlib.Core.List.{List, [], ◌∷◌}
use mathlib.Core.Logic.{◌↔◌, ◌⊎◌, inl, inr, ⊎_elim}
use Prim.Native.Nat.{ℕ, ◌*◌, ◌%◌, ◌≤◌, ◌<◌}
use native.Mathlib.Omega.{arith}
use lib.Dec.{eqb, ltb}
use lib.ListN.{length}
use borrow.Author.Tests.{eqb-true, eqb-false, ne_eqb, ltb-true, ltb-false}
use Rattle.choice.specs.Checks.{check, refusal}
use Rattle.choice.specs.Tells.{Tells, accepted, refused, tells, Placed, refused_at}
use Rattle.choice.proofs.Tells.{refused_one, refused_at_one, accepted_refused, tells_refused, told_number}
use Rattle.choice.proofs.Picks.{unpicked}
use Rattle.isa.specs.declared.Named.{Named}
use Rattle.std.specs.Prelude.{Result, Ok, Err}
use Rattle.refusals.specs.declared.Refusal.{Refusal}
use Rattle.refusals.specs.declared.Refused.{Refused}
use Rattle.refusals.specs.Numbers.{number_of as refusal_number}
use Rattle.isa.specs.Words.{named_by, word_checks, decode_of, decoded_tells, named_checks, word_for, encode_of, encoded_tells}
use Rattle.machine.specs.declared.Machine.{Machine}
use Rattle.machine.specs.declared.Words.{Words}
use Rattle.machine.specs.declared.Core.{Core}
use Rattle.machine.specs.declared.Turn.{Turn}
use Rattle.machine.specs.declared.Stepped.{Stepped}
use Rattle.machine.specs.declared.RefusedStep.{RefusedStep}
use Rattle.machine.specs.declared.Report.{Report}
use Rattle.machine.specs.Judging.{Judgement, Refuse, checks_of, accepted_as, judgement_of, may_start}
use Rattle.machine.specs.Settling.{latched}
use Rattle.machine.specs.Stepping.{machine_from, core_of, step_tells}
use Rattle.machine.specs.Cycles.{Turned, answer_tells, refused_turn, turn_of, cycle_of}
use Rattle.machine.proofs.Exactly.{cycle_number, started_range}
use Rattle.machine.proofs.Laws.{refused_unchanged, refused_numbered}
use Rattle.run.specs.declared.Ending.{Ending}
use Rattle.run.specs.declared.Ending.TheVariants.{Done, Stopped}
use Rattle.run.specs.declared.Ran.{Ran}
use Rattle.run.specs.Splitting.{cycle_at, words_per_cycle, cycles_in, words_per_report}
use Rattle.run.specs.Runs.{most_cycles, ending_tells}
use Rattle.run.proofs.Starting.{may_begin}
use Rattle.run.specs.Following.{machine_at, turn_at, Ends, CycleRefused}
use Rattle.run.proofs.Laws.{may_go_on}
use Rattle.demands.specs.Calls.{Filling, RefusedWith, RefusedAt, number_in, core_in, Decodes, Encodes, RunInput, whole_number, Runs, Cycles, ReadsTrace, WritesTrace, StepsMachine}
use Rattle.trace.specs.Layout.{words_per_record}
use Rattle.trace.specs.Answers.{filled_tells, leaves, Fills}
use Rattle.trace.specs.Writing.{write_checks}
use Rattle.trace.specs.Refusing.{Refuses}
use Rattle.trace.proofs.Exactly.{read_refuses, write_refuses}
use Rattle.demands.proofs.Following.{follows, gives_back}

-- an answer is a refusal with a number exactly when that is what it tells
refused_told : {A : Type 0} (told : Result A Refusal → Tells A) → ((x : A) → told (Ok x) ≡ accepted x)
    → ((e : Refusal) → told (Err e) ≡ refused (refusal_number e)) → (r : Result A Refusal) (k : ℕ) → RefusedWith r k ↔ (told r ≡ refused k)
refused_told told whole part (Ok x) k = ((λ e. absurd e), (λ e. absurd (accepted_refused x k (sym (whole x) ∙ e))))
refused_told told whole part (Err e) k = ((λ h. part e ∙ ap refused h), (λ h. refused_one (refusal_number e) k (sym (part e) ∙ h)))

-- reader and writer: an answer is a refusal exactly when the definition's is, and lent output is then as it was
filled_refused : (r : Result ℕ Refused) (k i : ℕ) → RefusedAt r k i ↔ (filled_tells r ≡ refused_at k i)
filled_refused (Ok n) k i = ((λ e. absurd e), (λ e. absurd (accepted_refused n k (ap (λ (p : Placed ℕ). p.told) e))))
filled_refused (Err e) k i = ((λ h. ap₂ refused_at h.0 h.1), (λ h. refused_at_one (refusal_number e.refusal) k e.index i h))

module _ (answer : Placed ℕ) (made before : List ℕ) (r : Result ℕ Refused) (after : List ℕ) (f : Fills answer made r before after) (k i : ℕ) where
  refusal_told : RefusedAt r k i ↔ (answer ≡ refused_at k i)
  refusal_told = ((λ e. sym f.told ∙ (filled_refused r k i).0 e), (λ e. (filled_refused r k i).1 (f.told ∙ e)))

  untouched : RefusedAt r k i → after ≡ before
  untouched e = f.written ∙ ap (λ (a : Placed ℕ). leaves a made before) (refusal_told.0 e)

both_ways : {A B C : Type 0} → A ↔ B → B ↔ C → A ↔ C
both_ways f g = ((λ a. g.0 (f.0 a)), (λ c. f.1 (g.1 c)))

-- `read`: 11, 2, 12 to 14, 2, 3
module _ (i : List ℕ × List ℕ) (o : Filling (Result ℕ Refused)) (p : ReadsTrace i o) (k j : ℕ) (nonzero : k ≡ 0 → ⊥) where
  pub read_refused_exactly : RefusedAt o.answer k j ↔ Refuses words_per_record i.0 (length i.1) k j
  read_refused_exactly =
      both_ways (refusal_told _ _ i.1 o.answer o.after p k j) (read_refuses words_per_record i.0 (length i.1) k j nonzero)

  pub read_refused_leaves : RefusedAt o.answer k j → o.after ≡ i.1
  read_refused_leaves e = untouched _ _ i.1 o.answer o.after p k j e

-- `write`: 1, 2, 3
module _ (i : List ℕ × List ℕ) (o : Filling (Result ℕ Refused)) (p : WritesTrace i o) (k j : ℕ) (nonzero : k ≡ 0 → ⊥) where
  pub write_refused_exactly : RefusedAt o.answer k j ↔ ((refusal (write_checks words_per_record (length i.0) (length i.1)) ≡ k) × (j ≡ 0))
  write_refused_exactly =
      both_ways (refusal_told _ _ i.1 o.answer o.after p k j) (write_refuses words_per_record (length i.0) (length i.1) k j nonzero)

  pub write_refused_leaves : RefusedAt o.answer k j → o.after ≡ i.1
  write_refused_leaves e = untouched _ _ i.1 o.answer o.after p k j e

-- the checks of a whole run give no number over 4
start_small : (one two three four : Bool) → refusal (check 1 one ∷ check 2 two ∷ check 3 three ∷ check 4 four ∷ []) ≤ 4
start_small true two three four = omega arith
start_small false true three four = omega arith
start_small false false true four = omega arith
start_small false false false true = omega arith
start_small false false false false = omega arith

-- `run`
module _ (i : RunInput) (o : Filling Ran) (p : Runs i o) where
  abbrev m : Machine
  m = i.machine

  abbrev words : List ℕ
  words = i.words

  whole_small : whole_number i ≤ 4
  whole_small =
      start_small (not (eqb (length words % words_per_cycle) 0)) (ltb most_cycles (cycles_in (length words)))
      (ltb (length i.reports) (words_per_report * cycles_in (length words))) (not (may_start m.registers.waiting))

  -- a run that is refused as a whole ends so; a started one ends at a refused cycle, which from a machine that may start has 5 to 10
  whole_ends : (whole_number i ≡ 0 → ⊥) → o.answer.ending ≡ Ending.Refused (whole_number i) 0
  whole_ends n = (gives_back i o p n).ending

  cycle_ends : whole_number i ≡ 0 → (k j : ℕ) → o.answer.ending ≡ Ending.Refused k j → CycleRefused m words i.budget k j
  cycle_ends z k j e =
      let f = follows i o p z in
      let ends = subst (Ends m words (cycles_in (length words)) i.budget o.answer.accepted) e f.ends in
      let at : j ≡ o.answer.accepted = ends.0 in
      record {
        given = omega (arith, at, ends.1);
        paid = omega (arith, at, ends.2);
        before = λ l h. f.accepted l (omega (arith, at, h));
        here = subst (λ (l : ℕ). (turn_at m words l).answer ≡ refused k) (sym at) ends.3;
      }

  cycle_range : whole_number i ≡ 0 → (k j : ℕ) → CycleRefused m words i.budget k j → (5 ≤ k) × (k ≤ 10)
  cycle_range z k j c =
      let machine : Machine = machine_at m words j in
      started_range machine.registers.waiting (cycle_at words j) k
      (may_go_on m words (may_begin m.registers.waiting (length words) (length i.reports) z) j c.before)
      (sym (cycle_number machine (cycle_at words j)) ∙ ap (λ (t : Tells Report). t.number) c.here)
      (refused_numbered machine (cycle_at words j) k c.here)

  -- so a refusal is the whole run's, or that of a cycle
  by_start : (k j : ℕ) → o.answer.ending ≡ Ending.Refused k j → ((1 ≤ k) × (whole_number i ≡ k) × (j ≡ 0)) ⊎ ((whole_number i ≡ 0) × CycleRefused m words i.budget k j)
  by_start k j e = by_test (eqb (whole_number i) 0) refl
    where
      by_test : (b : Bool) → eqb (whole_number i) 0 ≡ b → ((1 ≤ k) × (whole_number i ≡ k) × (j ≡ 0)) ⊎ ((whole_number i ≡ 0) × CycleRefused m words i.budget k j)
      by_test true q = let z = eqb-true (whole_number i) 0 q in inr (z, cycle_ends z k j e)
      by_test false q =
          let n = eqb-false (whole_number i) 0 q in
          let same = refused_at_one (whole_number i) k 0 j (ap ending_tells (sym (whole_ends n) ∙ e)) in
          inl (omega (arith, n, same.0), same.0, sym same.1)

  -- 1 to 4: the checks of the whole run give the number; the index is 0
  pub run_refused_exactly : (k j : ℕ) → 1 ≤ k → k ≤ 4 → (o.answer.ending ≡ Ending.Refused k j) ↔ ((whole_number i ≡ k) × (j ≡ 0))
  run_refused_exactly k j lo hi = ((λ e. ⊎_elim (λ h. (h.1, h.2)) (λ h. absurd (omega (arith, hi, (cycle_range h.0 k j h.1).0))) (by_start k j e)), back)
    where
      back : (whole_number i ≡ k) × (j ≡ 0) → o.answer.ending ≡ Ending.Refused k j
      back h = whole_ends (λ z. omega (arith, z, h.0, lo)) ∙ ap₂ Ending.Refused h.0 (sym h.1)

  -- 5 to 10: the run is started, and cycle j is refused, all before it being accepted and the budget reaching it
  pub cycle_refused_exactly : (k j : ℕ) → 5 ≤ k → k ≤ 10 → (o.answer.ending ≡ Ending.Refused k j) ↔ ((whole_number i ≡ 0) × CycleRefused m words i.budget k j)
  cycle_refused_exactly k j lo hi =
      ((λ e. ⊎_elim (λ h. absurd (omega (arith, lo, h.1, whole_small))) (λ h. h) (by_start k j e)), (λ h. by_ending h.0 h.1 o.answer.ending (follows i o p h.0).ends))
    where
      -- cycle j is not accepted
      not_past : whole_number i ≡ 0 → CycleRefused m words i.budget k j → j < o.answer.accepted → ⊥
      not_past z c h =
          let accepted : k ≡ 0 = sym (ap (λ (t : Tells Report). t.number) c.here) ∙ (follows i o p z).accepted j h in
          omega (arith, lo, accepted)

      by_ending : whole_number i ≡ 0 → CycleRefused m words i.budget k j → (x : Ending) → Ends m words (cycles_in (length words)) i.budget o.answer.accepted x → x ≡ Ending.Refused k j
      by_ending z c Done h = absurd (not_past z c (omega (arith, h.0, c.given)))
      by_ending z c Stopped h = absurd (not_past z c (omega (arith, h.0, c.paid)))
      by_ending z c (Ending.Refused l a) h = by_place (ltb o.answer.accepted j) (ltb j o.answer.accepted) refl refl
        where
          by_place : (b d : Bool) → ltb o.answer.accepted j ≡ b → ltb j o.answer.accepted ≡ d → Ending.Refused l a ≡ Ending.Refused k j
          by_place true d q r =
              absurd (refused_numbered (machine_at m words o.answer.accepted) (cycle_at words o.answer.accepted) l h.3
              (sym (ap (λ (t : Tells Report). t.number) h.3) ∙ c.before o.answer.accepted (ltb-true o.answer.accepted j q)))
          by_place false true q r = absurd (not_past z c (ltb-true j o.answer.accepted r))
          by_place false false q r =
              let at : o.answer.accepted ≡ j = omega (arith, ltb-false o.answer.accepted j q, ltb-false j o.answer.accepted r) in
              let same : l ≡ k = refused_one l k (sym h.3 ∙ ap (λ (x : ℕ). (turn_at m words x).answer) at ∙ c.here) in
              ap (λ (x : ℕ). Ending.Refused x a) same ∙ ap (Ending.Refused k) (h.0 ∙ at)

  -- and no run ends in another number: a started one never in 4
  pub run_numbers : (k j : ℕ) → o.answer.ending ≡ Ending.Refused k j → (1 ≤ k) × (k ≤ 10)
  run_numbers k j e =
      ⊎_elim (λ h. (h.0, omega (arith, h.1, whole_small))) (λ h. let r = cycle_range h.0 k j h.1 in (omega (arith, r.0), r.1)) (by_start k j e)

  pub started_never_four : whole_number i ≡ 0 → (j : ℕ) → o.answer.ending ≡ Ending.Refused 4 j → ⊥
  started_never_four z j e = let four = (run_refused_exactly 4 j (omega arith) (omega arith)).0 e in omega (arith, z, four.0)

-- a refused cycle, alone, gives the machine back
cycle_told : (r : Result Report Refusal) (k : ℕ) → RefusedWith r k ↔ (answer_tells r ≡ refused k)
cycle_told = refused_told answer_tells (λ x. refl) (λ e. refl)

pub cycle_refused_leaves : (m : Machine) (c : Words) (t : Turn) → Cycles (m, c) t → (k : ℕ) → RefusedWith t.answer k → t.machine ≡ m
cycle_refused_leaves m c t p k e =
    let told : (cycle_of m c).answer ≡ refused k = sym (ap (λ (x : Turned). x.answer) p) ∙ (cycle_told t.answer k).0 e in
    ap (λ (x : Turned). x.machine) p ∙ refused_unchanged m c k told

-- checks that give a number refuse
refused_by : (m : Machine) (c : Words) (k : ℕ) → (k ≡ 0 → ⊥) → refusal (checks_of m.registers.waiting c) ≡ k → cycle_of m c ≡ refused_turn m k
unfolding cycle_of judgement_of
refused_by m c k nonzero e =
    let given = refusal (checks_of m.registers.waiting c) in
    ap (λ (j : Judgement). turn_of j m (latched m.registers c.input c.pins) c)
    (unpicked (eqb given 0) (accepted_as m.registers.waiting c) (Refuse given) (ne_eqb given 0 (λ z. nonzero (sym e ∙ z))))
    ∙ ap (refused_turn m) e

told_refusal : {A : Type 0} (j k : ℕ) (x : A) → (k ≡ 0 → ⊥) → (tells j x).number ≡ k → tells j x ≡ refused k
told_refusal j k x nonzero e =
    let given : j ≡ k = sym (told_number j x) ∙ e in
    tells_refused j x (λ z. nonzero (sym given ∙ z)) ∙ ap refused given

word_refused : (w k : ℕ) → (k ≡ 0 → ⊥) → (decode_of w).number ≡ k → decode_of w ≡ refused k
unfolding decode_of
word_refused w k nonzero e = told_refusal (refusal (word_checks w)) k (named_by w) nonzero e

named_refused : (n : Named) (k : ℕ) → (k ≡ 0 → ⊥) → (encode_of n).number ≡ k → encode_of n ≡ refused k
unfolding encode_of
named_refused n k nonzero e = told_refusal (refusal (named_checks n)) k (word_for n) nonzero e

-- one cycle: its answer is a refusal exactly when its checks give the number
pub one_cycle_refused_exactly : (m : Machine) (c : Words) (t : Turn) → Cycles (m, c) t → (k : ℕ) → (k ≡ 0 → ⊥)
    → RefusedWith t.answer k ↔ (refusal (checks_of m.registers.waiting c) ≡ k)
one_cycle_refused_exactly m c t p k nonzero = (to, back)
  where
    to : RefusedWith t.answer k → refusal (checks_of m.registers.waiting c) ≡ k
    to e = sym (cycle_number m c) ∙ sym (ap (λ (x : Turned). x.answer.number) p) ∙ ap (λ (a : Tells Report). a.number) ((cycle_told t.answer k).0 e)

    back : refusal (checks_of m.registers.waiting c) ≡ k → RefusedWith t.answer k
    back e = (cycle_told t.answer k).1 (ap (λ (x : Turned). x.answer) (p ∙ refused_by m c k nonzero e))

-- one step: its number is the one that its checks give, and a refused step leaves RAM and gives the core back as it was
step_number : (ram : List ℕ) (r : Result Stepped RefusedStep) → (step_tells ram r).answer.number ≡ number_in r
step_number ram (Ok s) = refl
step_number ram (Err e) = refl

step_told : (ram : List ℕ) (r : Result Stepped RefusedStep) → (number_in r ≡ 0 → ⊥) → (step_tells ram r).answer ≡ refused (number_in r)
step_told ram (Ok s) n = absurd (n refl)
step_told ram (Err e) n = refl

step_left : (after : List ℕ) (r : Result Stepped RefusedStep) → (step_tells after r).machine ≡ machine_from after (core_in r)
step_left after (Ok s) = refl
step_left after (Err e) = refl

module _ (ram : List ℕ) (core : Core) (c : Words) (o : Filling (Result Stepped RefusedStep)) (p : StepsMachine (ram, core, c) o) where
  pub step_refused_exactly : number_in o.answer ≡ refusal (checks_of core.waiting c)
  step_refused_exactly =
      sym (step_number o.after o.answer) ∙ ap (λ (x : Turned). x.answer.number) p.turn ∙ cycle_number (machine_from ram core) c

  pub step_refused_leaves : (number_in o.answer ≡ 0 → ⊥) → (o.after ≡ ram) × (core_in o.answer ≡ core)
  step_refused_leaves n =
      let told : (cycle_of (machine_from ram core) c).answer ≡ refused (number_in o.answer) =
      sym (ap (λ (x : Turned). x.answer) p.turn) ∙ step_told o.after o.answer n in
      let same : machine_from o.after (core_in o.answer) ≡ machine_from ram core =
      sym (step_left o.after o.answer)
      ∙ ap (λ (x : Turned). x.machine) p.turn ∙ refused_unchanged (machine_from ram core) c (number_in o.answer) told in
      (ap (λ (m : Machine). m.registers.ram) same, ap (λ (m : Machine). core_of m.registers) same)

-- words and named instructions: 7, 8 or 9 exactly when decoding or encoding has that number
pub decode_refused_exactly : (w : ℕ) (r : Result Named Refusal) → Decodes w r → (k : ℕ) → (k ≡ 0 → ⊥) → RefusedWith r k ↔ ((decode_of w).number ≡ k)
decode_refused_exactly w r p k nonzero =
    let told = refused_told decoded_tells (λ x. refl) (λ e. refl) r k in (
      (λ e. ap (λ (t : Tells Named). t.number) (sym p ∙ told.0 e)),
      (λ e. told.1 (p ∙ word_refused w k nonzero e)),
    )

pub encode_refused_exactly : (n : Named) (r : Result ℕ Refusal) → Encodes n r → (k : ℕ) → (k ≡ 0 → ⊥) → RefusedWith r k ↔ ((encode_of n).number ≡ k)
encode_refused_exactly n r p k nonzero =
    let told = refused_told encoded_tells (λ x. refl) (λ e. refl) r k in (
      (λ e. ap (λ (t : Tells ℕ). t.number) (sym p ∙ told.0 e)),
      (λ e. told.1 (p ∙ named_refused n k nonzero e)),
    )
