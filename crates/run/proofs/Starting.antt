-- The refusals of a whole run: what holds where none is given, each number exactly when, and what then becomes of the run.
-- The laws, in this order: `clear_start`, `start_one`, `start_two`, `start_three`, `start_four`.
use mathlib.Core.Path.{◌≡◌, refl, ◌∙◌, sym, ap}
use mathlib.Core.Bool.{Bool, true, false, not}
use mathlib.Core.List.{List, [], ◌∷◌}
use mathlib.Core.Logic.{◌↔◌}
use Prim.Native.Nat.{ℕ, ◌*◌, ◌%◌, ◌≤◌}
use native.Mathlib.Omega.{arith}
use lib.Dec.{T, eqb, ltb}
use lib.ListN.{length}
use borrow.Author.Tests.{eqb-true, eq-eqb, ne_eqb, ltb-false, le-ltb, not-false}
use Rattle.choice.specs.Checks.{check, refusal, clear}
use Rattle.choice.specs.Tells.{refused}
use Rattle.choice.proofs.Checks.{positive, cleared, exactly}
use Rattle.choice.proofs.Picks.{picked, unpicked}
use Rattle.refusals.specs.declared.Refusal.{Refusal}
use Rattle.refusals.specs.Numbers.{number_of}
use Rattle.refusals.proofs.Laws.{number_of_positive}
use Rattle.machine.specs.declared.Waiting.{Waiting}
use Rattle.machine.specs.declared.Machine.{Machine}
use Rattle.machine.specs.Judging.{may_start}
use Rattle.run.specs.declared.Ending.TheVariants.{Refused}
use Rattle.run.specs.Splitting.{words_per_cycle, cycles_in, cycles_of, words_per_report}
use Rattle.run.specs.Courses.{closing, run_from}
use Rattle.run.specs.Runs.{most_cycles, start_checks, start_refusal, run_of, Gives}

-- by the word that waits, the number of words and the room
module _ (waiting : Waiting) (words room : ℕ) where
  abbrev uneven : Bool
  uneven = not (eqb (words % words_per_cycle) 0)

  abbrev many : Bool
  many = ltb most_cycles (cycles_in words)

  abbrev short : Bool
  short = ltb room (words_per_report * cycles_in words)

  abbrev unfit : Bool
  unfit = not (may_start waiting)

  abbrev given : ℕ
  given = refusal (start_checks waiting words room)

  -- a run that is not refused as a whole: whole cycles, not too many, and room for all their reports
  pub starts : given ≡ 0 → (cycles_in words * words_per_cycle ≡ words) × (cycles_in words ≤ most_cycles) × (words_per_report * cycles_in words ≤ room)
  starts e =
      let one = cleared 1 uneven (check 2 many ∷ check 3 short ∷ check 4 unfit ∷ []) (positive 1 tt) e in
      let two = cleared 2 many (check 3 short ∷ check 4 unfit ∷ []) (positive 2 tt) one.1 in
      let three = cleared 3 short (check 4 unfit ∷ []) (positive 3 tt) two.1 in
      let even : words % words_per_cycle ≡ 0 = eqb-true (words % words_per_cycle) 0 (not-false (eqb (words % words_per_cycle) 0) one.0) in
      (omega (arith, even), ltb-false most_cycles (cycles_in words) two.0, ltb-false room (words_per_report * cycles_in words) three.0)

  -- and a word that waits may do so
  pub may_begin : given ≡ 0 → may_start waiting ≡ true
  may_begin e =
      let one = cleared 1 uneven (check 2 many ∷ check 3 short ∷ check 4 unfit ∷ []) (positive 1 tt) e in
      let two = cleared 2 many (check 3 short ∷ check 4 unfit ∷ []) (positive 2 tt) one.1 in
      let three = cleared 3 short (check 4 unfit ∷ []) (positive 3 tt) two.1 in
      not-false (may_start waiting) (cleared 4 unfit [] (positive 4 tt) three.1).0

  -- and where all that holds, none is given
  pub clear_start : words % words_per_cycle ≡ 0 → cycles_in words ≤ most_cycles → words_per_report * cycles_in words ≤ room → may_start waiting ≡ true → given ≡ 0
  clear_start even few fits may =
      rw (eq-eqb (words % words_per_cycle) 0 even, le-ltb most_cycles (cycles_in words) few, le-ltb room (words_per_report * cycles_in words) fits, may)

  -- 1: the words are no multiple of 3
  pub start_one : (given ≡ 1) ↔ (Unit {0} × (uneven ≡ true))
  start_one = exactly 1 uneven (check 2 many ∷ check 3 short ∷ check 4 unfit ∷ []) (positive 1 tt) tt [] tt

  -- 2: over 4,096 cycles
  pub start_two : (given ≡ 2) ↔ (T (clear (check 1 uneven ∷ [])) × (many ≡ true))
  start_two = exactly 2 many (check 3 short ∷ check 4 unfit ∷ []) (positive 2 tt) tt (check 1 uneven ∷ []) tt

  -- 3: the room is too short for the reports of the whole input
  pub start_three : (given ≡ 3) ↔ (T (clear (check 1 uneven ∷ check 2 many ∷ [])) × (short ≡ true))
  start_three = exactly 3 short (check 4 unfit ∷ []) (positive 3 tt) tt (check 1 uneven ∷ check 2 many ∷ []) tt

  -- 4: a word waits that is not an accepted one with an I operand
  pub start_four : (given ≡ 4) ↔ (T (clear (check 1 uneven ∷ check 2 many ∷ check 3 short ∷ [])) × (unfit ≡ true))
  start_four = exactly 4 unfit [] (positive 4 tt) tt (check 1 uneven ∷ check 2 many ∷ check 3 short ∷ []) tt

-- a run that is started, and one that is refused as a whole
pub started : (m : Machine) (words : List ℕ) (budget room : ℕ) → start_refusal m words room ≡ 0 → run_of m words budget room ≡ run_from m budget (cycles_of words)
unfolding run_of
started m words budget room e = picked (eqb (start_refusal m words room) 0) (run_from m budget (cycles_of words)) (closing (refused (start_refusal m words room))) (eq-eqb (start_refusal m words room) 0 e)

pub refused_whole : (m : Machine) (words : List ℕ) (budget room : ℕ) → eqb (start_refusal m words room) 0 ≡ false → run_of m words budget room ≡ closing (refused (start_refusal m words room))
unfolding run_of
refused_whole m words budget room e = unpicked (eqb (start_refusal m words room) 0) (run_from m budget (cycles_of words)) (closing (refused (start_refusal m words room))) e

pub refused_start : (m : Machine) (words : List ℕ) (budget : ℕ) (reports : List ℕ) (k : Refusal) → number_of k ≡ start_refusal m words (length reports)
    → Gives m (run_of m words budget (length reports)) (record { machine = m; ending = Refused (number_of k) 0; accepted = 0; completed = 0 }) reports reports
refused_start m words budget reports k e =
    let positive : eqb (start_refusal m words (length reports)) 0 ≡ false = ne_eqb _ 0 (λ z. number_of_positive k (e ∙ z)) in
    let closed : run_of m words budget (length reports) ≡ closing (refused (number_of k)) =
    refused_whole m words budget (length reports) positive ∙ ap (λ (k : ℕ). closing (refused k)) (sym e) in
    rw closed (record { answer = refl; written = refl })
