-- Runs put together: over appended cycles, and with a longer budget.
-- The laws, in this order: `run_append`, `run_longer`, `longer_begins`.
use mathlib.Core.Path.{◌≡◌, refl, ap, ◌∙◌}
use mathlib.Core.List.{List, [], ◌∷◌, ◌++◌}
use mathlib.Core.Option.{Option, none, some}
use Prim.Native.Nat.{ℕ, zero, suc, ◌+◌, ◌-◌}
use native.Mathlib.Nat.{zero-add}
use native.Mathlib.Omega.{arith}
use lib.ListN.{length, take, drop}
use Rattle.choice.specs.Tells.{Tells}
use Rattle.machine.specs.declared.Machine.{Machine}
use Rattle.machine.specs.declared.Words.{Words}
use Rattle.machine.specs.declared.Report.{Report}
use Rattle.machine.specs.Cycles.{cycle_of}
use Rattle.run.specs.Courses.{Step, Finish, done, stopped, Course, step_then, turn_then, run_from, machine_after, preceded, finished_as, continued}

step_first : (f : Finish) (v : Option Finish) (s : Step) (x y : Course) → step_then s (finished_as f v x y) ≡ finished_as f v (step_then s x) (step_then s y)
step_first done (some done) s x y = refl
step_first done (some stopped) s x y = refl
step_first stopped (some done) s x y = refl
step_first stopped (some stopped) s x y = refl
step_first done none s x y = refl
step_first stopped none s x y = refl

turn_first : (f : Finish) (answer : Tells Report) (m : Machine) (c d : Course) → turn_then answer m (continued f c d) ≡ continued f (turn_then answer m c) d
turn_first f answer m c d = by_value f answer.value
  where
    by_value : (f : Finish) (v : Option Report)
        → turn_then (record { number = answer.number; value = v }) m (continued f c d) ≡ continued f (turn_then (record { number = answer.number; value = v }) m c) d
    by_value f (some r) = step_first f c.close.value (record { machine = m; report = r }) (preceded c.steps d) c
    by_value done none = refl
    by_value stopped none = refl

-- what is left after a course: the machine, and the budget
module _ (m : Machine) (answer : Tells Report) (next : Machine) (c : Course) (P : Machine → ℕ → Course) where
  further : (f : Finish) → continued f (turn_then answer next c) (P (machine_after next c.steps) (suc (length c.steps)))
      ≡ continued f (turn_then answer next c) (P (machine_after m (turn_then answer next c).steps) (length (turn_then answer next c).steps))
  further f = by_value f answer.value
    where
      by_value : (f : Finish) (v : Option Report) → let t : Course = turn_then (record { number = answer.number; value = v }) next c in
          continued f t (P (machine_after next c.steps) (suc (length c.steps))) ≡ continued f t (P (machine_after m t.steps) (length t.steps))
      by_value f (some r) = refl
      by_value done none = refl
      by_value stopped none = refl

-- a run over appended cycles is the run over the first and then, where that is done, over the rest
pub run_append : (m : Machine) (budget : ℕ) (xs ys : List Words)
    → run_from m budget (xs ++ ys)
    ≡ continued done (run_from m budget xs) (run_from (machine_after m (run_from m budget xs).steps) (budget - length (run_from m budget xs).steps) ys)
unfolding run_from
run_append m budget [] ys =
    let e : budget ≡ budget - 0 = omega arith in
    ap (λ (b : ℕ). run_from m b ys) e
run_append m zero (x ∷ xs) ys = refl
run_append m (suc budget) (x ∷ xs) ys =
    let answer = (cycle_of m x).answer in
    let next = (cycle_of m x).machine in
    let c = run_from next budget xs in
    let e : budget - length c.steps ≡ suc budget - suc (length c.steps) = omega arith in
    ap (turn_then answer next) (run_append next budget xs ys)
    ∙ turn_first done answer next c (run_from (machine_after next c.steps) (budget - length c.steps) ys)
    ∙ ap (λ (b : ℕ). continued done (turn_then answer next c) (run_from (machine_after next c.steps) b ys)) e
    ∙ further m answer next c (λ n k. run_from n (suc budget - k) ys) done

-- a run with more budget is the run with less and then, where that stopped, the rest of the cycles with what is more
pub run_longer : (m : Machine) (budget more : ℕ) (xs : List Words)
    → run_from m (budget + more) xs
    ≡ continued stopped (run_from m budget xs) (run_from (machine_after m (run_from m budget xs).steps) more (drop (length (run_from m budget xs).steps) xs))
unfolding run_from
run_longer m budget more [] = refl
run_longer m zero more (x ∷ xs) = ap (λ (b : ℕ). run_from m b (x ∷ xs)) (zero-add more)
run_longer m (suc budget) more (x ∷ xs) =
    let answer = (cycle_of m x).answer in
    let next = (cycle_of m x).machine in
    let c = run_from next budget xs in
    let e : suc budget + more ≡ suc (budget + more) = omega arith in
    ap (λ (b : ℕ). run_from m b (x ∷ xs)) e
    ∙ ap (turn_then answer next) (run_longer next budget more xs)
    ∙ turn_first stopped answer next c (run_from (machine_after next c.steps) more (drop (length c.steps) xs))
    ∙ further m answer next c (λ n k. run_from n more (drop k (x ∷ xs))) stopped

-- so it changes nothing before the place where the shorter one closed
take_preceded : (past more : List Step) → take (length past) (past ++ more) ≡ past
take_preceded [] more = refl
take_preceded (s ∷ past) more = ap (λ (l : List Step). s ∷ l) (take_preceded past more)

take_whole : (past : List Step) → take (length past) past ≡ past
take_whole [] = refl
take_whole (s ∷ past) = ap (λ (l : List Step). s ∷ l) (take_whole past)

pub longer_begins : (m : Machine) (budget more : ℕ) (xs : List Words)
    → take (length (run_from m budget xs).steps) (run_from m (budget + more) xs).steps ≡ (run_from m budget xs).steps
longer_begins m budget more xs =
    let c = run_from m budget xs in
    ap (λ (d : Course). take (length c.steps) d.steps) (run_longer m budget more xs)
    ∙ by_value c.steps c.close.value (run_from (machine_after m c.steps) more (drop (length c.steps) xs)) c refl
  where
    by_value : (past : List Step) (v : Option Finish) (d c : Course) → c.steps ≡ past
        → take (length past) (finished_as stopped v (preceded past d) c).steps ≡ past
    by_value past (some done) d c e = rw e (take_whole past)
    by_value past (some stopped) d c e = take_preceded past d.steps
    by_value past none d c e = rw e (take_whole past)
