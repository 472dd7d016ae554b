-- `isa::parts::Fields::status_or_prioritize_3` meets its contract: each arm is a stretch of fields over which the slot is what the arm answers.
use mathlib.Core.Path.{◌≡◌, ◌∙◌, ap}
use mathlib.Core.Bool.{not}
use lib.Dec.{eqb}
use Rattle.choice.specs.Pick.{pick}
use Rattle.choice.proofs.Decisions.{along}
use Rattle.isa.specs.Table.{no_row}
use Rattle.isa.specs.Decision.{slot_of}
use Prim.Native.Nat.{ℕ}
use native.Mathlib.Omega.{arith}
use Rattle.isa.proofs.Arms.{one_row, by_rule, some_row, parted}
use Rattle.isa.proofs.parts.Fields.status_or_prioritize_3.Goals as goal

pub returns-in-4 : goal.returns-in-4
returns-in-4 c =
    let p = c.args.self.now in
    let shown = some_row _ _ _ c.then_some.ensures in
    parted p.b 5 (λ h. by_rule 3 0 2 8 4 4 1 (λ m a b. pick (not (eqb a 9)) 21 no_row) tt p.mark p.a p.b _ (omega arith) shown)
    (λ h. by_rule 3 0 2 8 4 6 1 (λ m a b. pick (not (eqb a 9)) 21 no_row) tt p.mark p.a p.b _ (omega arith) shown)

pub returns-in-10 : goal.returns-in-10
returns-in-10 c =
    let p = c.args.self.now in
    by_rule 3 0 2 8 4 10 1 (λ m a b. pick (eqb m 0) (slot_of 0 3 a 10) no_row) tt p.mark p.a p.b _ (omega arith)
    (some_row _ _ _ c.then_some-in-10.ensures ∙ ap (λ (k : ℕ). pick (eqb p.mark 0) k no_row) (along 12 (λ k. slot_of 0 3 k 10) p.a _ c.byte_marked_3.ensures (omega arith)))

pub returns-in_default : goal.returns-in_default
returns-in_default c =
    let p = c.args.self.now in
    let ne : p.b ≡ 4 → ⊥ = grind arith in
    let nf : p.b ≡ 6 → ⊥ = grind arith in
    let ng : p.b ≡ 10 → ⊥ = grind arith in
    parted p.b 4 (λ h. one_row 3 0 2 8 4 0 4 27 tt p.mark p.a p.b (omega arith))
    (λ h. parted p.b 6 (λ k. one_row 3 0 2 8 4 5 1 27 tt p.mark p.a p.b (omega arith))
    (λ k. parted p.b 10 (λ l. one_row 3 0 2 8 4 7 3 27 tt p.mark p.a p.b (omega arith)) (λ l. one_row 3 0 2 8 4 11 1 27 tt p.mark p.a p.b (omega arith))))
