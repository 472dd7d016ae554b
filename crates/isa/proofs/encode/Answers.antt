-- `isa::encode` meets its contract: a family's number is its row's, and rows are narrow; each way out is one of the answers that the checks lead to.
use mathlib.Core.Path.{◌≡◌, ◌∙◌, ap}
use native.Mathlib.Omega.{arith}
use Rattle.choice.specs.Tells.{accepted}
use Rattle.isa.specs.declared.Row.{Row}
use Rattle.isa.proofs.Answers.{row_own, rule_own, takes_own, fits, encoded, fill_none, fill_accepted, fill_refused}
use Rattle.isa.specs.Fields.{mark_for}
use Rattle.isa.specs.Words.{named_row}
use Rattle.isa.proofs.encode.Goals as goal

pub returns-then-not-takes : goal.returns-then-not-takes
returns-then-not-takes c = let n = c.args.named in fill_none (named_row n) (mark_for n.mode) n.a n.b n.c _ (takes_own n _ _ (row_own n _ _ c.number_of.ensures c.numbered_row-row.ensures) c.takes.ensures) c.if-not-takes.true ∙ encoded n

pub returns-in-Some : goal.returns-in-Some
returns-in-Some c =
    let n = c.args.named in
    fill_refused (named_row n) (mark_for n.mode) n.a n.b n.c _ (takes_own n _ _ (row_own n _ _ c.number_of.ensures c.numbered_row-row.ensures) c.takes.ensures) c.if-not-takes.false _ (rule_own n _ (row_own n _ _ c.number_of.ensures c.numbered_row-row.ensures) _ _ (rw c.mark_for-mark.ensures at c.rule_refusal.ensures)) _ c.in-Some.is
    ∙ encoded n

pub overflow_cast-result : goal.overflow_cast-result
overflow_cast-result c =
    let n = c.args.named in
    let e = row_own n _ _ c.number_of.ensures c.numbered_row-row.ensures in
    let h = fits n _ _ e c.takes.ensures c.if-not-takes.false in
    omega (arith, c.mark_for-mark.ensures)

pub returns : goal.returns
returns c =
    let n = c.args.named in
    let e = row_own n _ _ c.number_of.ensures c.numbered_row-row.ensures in
    let q : c.numbered_row-row.result.quadrant ≡ (named_row n).quadrant = ap (λ (r : Row). r.quadrant) e in
    ap accepted (omega (arith, c.mark_for-mark.ensures))
    ∙ fill_accepted (named_row n) (mark_for n.mode) n.a n.b n.c _ (takes_own n _ _ e c.takes.ensures) c.if-not-takes.false _ (rule_own n _ e _ _ (rw c.mark_for-mark.ensures at c.rule_refusal.ensures)) c.in_default.is
    ∙ encoded n
