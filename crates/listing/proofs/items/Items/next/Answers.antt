use Rattle.std.proofs.Common.{◌+◌, not, refl, sym, ◌∙◌, arith, rules, tests}
use Rattle.std.proofs.lemmas.Iterator.{YieldsList-from_slice}
use Rattle.std.proofs.lemmas.Iterator.Search.{position_from_yields_List}
use Rattle.std.proofs.lemmas.List.Sums.{prefix_len-le-length}
use Rattle.listing.specs.Items.{is_blank}
use Rattle.listing.proofs.Walks.{none_left, next_left, found_at, not_found, found_or_all, whole}
use Rattle.listing.proofs.items.Items.next.Goals as goal

pub returns-in_err-start : goal.returns-in_err-start
returns-in_err-start c =
    let r = c.args.self.now in
    let p = position_from_yields_List (λ b. not (is_blank b)) _ _ c.position.result c.position.ensures.ran (YieldsList-from_slice _ c.iter.ensures.rest) (λ x b q k. search (rules, tests)) in
    let e = none_left r.line.now r.at _ (whole r.at r.line.now) (not_found _ _ (sym p ∙ c.in_err-start.was)) in
    rw c.from_residual.ensures (record { line = refl; takes = (e, e) })

pub returns : goal.returns
returns c =
    let r = c.args.self.now in
    let n = c.in_ok-start.field-0 in
    let p = position_from_yields_List (λ b. not (is_blank b)) _ _ c.position.result c.position.ensures.ran (YieldsList-from_slice _ c.iter.ensures.rest) (λ x b q k. search (rules, tests)) in
    let q = position_from_yields_List is_blank _ _ c.position-2.result c.position-2.ensures.ran (YieldsList-from_slice _ c.iter-2.ensures.rest) (λ x b q k. search (rules, tests)) in
    let f = found_at _ _ n (sym p ∙ c.in_ok-start.was) in
    let m = found_or_all _ _ _ _ q (prefix_len-le-length _ _) c.unwrap_or-size.ensures in
    record {
      line = refl;
      takes = next_left r.line.now r.at n _ _ _ (whole r.at r.line.now) f.0 (omega (arith, f.0, f.1)) (whole (r.at + n) r.line.now) m;
    }
