use Rattle.std.proofs.Common.{Ok, Err}
use Rattle.std.proofs.lemmas.Result.{err_from_is_err_and}
use Rattle.listing.proofs.Ways.{data_start, data_on, data_out, end_met}
use Rattle.listing.proofs.data_of.Goals as goal

pub returns-in_err-data : goal.returns-in_err-data
returns-in_err-data c =
    let w₀ = data_start c.args.line.now c.of-items.result c.of-items.ensures.items c.of-items.ensures.past in
    let p = err_from_is_err_and c.from_residual.result c.from_residual.ensures.1 in
    rw (p.1, p.2) (data_out w₀ c.in_err-data.ensures)

pub returns-in_err-end : goal.returns-in_err-end
returns-in_err-end c =
    let w₀ = data_start c.args.line.now c.of-items.result c.of-items.ensures.items c.of-items.ensures.past in
    let p = err_from_is_err_and c.from_residual-in_err-end.result c.from_residual-in_err-end.ensures.1 in
    rw (p.1, p.2) (end_met (data_on w₀ c.in_ok-data.ensures) (Err c.in_err-end.field-0.0) c.in_err-end.ensures)

pub returns : goal.returns
returns c =
    let w₀ = data_start c.args.line.now c.of-items.result c.of-items.ensures.items c.of-items.ensures.past in
    end_met (data_on w₀ c.in_ok-data.ensures) (Ok c.in_ok-end.field-0) c.in_ok-end.ensures
