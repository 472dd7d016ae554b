use Rattle.std.proofs.Common.{refl, ap, ◌∙◌}
use Rattle.listing.specs.Told.{option_told, place_told}
use Rattle.listing.specs.Reading.{left, past}
use Rattle.listing.proofs.Finds.{value_found}
use Rattle.listing.proofs.Ways.{expect_first}
use Rattle.listing.proofs.items.Items.expect.Goals as goal

pub returns : goal.returns
returns c =
    let i = c.in_ok-item.ensures in
    let p = c.args.place in
    let item = c.in_ok-item.item in
    record {
      line = i.line;
      leads = λ next.
          rw (c.ok_or.ensures.value, c.refused.ensures)
          (expect_first (past c.args.self.now) p.refusal (place_told p) item.column item.text.now (left c.args.self.now) (left c.item.new.self) c.value_in.result refl i.given
          (ap option_told c.value_in.ensures ∙ value_found p.names.now item.text.now) next);
    }
