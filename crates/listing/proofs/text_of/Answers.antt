use Rattle.std.proofs.Common.{ℕ, List, refl, ap, ◌∙◌}
use Rattle.std.specs.Borrow.{Bor}
use Rattle.listing.proofs.Finds.{now_or_none, text_found, text_or_none}
use Rattle.listing.proofs.text_of.Goals as goal

pub returns : goal.returns
returns c =
    ap (λ (t : Bor (List ℕ)). t.now) c.unwrap_or.ensures
    ∙ text_or_none c.text_in.result _ refl
    ∙ ap now_or_none c.text_in.ensures
    ∙ text_found c.args.place.names.now c.args.value
