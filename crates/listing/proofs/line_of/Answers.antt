use Rattle.std.proofs.Common.{ap, ◌∙◌}
use Rattle.std.proofs.lemmas.Result.{err_from_is_err_and}
use Rattle.refusals.specs.Numbers.{number_of}
use Rattle.listing.specs.Items.{joined}
use Rattle.listing.specs.Answers.{fill}
use Rattle.listing.proofs.Prints.{line_refused, line_is, line_filled, front}
use Rattle.listing.proofs.Single.{line_short}
use Rattle.listing.proofs.line_of.Goals as goal

pub returns-in_err-decode : goal.returns-in_err-decode
returns-in_err-decode c =
    let p = err_from_is_err_and c.from_residual.result c.from_residual.ensures.1 in
    rw (p.1, p.2) (line_refused c.args.word (number_of c.in_err-decode.field-0.0) c.in_err-decode.ensures c.args.out.now)

pub join-size-requires : goal.join-size-requires
join-size-requires c =
    let n = c.in_ok-decode.field-0 in
    rw (ap joined c.texts_of-texts.ensures) (line_short c.args.word _ (line_is c.args.word n c.in_ok-decode.ensures))

pub returns : goal.returns
returns c =
    let n = c.in_ok-decode.field-0 in
    let line = front _ _ _ _ c.join-size.ensures.size c.join-size.ensures.bytes ∙ ap joined c.texts_of-texts.ensures in
    c.fill.ensures ∙ ap (λ line. fill line c.args.out.now) line ∙ line_filled c.args.word n c.in_ok-decode.ensures c.args.out.now
