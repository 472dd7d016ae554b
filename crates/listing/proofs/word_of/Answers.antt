use Rattle.std.proofs.Common.{Ok, Err, refl, ap}
use Rattle.std.proofs.lemmas.Result.{err_from_is_err_and}
use Rattle.listing.specs.Places.{Form}
use Rattle.listing.specs.Lines.{word_of}
use Rattle.listing.proofs.Ways.{Stands, by_a, by_b, by_c, by_end, expect_on, expect_out, field_on, field_out, word_start, fields_start, end_met, encode_told}
use Rattle.listing.proofs.word_of.Goals.{After-form_of-form, In_ok-a, In_ok-b, In_ok-c}
use Rattle.listing.proofs.word_of.Goals as goal

-- where the reader stands before field A, then before B and C, and at the end
at_a : (c : After-form_of-form) → Stands c.args.line.now (word_of c.args.line.now) c.expect-2.new.self (by_a c.args.line.now c.numbered_row-row.result c.in_ok-mark.mark)
at_a c =
    let w = expect_on c.family.result (word_start c.args.line.now c.of-items.result c.of-items.ensures.items c.of-items.ensures.past) c.family.ensures c.in_ok-number.ensures in
    fields_start c.in_ok-number.number c.in_ok-mark.mark c.numbered_row-row.result (expect_on c.mode.result w c.mode.ensures c.in_ok-mark.ensures) c.numbered_row-row.ensures

at_b : (c : In_ok-a) → Stands c.args.line.now (word_of c.args.line.now) c.expect-2.new.self (by_a c.args.line.now c.numbered_row-row.result c.in_ok-mark.mark) → Stands c.args.line.now (word_of c.args.line.now) c.field.new.self (by_b c.args.line.now c.numbered_row-row.result c.in_ok-mark.mark c.in_ok-a.a)
at_b c w = field_on _ _ c.from.ensures c.form_of-form.result.a _ _ w (ap (λ (f : Form). f.a) c.form_of-form.ensures) c.in_ok-a.ensures

at_c : (c : In_ok-b) → Stands c.args.line.now (word_of c.args.line.now) c.field.new.self (by_b c.args.line.now c.numbered_row-row.result c.in_ok-mark.mark c.in_ok-a.a) → Stands c.args.line.now (word_of c.args.line.now) c.field-2.new.self (by_c c.args.line.now c.numbered_row-row.result c.in_ok-mark.mark c.in_ok-a.a c.in_ok-b.b)
at_c c w = field_on _ _ c.from-2.ensures c.form_of-form.result.b _ _ w (ap (λ (f : Form). f.b) c.form_of-form.ensures) c.in_ok-b.ensures

at_end : (c : In_ok-c) → Stands c.args.line.now (word_of c.args.line.now) c.field-2.new.self (by_c c.args.line.now c.numbered_row-row.result c.in_ok-mark.mark c.in_ok-a.a c.in_ok-b.b) → Stands c.args.line.now (word_of c.args.line.now) c.field-3.new.self (by_end c.numbered_row-row.result c.in_ok-mark.mark c.in_ok-a.a c.in_ok-b.b c.in_ok-c.c)
at_end c w = field_on c.numbered_row-row.result.c _ refl c.form_of-form.result.c _ _ w (ap (λ (f : Form). f.c) c.form_of-form.ensures) c.in_ok-c.ensures

pub returns-in_err-number : goal.returns-in_err-number
returns-in_err-number c =
    let p = err_from_is_err_and c.from_residual.result c.from_residual.ensures.1 in
    rw (p.1, p.2) (expect_out c.family.result (word_start c.args.line.now c.of-items.result c.of-items.ensures.items c.of-items.ensures.past) c.family.ensures c.in_err-number.ensures)

pub returns-in_err-mark : goal.returns-in_err-mark
returns-in_err-mark c =
    let p = err_from_is_err_and c.from_residual-in_err-mark.result c.from_residual-in_err-mark.ensures.1 in
    rw (p.1, p.2) (expect_out c.mode.result (expect_on c.family.result (word_start c.args.line.now c.of-items.result c.of-items.ensures.items c.of-items.ensures.past) c.family.ensures c.in_ok-number.ensures) c.mode.ensures c.in_err-mark.ensures)

pub returns-in_err-a : goal.returns-in_err-a
returns-in_err-a c =
    let p = err_from_is_err_and c.from_residual-in_err-a.result c.from_residual-in_err-a.ensures.1 in
    let g = goal.at.returns-in_err-a c in
    rw (p.1, p.2) (field_out _ _ c.from.ensures c.form_of-form.result.a _ _ (at_a g.After-form_of-form) (ap (λ (f : Form). f.a) c.form_of-form.ensures) c.in_err-a.ensures)

pub returns-in_err-b : goal.returns-in_err-b
returns-in_err-b c =
    let p = err_from_is_err_and c.from_residual-in_err-b.result c.from_residual-in_err-b.ensures.1 in
    let g = goal.at.returns-in_err-b c in
    rw (p.1, p.2) (field_out _ _ c.from-2.ensures c.form_of-form.result.b _ _ (at_b g.In_ok-a (at_a g.After-form_of-form)) (ap (λ (f : Form). f.b) c.form_of-form.ensures) c.in_err-b.ensures)

pub returns-in_err-c : goal.returns-in_err-c
returns-in_err-c c =
    let p = err_from_is_err_and c.from_residual-in_err-c.result c.from_residual-in_err-c.ensures.1 in
    let g = goal.at.returns-in_err-c c in
    rw (p.1, p.2) (field_out c.numbered_row-row.result.c _ refl c.form_of-form.result.c _ _ (at_c g.In_ok-b (at_b g.In_ok-a (at_a g.After-form_of-form))) (ap (λ (f : Form). f.c) c.form_of-form.ensures) c.in_err-c.ensures)

pub returns-in_err-end : goal.returns-in_err-end
returns-in_err-end c =
    let p = err_from_is_err_and c.from_residual-in_err-end.result c.from_residual-in_err-end.ensures.1 in
    let g = goal.at.returns-in_err-end c in
    rw (p.1, p.2) (end_met (at_end g.In_ok-c (at_c g.In_ok-b (at_b g.In_ok-a (at_a g.After-form_of-form)))) (Err c.in_err-end.field-0.0) c.in_err-end.ensures)

pub returns-in_err-encode : goal.returns-in_err-encode
returns-in_err-encode c =
    let p = err_from_is_err_and c.from_residual-in_err-encode.result c.from_residual-in_err-encode.ensures.1 in
    let g = goal.at.returns-in_err-encode c in
    rw (p.1, p.2) (encode_told c.numbered_row-row.result c.in_ok-mark.mark c.in_ok-a.a c.in_ok-b.b c.in_ok-c.c (end_met (at_end g.In_ok-c (at_c g.In_ok-b (at_b g.In_ok-a (at_a g.After-form_of-form)))) (Ok c.in_ok-end.field-0) c.in_ok-end.ensures) c.mode_of.ensures c.in_err-encode.ensures)

pub returns : goal.returns
returns c =
    let g = goal.at.returns c in
    encode_told c.numbered_row-row.result c.in_ok-mark.mark c.in_ok-a.a c.in_ok-b.b c.in_ok-c.c (end_met (at_end g.In_ok-c (at_c g.In_ok-b (at_b g.In_ok-a (at_a g.After-form_of-form)))) (Ok c.in_ok-end.field-0) c.in_ok-end.ensures) c.mode_of.ensures c.in_ok-encode.ensures
