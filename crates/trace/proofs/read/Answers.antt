-- `trace::read` meets its contract: each way out is one of proofs/Answered.
use Rattle.std.proofs.Common.{◌≡◌, ◌∙◌, sym, ap, ◌*◌, ◌/◌, length, arith, rules, Err}
use Rattle.refusals.specs.declared.Refusal.TheVariants.{NotWholeBlocks, TooLong, NoRoom}
use borrow.Author.Tests.{tests, eqb-true}
use Rattle.trace.specs.Reading.{all_record_words, read_words}
use Rattle.trace.proofs.Parts.{blocks_cut}
use Rattle.trace.proofs.Answered.{refuses, refuses_whole, accepts, judged_cut, counted, read_11, read_many, read_refused, read_over, read_short, read_done}
use Rattle.trace.proofs.read.Goals as goal

pub returns-then-not-is_empty : goal.returns-then-not-is_empty
returns-then-not-is_empty c =
    let some : length c.as_chunks.result.1.now ≡ 0 → ⊥ = search (rules, tests) in
    refuses_whole NotWholeBlocks c.into.result c.into.ensures (read_11 3 c.args.trace.now (length c.args.cycles.now) (λ z. some (c.as_chunks.ensures.back_len ∙ z)))

pub returns-then-blocks-gt-MOST_BLOCKS : goal.returns-then-blocks-gt-MOST_BLOCKS
returns-then-blocks-gt-MOST_BLOCKS c =
    let even = sym c.as_chunks.ensures.back_len ∙ eqb-true _ 0 (sym c.is_empty.ensures ∙ c.if-not-is_empty.false) in
    refuses_whole TooLong c.into-then-blocks-gt-MOST_BLOCKS.result c.into-then-blocks-gt-MOST_BLOCKS.ensures
    (read_many 3 c.args.trace.now (length c.args.cycles.now) even (omega (arith, c.as_chunks.ensures.front_len, c.if-blocks-gt-MOST_BLOCKS.true)))

pub returns-in_err-records : goal.returns-in_err-records
returns-in_err-records c =
    let even = sym c.as_chunks.ensures.back_len ∙ eqb-true _ 0 (sym c.is_empty.ensures ∙ c.if-not-is_empty.false) in
    let r = c.in_err-records.field-0.0 in
    let given : c.from_residual.result ≡ Err r = search rules in
    rw given
    (refuses r (read_refused 3 c.args.trace.now (length c.args.cycles.now) even (omega (arith, c.as_chunks.ensures.front_len, c.if-blocks-gt-MOST_BLOCKS.false)) _ _
    (judged_cut 3 c.args.trace.now c.as_chunks.result.0.now _ c.as_chunks.ensures.front c.in_err-records.ensures)))

pub returns-then-records-gt-MOST_CYCLES : goal.returns-then-records-gt-MOST_CYCLES
returns-then-records-gt-MOST_CYCLES c =
    let even = sym c.as_chunks.ensures.back_len ∙ eqb-true _ 0 (sym c.is_empty.ensures ∙ c.if-not-is_empty.false) in
    let sound = judged_cut 3 c.args.trace.now c.as_chunks.result.0.now _ c.as_chunks.ensures.front c.in_ok-records.ensures in
    refuses_whole TooLong c.into-then-records-gt-MOST_CYCLES.result c.into-then-records-gt-MOST_CYCLES.ensures
    (read_over 3 c.args.trace.now (length c.args.cycles.now) even (omega (arith, c.as_chunks.ensures.front_len, c.if-blocks-gt-MOST_BLOCKS.false)) c.in_ok-records.records sound c.if-records-gt-MOST_CYCLES.true)

pub returns-then-cycles-records : goal.returns-then-cycles-records
returns-then-cycles-records c =
    let even = sym c.as_chunks.ensures.back_len ∙ eqb-true _ 0 (sym c.is_empty.ensures ∙ c.if-not-is_empty.false) in
    let sound = judged_cut 3 c.args.trace.now c.as_chunks.result.0.now _ c.as_chunks.ensures.front c.in_ok-records.ensures in
    refuses_whole NoRoom c.into-then-cycles-records.result c.into-then-cycles-records.ensures
    (read_short 3 c.args.trace.now (length c.args.cycles.now) even (omega (arith, c.as_chunks.ensures.front_len, c.if-blocks-gt-MOST_BLOCKS.false)) c.in_ok-records.records sound
    c.if-records-gt-MOST_CYCLES.false c.if-cycles-records.true)

pub copy_all-requires : goal.copy_all-requires
copy_all-requires c =
    let all = counted 3 c.as_chunks.result.0.now c.in_ok-records.records c.in_ok-records.ensures in
    (rw all (rw all at (sym c.in_ok-records.ensures)), rw all c.if-cycles-records.false)

pub returns : goal.returns
returns c =
    let even = sym c.as_chunks.ensures.back_len ∙ eqb-true _ 0 (sym c.is_empty.ensures ∙ c.if-not-is_empty.false) in
    let t = c.args.trace.now in
    let n = c.in_ok-records.records in
    let sound = judged_cut 3 t c.as_chunks.result.0.now _ c.as_chunks.ensures.front c.in_ok-records.ensures in
    let all = counted 3 c.as_chunks.result.0.now n c.in_ok-records.ensures in
    let words : all_record_words 3 c.as_chunks.result.0.now ≡ read_words 3 t = ap (all_record_words 3) (c.as_chunks.ensures.front ∙ sym (blocks_cut (length t / 512) t)) in
    accepts (3 * n) c.copy_all.new.cycles
    (read_done 3 t (length c.args.cycles.now) even (omega (arith, c.as_chunks.ensures.front_len, c.if-blocks-gt-MOST_BLOCKS.false)) n sound c.if-records-gt-MOST_CYCLES.false c.if-cycles-records.false)
    (rw (← all, ← words) c.copy_all.ensures)
