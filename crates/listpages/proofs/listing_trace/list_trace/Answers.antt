-- `listpages::listing_trace::list_trace` meets its contract: by the reader's answer.
use Rattle.std.proofs.Common.{ap, ℕ, rules, arith}
use Rattle.std.proofs.lemmas.List.{length-take}
use Rattle.lines.specs.declared.Program.TheVariants.{ListTrace}
use Rattle.lines.specs.Lines.{refused_line, last_line}
use Rattle.lines.proofs.Answered.{makes_as}
use Rattle.pages.specs.Running.{refusal_said}
use Rattle.pages.proofs.Outs.{read_le}
use Rattle.listpages.proofs.Outs.{listed_refused, listed_read}
use Rattle.listpages.proofs.listing_trace.list_trace.Goals as goal

pub slice_bounds-cycles-end : goal.slice_bounds-cycles-end
slice_bounds-cycles-end c = omega (arith, read_le c.args.trace.now _ _ _ c.read.ensures (search rules) _ c.in-Ok.is (search rules))

pub slice_bounds-list_words-end : goal.slice_bounds-list_words-end
slice_bounds-list_words-end c = simp length-take (omega (arith, read_le c.args.trace.now _ _ _ c.read.ensures (search rules) _ c.in-Ok.is (search rules)))

pub list_words-requires : goal.list_words-requires
list_words-requires c = simp length-take (omega (arith, read_le c.args.trace.now _ _ _ c.read.ensures (search rules) _ c.in-Ok.is (search rules)))

pub slice_bounds-cycles-end-in-Ok : goal.slice_bounds-cycles-end-in-Ok
slice_bounds-cycles-end-in-Ok c = omega (arith, read_le c.args.trace.now _ _ _ c.read.ensures (search rules) _ c.in-Ok.is (search rules))

pub slice_bounds-say_refused_word-end : goal.slice_bounds-say_refused_word-end
slice_bounds-say_refused_word-end c = simp length-take (omega (arith, read_le c.args.trace.now _ _ _ c.read.ensures (search rules) _ c.in-Ok.is (search rules)))

pub returns-in-Err : goal.returns-in-Err
unfolding last_line
returns-in-Err c =
    let e = c.in-Err.refused in
    listed_refused c.args.trace.now _ _ _ c.read.ensures (search rules) _ _ _ _ _ _ c.in-Err.is
    (makes_as (ap (λ (k : ℕ). refused_line k e.index) c.from-number.ensures) c.last_line.ensures)
    (makes_as (ap (λ (k : ℕ). refusal_said ListTrace k e.index) c.from-number.ensures) c.remark_line.ensures)

pub returns-in-Ok : goal.returns-in-Ok
returns-in-Ok c = listed_read c.args.trace.now _ _ _ c.read.ensures (search rules) _ _ _ _ _ _ c.in-Ok.is (search rules) c.list_words.ensures c.say_refused_word.ensures
