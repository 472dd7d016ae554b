-- `pages::running::run_trace` meets its contract: by the reader's answer.
use Rattle.std.proofs.Common.{ap, ℕ, rules, arith}
use Rattle.std.proofs.lemmas.List.{length-take}
use Rattle.lines.specs.declared.Program.TheVariants.{RunTrace}
use Rattle.lines.specs.Lines.{refused_line, last_line}
use Rattle.lines.specs.Remarks.{remark_line}
use Rattle.lines.proofs.Answered.{makes_as}
use Rattle.pages.proofs.Outs.{read_le, page_refused, page_read}
use Rattle.pages.proofs.running.run_trace.Goals as goal

pub slice_bounds-cycles-end : goal.slice_bounds-cycles-end
slice_bounds-cycles-end c = omega (arith, read_le c.args.trace.now _ _ _ c.read.ensures (search rules) _ c.in-Ok.is (search rules))

pub slice_bounds-run_words-end : goal.slice_bounds-run_words-end
slice_bounds-run_words-end c = simp length-take (omega (arith, read_le c.args.trace.now _ _ _ c.read.ensures (search rules) _ c.in-Ok.is (search rules)))

pub returns-in-Err : goal.returns-in-Err
unfolding last_line
returns-in-Err c =
    page_refused c.args.trace.now _ _ _ c.read.ensures (search rules) _ _ _ _ _ _ c.in-Err.is
    (makes_as (ap (λ (k : ℕ). refused_line k c.in-Err.refused.index) c.from.ensures) c.last_line.ensures) (makes_as (ap (remark_line RunTrace) c.remark_of.ensures) c.remark_line.ensures)

pub returns-in-Ok : goal.returns-in-Ok
returns-in-Ok c = page_read c.args.trace.now _ _ _ c.read.ensures (search rules) _ _ _ _ _ _ c.in-Ok.is (search rules) c.run_words.ensures
