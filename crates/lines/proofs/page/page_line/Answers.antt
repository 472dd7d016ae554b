-- `lines::page::page_line` meets its contract: each place of the page has its line.
use Rattle.std.proofs.Common.{sym, ◌-◌, arith}
use Rattle.lines.proofs.Answered.{makes_as, nothing_made}
use Rattle.lines.proofs.Paged.{page_cycle, page_state, page_register, page_last, page_past}
use Rattle.lines.proofs.page.page_line.Goals as goal

pub returns-then-index-ran : goal.returns-then-index-ran
returns-then-index-ran c = let a = c.args in makes_as (sym (page_cycle a.ran a.reports.now a.index c.if-index-ran.true)) c.report_line.ensures

pub returns-in-0 : goal.returns-in-0
returns-in-0 c = let a = c.args in makes_as (sym (page_state a.ran a.reports.now a.index (omega arith))) c.state_line.ensures

pub returns-in-1-to-32 : goal.returns-in-1-to-32
returns-in-1-to-32 c =
    let a = c.args in
    let k = a.index - a.ran.accepted - 1 in
    makes_as (sym (page_register a.ran a.reports.now a.index k (omega arith) (omega arith))) c.register_line.ensures

pub returns-in-33 : goal.returns-in-33
returns-in-33 c = let a = c.args in makes_as (sym (page_last a.ran a.reports.now a.index (omega arith))) c.last_line.ensures

pub returns-in_default : goal.returns-in_default
returns-in_default c =
    let a = c.args in
    makes_as (sym (page_past a.ran a.reports.now a.index (a.index - a.ran.accepted - 34) (omega arith))) (nothing_made a.out.now)
