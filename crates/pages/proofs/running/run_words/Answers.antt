-- `pages::running::run_words` meets its contract: the page together, handed over, and what is said of the end.
use Rattle.std.proofs.Common.{◌*◌, take, rules, arith}
use Rattle.std.proofs.lemmas.List.{length-take}
use Rattle.pages.proofs.Answers.{accepted_le}
use Rattle.pages.proofs.Longest.{page_fits}
use Rattle.pages.proofs.Outs.{run_shown}
use Rattle.pages.proofs.running.run_words.Goals as goal

pub overflow_mul-reports : goal.overflow_mul-reports
overflow_mul-reports c = omega (arith, accepted_le c.args.words.now _ _ _ (search rules) c.run_from_zero-ran.ensures)

pub slice_bounds-reports-end : goal.slice_bounds-reports-end
slice_bounds-reports-end c = omega (arith, accepted_le c.args.words.now _ _ _ (search rules) c.run_from_zero-ran.ensures)

pub slice_bounds-add_page-end : goal.slice_bounds-add_page-end
slice_bounds-add_page-end c = simp length-take (omega (arith, accepted_le c.args.words.now _ _ _ (search rules) c.run_from_zero-ran.ensures))

pub add_page-requires : goal.add_page-requires
add_page-requires c =
    let few = accepted_le c.args.words.now _ _ _ (search rules) c.run_from_zero-ran.ensures in
    (search rules, (few, rw c.new-page.ensures (omega (arith, page_fits c.run_from_zero-ran.result (take (4 * c.run_from_zero-ran.result.accepted) c.run_from_zero-ran.new.reports) few))))

pub returns : goal.returns
returns c = run_shown c.args.words.now _ _ _ (search rules) c.run_from_zero-ran.ensures _ (rw (c.add_page.ensures, c.new-page.ensures)) _ _ _ _ _ c.hand_over.ensures c.say_end.ensures
