-- `listpages::draft::Draft::add_answers` meets its contract: what is there and the answers still to come are all answers.
use Rattle.std.proofs.Common.{◌≡◌, sym, ap, ◌∙◌, ◌-◌, ◌<◌, ◌≤◌, List, ℕ, length, take, drop, rules, arith}
use Rattle.std.proofs.Math.ListN.{drop_of_length-le}
use Rattle.std.proofs.Math.Seq.{take_all}
use Rattle.std.proofs.lemmas.List.{length-append, length-drop}
use Rattle.listing.specs.Answers.{read_tells}
use Rattle.listpages.specs.Entries.{answer_by}
use Rattle.listpages.specs.Answering.{lines_of, after_line, answer_to, answers_of, reading_after, line_end}
use Rattle.listpages.proofs.Outs.{answer_fits, answer_more, reading_more}
use Rattle.listpages.proofs.Walks.{lines_over}
use Rattle.listpages.proofs.draft.Draft.add_answers.Goals as goal

pub loop-rest-preserved-in-empty : goal.loop-rest-preserved-in-empty
loop-rest-preserved-in-empty g c =
    let rest = c.loop-rest.rest.now in
    let others = c.split_at.result.1.now in
    let p = read_tells c.read_line-read.result in
    let some : 0 < length rest = search rules in
    let front : c.split_at.result.0.now ≡ take (line_end rest) rest = c.split_at.ensures.front ∙ ap (λ (n : ℕ). take n rest) c.line_end.ensures in
    let back : others ≡ drop (line_end rest) rest = c.split_at.ensures.back ∙ ap (λ (n : ℕ). drop n rest) c.line_end.ensures in
    let few : length others ≤ 0 = omega (arith, c.in-empty.len_below) in
    let fewer : length others ≤ 1 = omega (arith, few) in
    let onward : others ≡ drop 1 others = drop_of_length-le others few ∙ sym (drop_of_length-le others fewer) in
    let all = length-append c.args.self.now (answers_of c.args.reading (lines_of c.args.bytes.now)) in
    let fits = answer_fits c.loop-rest.state c.after-state.result rest _ others _ p some front back onward c.read_line-read.ensures c.after-state.ensures c.loop-rest.self _ c.loop-rest.invariant.text g.row.N (omega (arith, c.requires, all)) in
    record {
      text = answer_more c.loop-rest.state c.after-state.result rest _ others _ p some front back onward c.read_line-read.ensures c.after-state.ensures c.loop-rest.self _ c.loop-rest.invariant.text c.add.new.self (c.add.ensures (answer_by p) (λ before after r call. search rules) fits);
      reading = reading_more c.loop-rest.state c.after-state.result rest _ others _ p some front back onward c.read_line-read.ensures c.after-state.ensures _ c.loop-rest.invariant.reading;
    }

pub loop-rest-preserved : goal.loop-rest-preserved
loop-rest-preserved g c =
    let rest = c.loop-rest.rest.now in
    let others = c.split_at.result.1.now in
    let p = read_tells c.read_line-read.result in
    let some : 0 < length rest = search rules in
    let front : c.split_at.result.0.now ≡ take (line_end rest) rest = c.split_at.ensures.front ∙ ap (λ (n : ℕ). take n rest) c.line_end.ensures in
    let back : others ≡ drop (line_end rest) rest = c.split_at.ensures.back ∙ ap (λ (n : ℕ). drop n rest) c.line_end.ensures in
    let onward : take (length others - 1) (drop 1 others) ≡ drop 1 others = take_all (length others - 1) (drop 1 others) (simp length-drop (omega arith)) in
    let all = length-append c.args.self.now (answers_of c.args.reading (lines_of c.args.bytes.now)) in
    let fits = answer_fits c.loop-rest.state c.after-state.result rest _ others _ p some front back onward c.read_line-read.ensures c.after-state.ensures c.loop-rest.self _ c.loop-rest.invariant.text g.row.N (omega (arith, c.requires, all)) in
    record {
      text = answer_more c.loop-rest.state c.after-state.result rest _ others _ p some front back onward c.read_line-read.ensures c.after-state.ensures c.loop-rest.self _ c.loop-rest.invariant.text c.add.new.self (c.add.ensures (answer_by p) (λ before after r call. search rules) fits);
      reading = reading_more c.loop-rest.state c.after-state.result rest _ others _ p some front back onward c.read_line-read.ensures c.after-state.ensures _ c.loop-rest.invariant.reading;
    }

pub returns-clause-text : goal.returns-clause-text
unfolding answers_of
returns-clause-text g c =
    let none : length c.loop-rest.rest.now ≤ 0 = search rules in
    lines_over answer_to after_line c.loop-rest.state (lines_of c.loop-rest.rest.now) c.loop-rest.self _ c.loop-rest.invariant.text (ap lines_of (drop_of_length-le c.loop-rest.rest.now none))

pub returns-clause-reading : goal.returns-clause-reading
unfolding reading_after
returns-clause-reading g c =
    let none : length c.loop-rest.rest.now ≤ 0 = search rules in
    sym (ap (λ (l : List ℕ). reading_after c.loop-rest.state (lines_of l)) (drop_of_length-le c.loop-rest.rest.now none)) ∙ c.loop-rest.invariant.reading
