-- `listpages::answering::read_lines` meets its contract: the answers to what is taken of the bytes.
use Rattle.std.proofs.Common.{◌≡◌, ◌≤◌, ◌∙◌, ap, ℕ, List, length, take, rules, arith}
use Rattle.std.proofs.Math.Nat.{min-le_left}
use Rattle.std.proofs.lemmas.List.{take_min, length-take}
use Rattle.lines.proofs.Answered.{makes_as}
use Rattle.listpages.specs.Answering.{lines_of, reading_after}
use Rattle.listpages.proofs.Longest.{answers_fit}
use Rattle.listpages.proofs.answering.read_lines.Goals as goal

pub add_answers-next-requires : goal.add_answers-next-requires
add_answers-next-requires c =
    let piece = take c.min.result c.args.bytes.now in
    let few : length piece ≤ 4096 = simp length-take (omega (arith, c.min.ensures, min-le_left 4096 (length c.args.bytes.now), min-le_left c.min.result (length c.args.bytes.now))) in
    (search rules, rw c.new-text.ensures (omega (arith, answers_fit c.args.reading piece few)))

pub returns : goal.returns
returns c =
    let same : take c.min.result c.args.bytes.now ≡ take 4096 c.args.bytes.now = ap (λ (n : ℕ). take n c.args.bytes.now) c.min.ensures ∙ take_min 4096 c.args.bytes.now in
    record {
      reading = c.add_answers-next.ensures.reading ∙ ap (λ (l : List ℕ). reading_after c.args.reading (lines_of l)) same;
      written = makes_as (rw (c.add_answers-next.ensures.text, c.new-text.ensures, same)) c.hand_over.ensures;
    }
