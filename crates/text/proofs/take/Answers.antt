-- `text::take` meets its contract: what is left to take, from where it stands, comes to the same as all of it.
use Rattle.std.proofs.Common.{◌≡◌, ap, ◌∙◌, ℕ, arith, length, add-one, None}
use Rattle.text.specs.Lines.{move_of}
use Rattle.text.specs.Taking.{Took, stops_at}
use Rattle.text.proofs.Turns.{turn_nothing, turn_word, turn_fault, turn_end}
use Rattle.text.proofs.take.Goals as goal
use Rattle.text.proofs.take.Goals.{in-Nothing, in-Word}

pub loop-i-preserved : goal.loop-i-preserved
loop-i-preserved c =
    let loop = c.loop-i in
    let found = c.move_of-step.ensures ∙ ap (move_of loop.state.place loop.state.words) c.kind_of.ensures in
    elim c.match-step.branch [
      | in-Nothing w ↦
          rw (w.words-is, w.state-is, add-one)
          (turn_nothing c.args.text.now loop.i (omega arith) loop.state loop.words c.move_of-step.result found c.passed-next.result c.passed-next.ensures w.in-Nothing.is
          ∙ loop.invariant)
      | in-Word w ↦
          rw (w.words-is, w.state-is, add-one)
          (turn_word c.args.text.now loop.i (omega arith) loop.state loop.words c.move_of-step.result found c.passed-next.result c.passed-next.ensures _ _ _ w.in-Word.is w.keep.ensures w.with_word-state.ensures
          ∙ loop.invariant)
    ]

pub returns-in-Fault : goal.returns-in-Fault
returns-in-Fault c =
    let loop = c.loop-i in
    let found = c.move_of-step.ensures ∙ ap (move_of loop.state.place loop.state.words) c.kind_of.ensures in
    let turn = turn_fault c.args.text.now loop.i (omega arith) loop.state loop.words c.move_of-step.result found c.passed-next.result c.passed-next.ensures _ _ _ c.in-Fault.is c.fault_at.ensures c.with_fault.ensures in
    let told = turn ∙ loop.invariant in
    record { taken = ap (λ (t : Took). t.taken) told; written = ap (λ (t : Took). t.words) told }

pub returns : goal.returns
returns c =
    let loop = c.loop-i in
    let end : length c.args.text.now ≡ loop.i = omega arith in
    let told = ap (λ (n : ℕ). stops_at loop.state n None loop.words) end ∙ turn_end c.args.text.now loop.i loop.state loop.words (omega arith) ∙ loop.invariant in
    record { taken = ap (λ (t : Took). t.taken) told; written = ap (λ (t : Took). t.words) told }
