-- `pages::draft::Draft::add_piece` meets its contract: every turn takes some of what is left.
use Rattle.std.proofs.Common.{◌≡◌, ◌∙◌, ◌-◌, ◌<◌, ◌≤◌, length, take, drop, rules, arith}
use Rattle.std.proofs.Math.ListN.{drop_of_length-le}
use Rattle.std.proofs.Math.Seq.{take_all}
use Rattle.std.proofs.lemmas.List.{length-drop, length-take}
use Rattle.text.proofs.Laws.{take_some}
use Rattle.pages.proofs.Pieces.{ends, at_end, after_fault}
use Rattle.pages.proofs.draft.Draft.add_piece.Goals as goal
use Rattle.pages.proofs.draft.Draft.add_piece.Goals.{in-Some, in_default}

pub slice_bounds-rest-count : goal.slice_bounds-rest-count
slice_bounds-rest-count g c = (take_some _ _ _ _ _ c.take-taken.ensures (search rules)).1

pub slice_bounds-rest-start : goal.slice_bounds-rest-start
slice_bounds-rest-start g c = (take_some _ _ _ _ _ c.take-taken.ensures (search rules)).1

pub loop-rest-smaller : goal.loop-rest-smaller
loop-rest-smaller g c =
    let rest = c.loop-rest.rest.now in
    let some : 0 < length rest = search rules in
    simp (length-take, length-drop) (omega (arith, take_some _ _ _ _ _ c.take-taken.ensures some))

pub loop-rest-preserved : goal.loop-rest-preserved
loop-rest-preserved g c =
    let rest = c.loop-rest.rest.now in
    let n = c.take-taken.result.bytes in
    let left : take (length rest - n) (drop n rest) ≡ drop n rest = take_all (length rest - n) (drop n rest) (simp length-drop (omega arith)) in
    elim c.match-taken.branch [
      | in-Some w ↦ after_fault _ _ _ _ _ _ _ _ c.loop-rest.invariant _ _ c.take-taken.ensures _ left _ w.in-Some.is _ (w.self-is ∙ w.add_fault.ensures)
      | in_default w ↦ rw w.self-is (at_end _ _ _ _ _ _ _ _ c.loop-rest.invariant _ _ c.take-taken.ensures _ left w.in_default.is)
    ]

pub returns : goal.returns
returns g c =
    let none : length c.loop-rest.rest.now ≤ 0 = search rules in
    ends _ _ _ _ _ _ _ _ c.loop-rest.invariant (drop_of_length-le c.loop-rest.rest.now none)
