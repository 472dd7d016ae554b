use Rattle.std.proofs.Common.{◌≡◌, ◌∷◌, ◌++◌, length, drop, length-append, length-set, ap, ◌∙◌, arith}
use Rattle.choice.specs.Text.{blank}
use Rattle.listing.proofs.Joins.{so_far, others_of, more_some, more_none, room, put_turn, line_whole}
use Rattle.listing.proofs.writing.join.Goals.{in-Some, in_default}
use Rattle.listing.proofs.writing.join.Goals as goal

pub bounds-out-size : goal.bounds-out-size
bounds-out-size c =
    omega (arith, room c.args.texts c.loop-text.text-index c.in-Some.text c.loop-text-test.true c.in-Some.is, c.requires)

pub put-size-requires-in-Some : goal.put-size-requires-in-Some
put-size-requires-in-Some c =
    simp length-set (omega (arith, room c.args.texts c.loop-text.text-index c.in-Some.text c.loop-text-test.true c.in-Some.is, c.requires))

pub loop-text-preserved : goal.loop-text-preserved
loop-text-preserved c =
    let t = c.args.texts in
    let i = c.loop-text.text-index in
    let before = so_far t.family.now (others_of t) i in
    elim c.match-text.branch [
      | in-Some w ↦
          let u = w.in-Some.text in
          let e = more_some t.family.now (others_of t) i c.loop-text-test.true u w.in-Some.is in
          let r = room t i u c.loop-text-test.true w.in-Some.is in
          let l = length-append before (blank ∷ u.now) in
          let q = c.loop-text.invariant in
          rw e (record {
            size = omega (arith, w.size-is, w.put-size-in-Some.ensures.after, q.size, l);
            bytes = w.out-is ∙ put_turn before u.now c.args.out.now c.loop-text.out _ c.loop-text.size q.size q.bytes (omega (arith, r, c.requires)) w.put-size-in-Some.ensures.bytes;
          })
      | in_default w ↦
          let e = more_none t.family.now (others_of t) i c.loop-text-test.true w.in_default.is in
          rw (e, w.size-is, w.out-is) c.loop-text.invariant
    ]

pub returns-clause-size : goal.returns-clause-size
returns-clause-size c =
    let i : c.loop-text.text-index ≡ 4 = omega arith in
    c.loop-text.invariant.size ∙ ap (λ n. length (so_far c.args.texts.family.now (others_of c.args.texts) n)) i ∙ ap length (line_whole c.args.texts)

pub returns-clause-bytes : goal.returns-clause-bytes
returns-clause-bytes c =
    let i : c.loop-text.text-index ≡ 4 = omega arith in
    let e = ap (so_far c.args.texts.family.now (others_of c.args.texts)) i ∙ line_whole c.args.texts in
    c.loop-text.invariant.bytes ∙ ap (λ line. line ++ drop (length line) c.args.out.now) e
