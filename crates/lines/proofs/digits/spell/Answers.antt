-- `lines::digits::spell` meets its contract: the digits still to come, and those that stand, are all.
use mathlib.Core.List.{List, ◌++◌, append-nil}
use mathlib.Core.Path.{◌≡◌, refl, ap, ◌∙◌}
use Prim.Native.Nat.{ℕ, ◌<◌, ◌%◌}
use native.Mathlib.Omega.{arith}
use native.Mathlib.Nat.{mod-lt}
use lib.Seq.{drop-length}
use lib.ListN.{length, drop, length-set}
use Rattle.choice.specs.Text.{numeral}
use Rattle.lines.proofs.Spelled.{spell_step}
use Rattle.lines.proofs.digits.spell.Goals as goal

pub loop-i-init : goal.loop-i-init
loop-i-init c =
    let all = numeral c.args.base (length c.args.part.now) c.args.x in
    (omega arith, refl, ap (λ (l : List ℕ). all ++ l) (drop-length c.args.part.now) ∙ append-nil all)

pub overflow_sub-i : goal.overflow_sub-i
overflow_sub-i c = omega arith

pub nonzero_rem-rest : goal.nonzero_rem-rest
nonzero_rem-rest c = omega arith

pub overflow_cast-rest : goal.overflow_cast-rest
overflow_cast-rest c =
    let small : c.loop-i.rest % c.args.base < c.args.base = mod-lt c.loop-i.rest (omega arith) in
    omega arith

pub digit_of-requires : goal.digit_of-requires
digit_of-requires c =
    let small : c.loop-i.rest % c.args.base < c.args.base = mod-lt c.loop-i.rest (omega arith) in
    omega arith

pub bounds-part-i : goal.bounds-part-i
bounds-part-i c = omega arith

pub nonzero_div-rest : goal.nonzero_div-rest
nonzero_div-rest c = omega arith

pub loop-i-smaller : goal.loop-i-smaller
loop-i-smaller c = omega arith

pub loop-i-preserved : goal.loop-i-preserved
loop-i-preserved c =
    let loop = c.loop-i in (
      simp length-set (omega arith),
      simp length-set loop.invariant.1,
      spell_step c.args.base loop.i loop.rest c.digit_of.result loop.part (omega arith) loop.invariant.0 c.digit_of.ensures ∙ loop.invariant.2,
    )

pub shape_of-part : goal.shape_of-part
shape_of-part c = c.loop-i.invariant.1

pub returns : goal.returns
returns c =
    let loop = c.loop-i in
    let none : 0 ≡ loop.i = omega arith in
    ap (λ (j : ℕ). numeral c.args.base j loop.rest ++ drop j loop.part) none ∙ loop.invariant.2
