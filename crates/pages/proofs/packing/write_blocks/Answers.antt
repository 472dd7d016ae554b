-- `pages::packing::write_blocks` meets its contract: by the writer's answer.
use Rattle.std.proofs.Common.{◌≡◌, ◌∙◌, ap, ◌++◌, subst, ℕ, take, refl, Result}
use Rattle.std.proofs.lemmas.List.{take_min}
use Rattle.refusals.specs.declared.Refused.{Refused}
use Rattle.trace.specs.Writing.{Writes}
use Rattle.lines.specs.declared.Program.TheVariants.{PackTrace}
use Rattle.lines.specs.declared.Remark.{Remark}
use Rattle.lines.specs.Remarks.{remark_line}
use Rattle.pages.proofs.Outs.{refused_packs, accepted_packs}
use Rattle.pages.proofs.packing.write_blocks.Goals as goal

pub returns-in-Err : goal.returns-in-Err
returns-in-Err g c =
    let words = c.args.words.now in
    let n = c.min-found.result in
    let found : take n words ≡ take c.args.reader.found words = ap (λ (k : ℕ). take k words) c.min-found.ensures ∙ take_min c.args.reader.found words in
    rw (← found) (refused_packs _ _ _ _ _ _ (subst (λ (x : Result ℕ Refused). Writes (take n words) x c.args.out.now c.write.new.trace) c.in-Err.is c.write.ensures) (c.add_remark.ensures.text ∙ ap (λ (r : Remark). c.args.said.now ++ remark_line PackTrace r) c.remark_of.ensures))

pub returns-in-Ok : goal.returns-in-Ok
returns-in-Ok g c =
    let words = c.args.words.now in
    let n = c.min-found.result in
    let found : take n words ≡ take c.args.reader.found words = ap (λ (k : ℕ). take k words) c.min-found.ensures ∙ take_min c.args.reader.found words in
    rw (← found) (accepted_packs _ _ _ _ _ _ (subst (λ (x : Result ℕ Refused). Writes (take n words) x c.args.out.now c.write.new.trace) c.in-Ok.is c.write.ensures) refl)
