-- `listpages::listing_trace::first_refused` meets its contract: no word was refused so far.
use Rattle.std.proofs.Common.{◌≡◌, sym, ap, ◌∙◌, ◌<◌, [], length, get_or, arith, refl}
use Rattle.machine.specs.declared.Words.{Words}
use Rattle.refusals.proofs.Laws.{number_of_positive}
use Rattle.run.specs.Splitting.{cycles_in}
use Rattle.run.proofs.Loop.{cycle_cut}
use Rattle.listpages.specs.Listing.{line_word, list_said}
use Rattle.listpages.proofs.Outs.{said_begun, said_word, said_next, said_none}
use Rattle.listpages.proofs.listing_trace.first_refused.Goals as goal

pub loop-i-init : goal.loop-i-init
loop-i-init c = said_begun c.args.words.now

pub returns-in-Some : goal.returns-in-Some
returns-in-Some c =
    let words = c.args.words.now in
    let i = c.loop-i.i in
    let more : i < cycles_in (length words) = omega (arith, c.loop-i-test.true, c.as_chunks.ensures.front_len) in
    let here : get_or (get_or c.as_chunks.result.0.now i []) 0 0 ≡ line_word words i = ap (λ (w : Words). w.lines) (cycle_cut words c.as_chunks.result.0.now i c.as_chunks.ensures.front more) in
    said_word words (cycles_in (length words)) i c.loop-i.waits (list_said words) c.loop-i.invariant more _ c.from.result here (c.from.ensures ∙ c.in-Some.ensures {u = tt}) (λ z. number_of_positive c.in-Some.refusal (sym c.from.ensures ∙ z))

pub loop-i-preserved : goal.loop-i-preserved
loop-i-preserved c =
    let words = c.args.words.now in
    let i = c.loop-i.i in
    let more : i < cycles_in (length words) = omega (arith, c.loop-i-test.true, c.as_chunks.ensures.front_len) in
    let here : get_or (get_or c.as_chunks.result.0.now i []) 0 0 ≡ line_word words i = ap (λ (w : Words). w.lines) (cycle_cut words c.as_chunks.result.0.now i c.as_chunks.ensures.front more) in
    said_next words (cycles_in (length words)) i c.loop-i.waits (list_said words) c.loop-i.invariant more _ 0 here (c.in_default.ensures {u = tt}) refl _ c.waits_after-waits.ensures

pub returns : goal.returns
returns c =
    let words = c.args.words.now in
    said_none words (cycles_in (length words)) c.loop-i.i c.loop-i.waits (list_said words) c.loop-i.invariant (omega (arith, c.loop-i-test.false, c.as_chunks.ensures.front_len))
