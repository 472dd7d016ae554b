-- `machine::judging::judge` meets its contract: each way out is the judgement.
use mathlib.Core.Path.{◌≡◌, refl}
use Rattle.std.specs.Prelude.{Ok, Err}
use Rattle.machine.specs.declared.Waiting.TheVariants.{Nothing, Held}
use borrow.Author.Rules.{rules}
use Rattle.machine.proofs.Decided.{named_right, planned_for, begin_pins, begin_word, begin_ien, begin_good, second_word, second_none, second_pins, second_good}
use Rattle.machine.proofs.judging.judge.Goals.{else-begins-via-then-begins+else-ien_high, else-begins-via-else-begins}
use Rattle.machine.proofs.judging.judge.Goals as goal

pub returns-in_err-pins_allowed-in-Nothing : goal.returns-in_err-pins_allowed-in-Nothing
returns-in_err-pins_allowed-in-Nothing c =
    let given : c.from_residual.result ≡ Err c.in_err-pins_allowed-in-Nothing.field-0.0 = search rules in
    rw given (begin_pins c.args.waiting c.args.words c.in-Nothing.is _ c.in_err-pins_allowed-in-Nothing.ensures)

pub returns-in_err-named-in-Nothing : goal.returns-in_err-named-in-Nothing
returns-in_err-named-in-Nothing c =
    let given : c.from_residual-in_err-named-in-Nothing.result ≡ Err c.in_err-named-in-Nothing.field-0.0 = search rules in
    rw given
    (begin_word c.args.waiting c.args.words c.in-Nothing.is c.in_ok-pins_allowed-in-Nothing.ensures _
    (planned_for c.args.waiting Nothing c.in-Nothing.is c.args.words.lines c.args.found c.requires (Err _) c.in_err-named-in-Nothing.ensures))

pub returns-in_default : goal.returns-in_default
returns-in_default c =
    second_word c.args.waiting c.args.words _ c.in-Held.is _
    (planned_for c.args.waiting (Held _) c.in-Held.is c.args.words.lines c.args.found c.requires (Err _) c.in_default.ensures)

pub returns-then-not-names_immediate : goal.returns-then-not-names_immediate
returns-then-not-names_immediate c =
    second_none c.args.waiting c.args.words _ c.in-Held.is _ _
    (planned_for c.args.waiting (Held _) c.in-Held.is c.args.words.lines c.args.found c.requires (Ok (_, _)) c.in-Ok.ensures)
    (rw (← c.names_immediate.ensures) c.if-not-names_immediate.true)

pub returns-then-ien_high : goal.returns-then-ien_high
returns-then-ien_high c =
    begin_ien c.args.waiting c.args.words c.in-Nothing.is c.in_ok-pins_allowed-in-Nothing.ensures _ _
    (planned_for c.args.waiting Nothing c.in-Nothing.is c.args.words.lines c.args.found c.requires (Ok (_, _)) c.in_ok-named-in-Nothing.ensures) _ c.names_immediate-begins.ensures
    (rw (c.if-begins.true, ← c.ien_high.ensures, c.if-ien_high.true))

pub returns-else-begins : goal.returns-else-begins
returns-else-begins c = (
  begin_good c.args.waiting c.args.words c.in-Nothing.is c.in_ok-pins_allowed-in-Nothing.ensures _ _
      (planned_for c.args.waiting Nothing c.in-Nothing.is c.args.words.lines c.args.found c.requires (Ok (_, _)) c.in_ok-named-in-Nothing.ensures) _ c.names_immediate-begins.ensures
      (elim c.else-begins.branch [
        | else-begins-via-then-begins+else-ien_high w ↦ rw (w.if-begins.true, ← w.ien_high.ensures, w.if-ien_high.false)
        | else-begins-via-else-begins w ↦ rw w.if-begins.false
      ]),
  rw c.in-Nothing.is (named_right c.args.words.lines _
      (planned_for c.args.waiting Nothing c.in-Nothing.is c.args.words.lines c.args.found c.requires (Ok (_, _)) c.in_ok-named-in-Nothing.ensures).0),
  c.in_ok-named-in-Nothing.ensures.2,
  rw c.in-Nothing.is refl,
)

pub returns-in_err-pins_allowed-in-Held : goal.returns-in_err-pins_allowed-in-Held
returns-in_err-pins_allowed-in-Held c =
    let given : c.from_residual-in_err-pins_allowed-in-Held.result ≡ Err c.in_err-pins_allowed-in-Held.field-0.0 = search rules in
    rw given
    (second_pins c.args.waiting c.args.words _ c.in-Held.is _ _
    (planned_for c.args.waiting (Held _) c.in-Held.is c.args.words.lines c.args.found c.requires (Ok (_, _)) c.in-Ok.ensures)
    (rw (← c.names_immediate.ensures) c.if-not-names_immediate.false) _ c.in_err-pins_allowed-in-Held.ensures)

pub returns-in_ok-pins_allowed-in-Held : goal.returns-in_ok-pins_allowed-in-Held
returns-in_ok-pins_allowed-in-Held c = (
  second_good c.args.waiting c.args.words _ c.in-Held.is _ _
      (planned_for c.args.waiting (Held _) c.in-Held.is c.args.words.lines c.args.found c.requires (Ok (_, _)) c.in-Ok.ensures)
      (rw (← c.names_immediate.ensures) c.if-not-names_immediate.false) c.in_ok-pins_allowed-in-Held.ensures,
  rw c.in-Held.is (named_right _ _ (planned_for c.args.waiting (Held _) c.in-Held.is c.args.words.lines c.args.found c.requires (Ok (_, _)) c.in-Ok.ensures).0),
  c.in-Ok.ensures.2,
  rw c.in-Held.is refl,
)
