-- `isa::slots::with_c` meets its contract: each arm is some slots with one list for C.
use mathlib.Core.Path.{◌≡◌, refl, ◌∙◌, ap, sym, subst}
use mathlib.Core.Bool.{Bool}
use mathlib.Core.List.{[], ◌∷◌}
use Rattle.choice.specs.Pick.{pick}
use Rattle.isa.specs.declared.Family.TheVariants.{Sonr, Tonr, Shftnr, Bonr, Rotnr, Prtnr, Svstnr, Setst, Rstst}
use Rattle.choice.proofs.Decisions.{along}
use Rattle.isa.specs.Sets.{these}
use Rattle.isa.specs.Slots.{with_c}
use Rattle.isa.specs.Table.{number_of, no_row, destinations, y_or_acc, flags, twice_codes}
use Rattle.isa.specs.Decision.{sharing}
use Rattle.isa.proofs.Arms.{Lone, lone_c, some_listed, some_row, one_of, one_of_three, address_c, the_rest, zero_listed}
use Rattle.isa.proofs.slots.with_c.Goals as goal

pub returns-in-Sonr : goal.returns-in-Sonr
returns-in-Sonr c = lone_c destinations c.args.slot (one_of (Lone destinations) c.args.slot Sonr Tonr (refl, refl) (refl, refl) c.in-Sonr.is) c.args.c _ (some_listed destinations 32 c.args.c _ _ c.args.slot c.is_destination.ensures c.requires c.then_some.ensures)

pub returns-in-Shftnr : goal.returns-in-Shftnr
returns-in-Shftnr c =
    lone_c y_or_acc c.args.slot (one_of_three (Lone y_or_acc) c.args.slot Shftnr Prtnr Svstnr (refl, refl) (refl, refl) (refl, refl) c.in-Shftnr.is) c.args.c _
    (some_listed y_or_acc 32 c.args.c _ _ c.args.slot c.is_y_or_acc.ensures c.requires c.then_some-in-Shftnr.ensures)

pub returns-in-Bonr : goal.returns-in-Bonr
returns-in-Bonr c =
    along 32 (λ k. with_c (sharing (number_of Bonr)) k) c.args.c _ c.bit_or_turn.ensures c.requires
    ∙ one_of (λ f. with_c (sharing (number_of Bonr)) c.args.c ≡ with_c (sharing (number_of f)) c.args.c) c.args.slot Bonr Rotnr refl refl c.in-Bonr.is

pub returns-in-Setst : goal.returns-in-Setst
returns-in-Setst c = lone_c flags c.args.slot (one_of (Lone flags) c.args.slot Setst Rstst (refl, refl) (refl, refl) c.in-Setst.is) c.args.c _ (some_listed flags 32 c.args.c _ _ c.args.slot c.is_flag.ensures c.requires c.then_some-in-Setst.ensures)

pub returns-in-Test : goal.returns-in-Test
returns-in-Test c = lone_c twice_codes c.args.slot (subst (Lone twice_codes) (sym c.in-Test.is) (refl, refl)) c.args.c _ (some_listed twice_codes 32 c.args.c _ _ c.args.slot c.is_twice_code.ensures c.requires c.then_some-in-Test.ensures)

pub returns-in-Noop : goal.returns-in-Noop
returns-in-Noop c =
    let zero = these (0 ∷ []) in
    lone_c zero c.args.slot (subst (Lone zero) (sym c.in-Noop.is) (refl, refl)) c.args.c _
    (some_row _ _ c.args.slot c.then_some-in-Noop.ensures ∙ ap (λ (b : Bool). pick b (number_of c.args.slot) no_row) (zero_listed c.args.c c.requires))

pub returns-in_default : goal.returns-in_default
returns-in_default c =
    let n = c.in_default in
    address_c c.args.slot (the_rest c.args.slot n.not-Sonr n.not-Tonr n.not-Shftnr n.not-Bonr n.not-Rotnr n.not-Prtnr n.not-Svstnr n.not-Setst n.not-Rstst n.not-Test n.not-Noop) c.args.c c.requires
