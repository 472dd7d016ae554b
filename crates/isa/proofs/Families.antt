-- The table's rows and the families: each family has one row, and its number is the row's.
use mathlib.Core.Path.{◌≡◌, refl, sym}
use native.Mathlib.Omega.{arith}
use borrow.Author.Tests.{eqb-true, eqb-false}
use Rattle.choice.specs.Pick.{pick}
use mathlib.Core.Bool.{Bool, true, false}
use Prim.Native.Nat.{ℕ, ◌<◌}
use lib.Dec.{T, eqb, ltb, lit<, ltb→lt}
use lib.ListN.{length}
use Rattle.alu.specs.declared.Mode.{Mode}
use Rattle.alu.specs.declared.Mode.TheVariants.{Byte, Word}
use Rattle.choice.proofs.Spans.{span, below, equal_below, both}
use Rattle.isa.specs.declared.Family.{Family}
use Rattle.isa.specs.declared.Family.TheVariants.{Tor1, Rotr1, Rotr2, Rotc, Rotm, Sor, Bor2, Tor2, Shftr, Crcf, Crcr, Prt1, Prt2, Prt3, Svstr, Sonr, Tonr, Shftnr, Bor1, Bonr, Rotnr, Prtnr, Svstnr, Setst, Rstst, Test, Noop}
use Rattle.isa.specs.Fields.{mark_for, mode_of}
use Rattle.isa.specs.Table.{rows, row_at, no_row, number_of}
use Rattle.isa.specs.Decision.{Narrow}

pub row_count : length rows ≡ no_row
row_count = refl

-- a family's number is a row's, and that row is the family's
pub own_row : (f : Family) → (number_of f < no_row) × ((row_at (number_of f)).family ≡ f)
own_row Tor1 = (lit< tt, refl)
own_row Rotr1 = (lit< tt, refl)
own_row Rotr2 = (lit< tt, refl)
own_row Rotc = (lit< tt, refl)
own_row Rotm = (lit< tt, refl)
own_row Sor = (lit< tt, refl)
own_row Bor2 = (lit< tt, refl)
own_row Tor2 = (lit< tt, refl)
own_row Shftr = (lit< tt, refl)
own_row Crcf = (lit< tt, refl)
own_row Crcr = (lit< tt, refl)
own_row Prt1 = (lit< tt, refl)
own_row Prt2 = (lit< tt, refl)
own_row Prt3 = (lit< tt, refl)
own_row Svstr = (lit< tt, refl)
own_row Sonr = (lit< tt, refl)
own_row Tonr = (lit< tt, refl)
own_row Shftnr = (lit< tt, refl)
own_row Bor1 = (lit< tt, refl)
own_row Bonr = (lit< tt, refl)
own_row Rotnr = (lit< tt, refl)
own_row Prtnr = (lit< tt, refl)
own_row Svstnr = (lit< tt, refl)
own_row Setst = (lit< tt, refl)
own_row Rstst = (lit< tt, refl)
own_row Test = (lit< tt, refl)
own_row Noop = (lit< tt, refl)

-- and a row's number is its family's
numbered : T (span 0 no_row (λ i. eqb (number_of (row_at i).family) i))
numbered = tt

pub own_number : (i : ℕ) → i < no_row → number_of (row_at i).family ≡ i
own_number i = equal_below (λ i. number_of (row_at i).family) (λ i. i) no_row i numbered

-- every row is narrow
narrow_test : ℕ → Bool
narrow_test i =
    elim (ltb (row_at i).quadrant 4) [
      | false ↦ false
      | true ↦ elim (ltb (row_at i).a 0x10000) [ false ↦ false | true ↦ elim (ltb (row_at i).b 0x10000) [ false ↦ false | true ↦ ltb (row_at i).c 0x100000000 ] ]
    ]

all_narrow : T (span 0 no_row narrow_test)
unfolding narrow_test
all_narrow = tt

pub narrow : (i : ℕ) → i < no_row → Narrow (row_at i)
unfolding narrow_test
narrow i h =
    let r = row_at i in
    let t = below narrow_test no_row i all_narrow h in
    let q = both (ltb r.quadrant 4) (elim (ltb r.a 0x10000) [ false ↦ false | true ↦ elim (ltb r.b 0x10000) [ false ↦ false | true ↦ ltb r.c 0x100000000 ] ]) t in
    let a = both (ltb r.a 0x10000) (elim (ltb r.b 0x10000) [ false ↦ false | true ↦ ltb r.c 0x100000000 ]) q.1 in
    let b = both (ltb r.b 0x10000) (ltb r.c 0x100000000) a.1 in
    record {
      quadrant = ltb→lt r.quadrant 4 q.0;
      a = ltb→lt r.a 0x10000 a.0;
      b = ltb→lt r.b 0x10000 b.0;
      c = ltb→lt r.c 0x100000000 b.1;
    }

pub mark_small : (d : Mode) → mark_for d < 2
mark_small Byte = lit< tt
mark_small Word = lit< tt

pub mode_back : (d : Mode) → mode_of (mark_for d) ≡ d
mode_back Byte = refl
mode_back Word = refl

pub mark_back : (mark : ℕ) → mark < 2 → mark_for (mode_of mark) ≡ mark
mark_back mark h = by_test (eqb mark 0) refl
  where
    by_test : (b : Bool) → eqb mark 0 ≡ b → mark_for (pick b Byte Word) ≡ mark
    by_test true q = sym (eqb-true mark 0 q)
    by_test false q = omega (arith, eqb-false mark 0 q)
