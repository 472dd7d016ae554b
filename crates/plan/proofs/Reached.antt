-- Any way of looking up that has every entry makes the same work of an instruction of the list: `default_not_reached`, at the end. Behind it stands
-- one test, that a table has an entry for each value of the list of the field at which a family consults it.
use mathlib.Core.Path.{◌≡◌, refl}
use mathlib.Core.Bool.{Bool, true, false}
use Prim.Native.Nat.{ℕ, ◌<◌}
use native.Mathlib.Omega.{arith}
use lib.Dec.{T}
use Rattle.choice.proofs.Spans.{span, below, where_held, holds}
use Rattle.isa.specs.declared.Family.{Family}
use Rattle.isa.specs.declared.Family.TheVariants.{Tor1, Rotr1, Rotr2, Rotc, Rotm, Sor, Bor2, Tor2, Shftr, Crcf, Crcr, Prt1, Prt2, Prt3, Svstr, Sonr, Tonr, Shftnr, Bor1, Bonr, Rotnr, Prtnr, Svstnr, Setst, Rstst, Test, Noop}
use Rattle.isa.specs.declared.Named.{Named}
use Rattle.isa.specs.Sets.{has}
use Rattle.isa.specs.Table.{row_at, number_of}
use Rattle.plan.specs.declared.Source.TheVariants.{Ram, Acc}
use Rattle.plan.specs.Tables.{Table, Looking, at, has_entry, two_operands, one_operands, shifts, bor2_bits, bor1_bits, bonr_bits, status_bits, ram_pair_r, ram_pair_s, pair_r, pair_s, sources, prt1_source, mask_source, rotate_u, rotate_r, rotate_mask, shift_source, bonr_source, rotnr_source, ram_pair_to, rotr1_to, sor_to, prt1_to, prt2_to, no_ram_to, rotnr_to}
use Rattle.plan.specs.Plans.{work_by, work_of}
use Rattle.plan.proofs.Laws.{Fields, fields}
use Rattle.isa.specs.Words.{Listed}

-- the table has an entry for each value of a set
abbrev covers : {A : Type 0} → Table A → ℕ → Bool
covers t set = span 0 32 (λ k. elim (has set k) [ true ↦ has_entry t.entries k | false ↦ true ])

covered : {A : Type 0} (t : Table A) (set k : ℕ) → T (covers t set) → k < 32 → has set k ≡ true → has_entry t.entries k ≡ true
covered t set k test small listed =
    holds (has_entry t.entries k)
    (where_held (has set k) (has_entry t.entries k) (below (λ k. elim (has set k) [ true ↦ has_entry t.entries k | false ↦ true ]) 32 k test small) listed)

-- any way to look up that has the entries of each table
module _ (l : Looking) (entered : (A : Type 0) (t : Table A) (k : ℕ) → has_entry t.entries k ≡ true → l.look t k ≡ at t k) where
  by_a : {A : Type 0} {f : Family} {a b c : ℕ} → Fields f a b c → (t : Table A) → T (covers t (row_at (number_of f)).a) → l.look t a ≡ at t a
  by_a {A} {f} {a} h t test = entered A t a (covered t (row_at (number_of f)).a a test (omega (arith, h.small_a)) h.in_a)

  by_b : {A : Type 0} {f : Family} {a b c : ℕ} → Fields f a b c → (t : Table A) → T (covers t (row_at (number_of f)).b) → l.look t b ≡ at t b
  by_b {A} {f} {b} h t test = entered A t b (covered t (row_at (number_of f)).b b test (omega (arith, h.small_b)) h.in_b)

  by_c : {A : Type 0} {f : Family} {a b c : ℕ} → Fields f a b c → (t : Table A) → T (covers t (row_at (number_of f)).c) → l.look t c ≡ at t c
  by_c {A} {f} {c} h t test = entered A t c (covered t (row_at (number_of f)).c c test h.small_c h.in_c)

  reached : (f : Family) (a b c : ℕ) → Fields f a b c → work_by l f a b c ≡ work_of f a b c
  unfolding work_of
  reached Tor1 a b c h = rw (by_b h two_operands tt, by_a h ram_pair_r tt, by_a h ram_pair_s tt, by_a h ram_pair_to tt)
  reached Rotr1 a b c h = rw (by_b h rotr1_to tt)
  reached Rotr2 a b c h = rw (by_b h rotate_u tt)
  reached Rotc a b c h = rw (by_b h rotate_u tt, by_b h rotate_r tt, by_b h rotate_mask tt)
  reached Rotm a b c h = rw (by_b h rotate_u tt, by_b h rotate_r tt, by_b h rotate_mask tt)
  reached Sor a b c h = rw (by_a h one_operands tt, by_b h sources tt, by_b h sor_to tt)
  reached Bor2 a b c h = rw (by_b h bor2_bits tt)
  reached Tor2 a b c h = rw (by_b h two_operands tt, by_a h pair_r tt, by_a h pair_s tt)
  reached Shftr a b c h = rw (by_b h shifts tt, by_a h (shift_source Ram) tt)
  reached Crcf a b c h = refl
  reached Crcr a b c h = refl
  reached Prt1 a b c h = rw (by_b h prt1_source tt, by_a h prt1_to tt)
  reached Prt2 a b c h = rw (by_a h mask_source tt, by_b h prt2_to tt)
  reached Prt3 a b c h = rw (by_b h sources tt, by_a h mask_source tt)
  reached Svstr a b c h = refl
  reached Sonr a b c h = rw (by_a h one_operands tt, by_b h sources tt, by_c h no_ram_to tt)
  reached Tonr a b c h = rw (by_b h two_operands tt, by_a h pair_r tt, by_a h pair_s tt, by_c h no_ram_to tt)
  reached Shftnr a b c h = rw (by_b h shifts tt, by_a h (shift_source Acc) tt, by_c h no_ram_to tt)
  reached Bor1 a b c h = rw (by_b h bor1_bits tt)
  reached Bonr a b c h = rw (by_c h bonr_bits tt, by_c h bonr_source tt)
  reached Rotnr a b c h = rw (by_c h rotnr_source tt, by_c h rotnr_to tt)
  reached Prtnr a b c h = rw (by_b h sources tt, by_a h mask_source tt, by_c h no_ram_to tt)
  reached Svstnr a b c h = rw (by_c h no_ram_to tt)
  reached Setst a b c h = rw (by_c h status_bits tt)
  reached Rstst a b c h = rw (by_c h status_bits tt)
  reached Test a b c h = refl
  reached Noop a b c h = refl

-- whatever a table says of values without an entry, the work of an instruction of the list is the same
pub default_not_reached : (l : Looking) → ((A : Type 0) (t : Table A) (k : ℕ) → has_entry t.entries k ≡ true → l.look t k ≡ at t k)
    → (n : Named) → Listed n → work_by l n.family n.a n.b n.c ≡ work_of n.family n.a n.b n.c
default_not_reached l entered n listed = reached l entered n.family n.a n.b n.c (fields n listed)
