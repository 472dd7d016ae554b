-- For the law that holds plans to document 01's instruction list: what the list sends to RAM.
use Rattle.std.specs.Prelude.{ℕ, Bool, true, false, [], ◌∷◌}
use Rattle.isa.specs.declared.Family.{Family}
use Rattle.isa.specs.declared.Family.TheVariants.{Tor1, Rotr1, Rotr2, Rotc, Rotm, Sor, Bor2, Tor2, Shftr, Crcf, Crcr, Prt1, Prt2, Prt3, Svstr, Sonr, Tonr, Shftnr, Bor1, Bonr, Rotnr, Prtnr, Svstnr, Setst, Rstst, Test, Noop}
use Rattle.isa.specs.Sets.{has, these}

-- what goes to RAM, by fields A and B (document 01, the instruction list)
abbrev pub to_ram : Family → ℕ → ℕ → Bool
to_ram Tor1 a b = has (these (12 ∷ 14 ∷ 15 ∷ [])) a
to_ram Rotr1 a b = has (these (15 ∷ [])) b
to_ram Rotr2 a b = true
to_ram Rotc a b = false
to_ram Rotm a b = has (these (9 ∷ 10 ∷ 12 ∷ [])) b
to_ram Sor a b = has (these (4 ∷ 6 ∷ 7 ∷ 8 ∷ 9 ∷ 10 ∷ 11 ∷ [])) b
to_ram Bor2 a b = true
to_ram Tor2 a b = true
to_ram Shftr a b = true
to_ram Crcf a b = true
to_ram Crcr a b = true
to_ram Prt1 a b = has (these (11 ∷ [])) a
to_ram Prt2 a b = false
to_ram Prt3 a b = true
to_ram Svstr a b = true
to_ram Sonr a b = false
to_ram Tonr a b = false
to_ram Shftnr a b = false
to_ram Bor1 a b = has (these (13 ∷ 14 ∷ [])) b
to_ram Bonr a b = false
to_ram Rotnr a b = false
to_ram Prtnr a b = false
to_ram Svstnr a b = false
to_ram Setst a b = false
to_ram Rstst a b = false
to_ram Test a b = false
to_ram Noop a b = false
