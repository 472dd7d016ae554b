-- The arms of the decision: over an arm's stretches of marks, of values of A and of values of B, what it answers is the slot.
-- Each is a test over the stretches, which antt computes, carried to each of their points.
use mathlib.Core.Path.{◌≡◌, refl, ◌∙◌, ap, sym, subst}
use mathlib.Core.List.{[], ◌∷◌}
use mathlib.Core.Logic.{◌⊎◌, inl, inr}
use mathlib.Core.Bool.{Bool, true, false}
use Prim.Native.Nat.{ℕ, ◌<◌, ◌≤◌}
use lib.Dec.{T, eqb, ltb}
use Rattle.std.specs.Prelude.{Option}
use Rattle.std.specs.Bool.{then_some}
use borrow.Author.Tests.{ltb-true, ltb-false}
use Rattle.choice.specs.Pick.{pick}
use Rattle.choice.specs.Along.{Along, same}
use Rattle.choice.proofs.Spans.{below, holds}
use Rattle.choice.proofs.Decisions.{Inside, Agree, box, along, along_test, same_eq}
use Rattle.isa.specs.Sets.{has, these}
use Rattle.isa.specs.declared.Family.{Family}
use Rattle.isa.specs.declared.Family.TheVariants.{Tor1, Rotr1, Rotr2, Rotc, Rotm, Sor, Bor2, Tor2, Shftr, Crcf, Crcr, Prt1, Prt2, Prt3, Svstr, Sonr, Tonr, Shftnr, Bor1, Bonr, Rotnr, Prtnr, Svstnr, Setst, Rstst, Test, Noop}
use Rattle.isa.specs.Table.{row_at, no_row, number_of, address}
use Rattle.isa.specs.Slots.{with_c}
use Rattle.isa.specs.Decision.{slot_of, sharing, row_number}

-- the slots of quadrant q, over mark, A and B
abbrev pub slots : ℕ → ℕ → ℕ → ℕ → ℕ
slots q m a b = slot_of m q a b

-- an arm over mn marks from mlo on, an values of A from alo on and bn values of B from blo on
module _ (q mlo mn alo an blo bn : ℕ) where
  -- one row
  pub one_row : (row : ℕ) → T (Agree (λ m a b. row) (slots q) mlo mn alo an blo bn)
      → (m a b : ℕ) → Inside mlo mn alo an blo bn m a b → row ≡ slot_of m q a b
  one_row row t m a b h = box (λ m a b. row) (slots q) mlo mn alo an blo bn t m a b h

  -- what a rule says
  pub by_rule : (f : ℕ → ℕ → ℕ → ℕ) → T (Agree f (slots q) mlo mn alo an blo bn) → (m a b r : ℕ) → Inside mlo mn alo an blo bn m a b → r ≡ f m a b → r ≡ slot_of m q a b
  by_rule f t m a b r h e = e ∙ box f (slots q) mlo mn alo an blo bn t m a b h

  -- what a decision over B found of mark m₀ and A a₀
  pub by_b : (m₀ a₀ : ℕ) → T (Agree (λ m a b. slot_of m₀ q a₀ b) (slots q) mlo mn alo an blo bn)
      → (m a b r n : ℕ) → Inside mlo mn alo an blo bn m a b → b < n → Along eqb n (λ k. slot_of m₀ q a₀ k) b r → r ≡ slot_of m q a b
  by_b m₀ a₀ t m a b r n h k told =
      along n (λ k. slot_of m₀ q a₀ k) b r told k ∙ box (λ m a b. slot_of m₀ q a₀ b) (slots q) mlo mn alo an blo bn t m a b h

  -- what a decision over A found of mark m₀ and B b₀
  pub by_a : (m₀ b₀ : ℕ) → T (Agree (λ m a b. slot_of m₀ q a b₀) (slots q) mlo mn alo an blo bn)
      → (m a b r n : ℕ) → Inside mlo mn alo an blo bn m a b → a < n → Along eqb n (λ k. slot_of m₀ q k b₀) a r → r ≡ slot_of m q a b
  by_a m₀ b₀ t m a b r n h k told =
      along n (λ k. slot_of m₀ q k b₀) a r told k ∙ box (λ m a b. slot_of m₀ q a b₀) (slots q) mlo mn alo an blo bn t m a b h

-- a field below a value or from it on, where an arm has two stretches
pub parted : {A : Type 0} (x k : ℕ) → (x < k → A) → (k ≤ x → A) → A
parted {A = A} x k lower upper = by_test (ltb x k) refl
  where
    by_test : (b : Bool) → ltb x k ≡ b → A
    by_test true q = lower (ltb-true x k q)
    by_test false q = upper (ltb-false x k q)

-- a row, if a test holds
pub some_row : (r : Option Family) (ok : Bool) (f : Family) → r ≡ then_some ok f → row_number r ≡ pick ok (number_of f) no_row
some_row r true f e = ap row_number e
some_row r false f e = ap row_number e

-- a row, if a field is on a list
pub some_listed : (set n x : ℕ) (ok : Bool) (r : Option Family) (f : Family) → Along same n (has set) x ok → x < n → r ≡ then_some ok f
    → row_number r ≡ pick (has set x) (number_of f) no_row
some_listed set n x ok r f told h e = some_row r ok f e ∙ ap (λ (b : Bool). pick b (number_of f) no_row) (along_test n (has set) x ok told h)

-- a slot with one row, whose list for C is a set
abbrev pub Lone : ℕ → Family → Type 0
Lone set f = (sharing (number_of f) ≡ number_of f ∷ []) × ((row_at (number_of f)).c ≡ set)

pub lone_c : (set : ℕ) (f : Family) → Lone set f → (c r : ℕ) → r ≡ pick (has set c) (number_of f) no_row → r ≡ with_c (sharing (number_of f)) c
lone_c set f l c r e =
    e ∙ ap (λ (s : ℕ). pick (has s c) (number_of f) no_row) (sym l.1) ∙ ap (λ is. with_c is c) (sym l.0)

-- a family is one of two
pub one_of : (P : Family → Type 0) (f g h : Family) → P g → P h → (f ≡ g) ⊎ (f ≡ h) → P f
one_of P f g h x y (inl e) = subst P (sym e) x
one_of P f g h x y (inr e) = subst P (sym e) y

pub at_quadrant : (k q m a b r : ℕ) → q ≡ k → r ≡ slot_of m k a b → r ≡ slot_of m q a b
at_quadrant k q m a b r e h = rw e h

pub one_of_three : (P : Family → Type 0) (f g h i : Family) → P g → P h → P i → (f ≡ g) ⊎ ((f ≡ h) ⊎ (f ≡ i)) → P f
one_of_three P f g h i x y z (inl e) = subst P (sym e) x
one_of_three P f g h i x y z (inr e) = one_of P f h i y z e

-- the families whose field C is a RAM address
abbrev pub Address : Family → Type 0
Address f = Lone address f

pub address_c : (f : Family) → Address f → (c : ℕ) → c < 32 → number_of f ≡ with_c (sharing (number_of f)) c
address_c f l c h = lone_c address f l c (number_of f) (ap (λ (b : Bool). pick b (number_of f) no_row) (sym (equal_test c h)))
  where
    equal_test : (c : ℕ) → c < 32 → has address c ≡ true
    equal_test c h = holds (has address c) (below (has address) 32 c tt h)

-- the families but for those that have another list for C
pub the_rest : (f : Family) → (f ≡ Sonr → ⊥) → (f ≡ Tonr → ⊥) → (f ≡ Shftnr → ⊥) → (f ≡ Bonr → ⊥) → (f ≡ Rotnr → ⊥) → (f ≡ Prtnr → ⊥) → (f ≡ Svstnr → ⊥) → (f ≡ Setst → ⊥) → (f ≡ Rstst → ⊥) → (f ≡ Test → ⊥) → (f ≡ Noop → ⊥) → Address f
the_rest Tor1 n1 n2 n3 n4 n5 n6 n7 n8 n9 n10 n11 = (refl, refl)
the_rest Rotr1 n1 n2 n3 n4 n5 n6 n7 n8 n9 n10 n11 = (refl, refl)
the_rest Rotr2 n1 n2 n3 n4 n5 n6 n7 n8 n9 n10 n11 = (refl, refl)
the_rest Rotc n1 n2 n3 n4 n5 n6 n7 n8 n9 n10 n11 = (refl, refl)
the_rest Rotm n1 n2 n3 n4 n5 n6 n7 n8 n9 n10 n11 = (refl, refl)
the_rest Sor n1 n2 n3 n4 n5 n6 n7 n8 n9 n10 n11 = (refl, refl)
the_rest Bor2 n1 n2 n3 n4 n5 n6 n7 n8 n9 n10 n11 = (refl, refl)
the_rest Tor2 n1 n2 n3 n4 n5 n6 n7 n8 n9 n10 n11 = (refl, refl)
the_rest Shftr n1 n2 n3 n4 n5 n6 n7 n8 n9 n10 n11 = (refl, refl)
the_rest Crcf n1 n2 n3 n4 n5 n6 n7 n8 n9 n10 n11 = (refl, refl)
the_rest Crcr n1 n2 n3 n4 n5 n6 n7 n8 n9 n10 n11 = (refl, refl)
the_rest Prt1 n1 n2 n3 n4 n5 n6 n7 n8 n9 n10 n11 = (refl, refl)
the_rest Prt2 n1 n2 n3 n4 n5 n6 n7 n8 n9 n10 n11 = (refl, refl)
the_rest Prt3 n1 n2 n3 n4 n5 n6 n7 n8 n9 n10 n11 = (refl, refl)
the_rest Svstr n1 n2 n3 n4 n5 n6 n7 n8 n9 n10 n11 = (refl, refl)
the_rest Sonr n1 n2 n3 n4 n5 n6 n7 n8 n9 n10 n11 = absurd (n1 refl)
the_rest Tonr n1 n2 n3 n4 n5 n6 n7 n8 n9 n10 n11 = absurd (n2 refl)
the_rest Shftnr n1 n2 n3 n4 n5 n6 n7 n8 n9 n10 n11 = absurd (n3 refl)
the_rest Bor1 n1 n2 n3 n4 n5 n6 n7 n8 n9 n10 n11 = (refl, refl)
the_rest Bonr n1 n2 n3 n4 n5 n6 n7 n8 n9 n10 n11 = absurd (n4 refl)
the_rest Rotnr n1 n2 n3 n4 n5 n6 n7 n8 n9 n10 n11 = absurd (n5 refl)
the_rest Prtnr n1 n2 n3 n4 n5 n6 n7 n8 n9 n10 n11 = absurd (n6 refl)
the_rest Svstnr n1 n2 n3 n4 n5 n6 n7 n8 n9 n10 n11 = absurd (n7 refl)
the_rest Setst n1 n2 n3 n4 n5 n6 n7 n8 n9 n10 n11 = absurd (n8 refl)
the_rest Rstst n1 n2 n3 n4 n5 n6 n7 n8 n9 n10 n11 = absurd (n9 refl)
the_rest Test n1 n2 n3 n4 n5 n6 n7 n8 n9 n10 n11 = absurd (n10 refl)
the_rest Noop n1 n2 n3 n4 n5 n6 n7 n8 n9 n10 n11 = absurd (n11 refl)

-- NOOP's list for C
pub zero_listed : (c : ℕ) → c < 32 → eqb c 0 ≡ has (these (0 ∷ [])) c
zero_listed c h = same_eq (eqb c 0) (has (these (0 ∷ [])) c) (holds (same (eqb c 0) (has (these (0 ∷ [])) c)) (below (λ c. same (eqb c 0) (has (these (0 ∷ [])) c)) 32 c tt h))
