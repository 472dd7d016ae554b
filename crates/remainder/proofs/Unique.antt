-- No two outcomes satisfy the theorem: the register has the remainder that is known, and what a message leaves is fixed in every register and in ACC.
use mathlib.Core.Path.{◌≡◌, refl, sym, ap, ◌∙◌}
use mathlib.Core.Bool.{Bool, true, false}
use mathlib.Core.List.{List}
use Prim.Native.Nat.{ℕ, ◌%◌, ◌^◌, ◌<◌}
use native.Mathlib.Omega.{arith}
use borrow.Author.Tests.{eqb-true, eqb-false}
use lib.Dec.{eqb}
use lib.ListN.{get_or}
use lib.Seq.{ext_get_or}
use Rattle.machine.specs.declared.Registers.{Registers}
use Rattle.machine.specs.Seeing.{register_at}
use Rattle.remainder.specs.Remainder.{Direction, dividend, divisor, Remainder, oriented, Holds}
use Rattle.remainder.proofs.Multiples.{one_remainder}

-- any number that is the remainder is what register k has
pub known_remainder : (d : Direction) (k start polynomial : ℕ) (message : List Bool) (before after : Registers) (r : ℕ) → polynomial < 2 ^ 16
    → Holds d k start polynomial message before after → Remainder (divisor polynomial) (dividend start message) r → register_at after k ≡ oriented d r
known_remainder d k start polynomial message before after r small h known =
    h.register ∙ ap (oriented d) (one_remainder polynomial small (dividend start message) h.remainder r h.divided known)

pub one_outcome : (d : Direction) (k start polynomial : ℕ) (message : List Bool) (before one other : Registers) → polynomial < 2 ^ 16
    → Holds d k start polynomial message before one → Holds d k start polynomial message before other → (one.ram ≡ other.ram) × (one.acc ≡ other.acc)
one_outcome d k start polynomial message before one other small h g =
    (ext_get_or 0 one.ram other.ram (h.size ∙ sym g.size) (λ j l. at j (omega (arith, h.size))), h.acc ∙ sym g.acc)
  where
    in_place : register_at one k ≡ register_at other k
    in_place = known_remainder d k start polynomial message before one g.remainder small h g.divided ∙ sym g.register

    named : (j : ℕ) → j < 32 → register_at one j ≡ register_at other j
    named j l = by_test (eqb j k) refl
      where
        by_test : (b : Bool) → eqb j k ≡ b → register_at one j ≡ register_at other j
        by_test true e = rw (eqb-true j k e) in_place
        by_test false e = h.others j l (eqb-false j k e) ∙ sym (g.others j l (eqb-false j k e))

    at : (j : ℕ) → j < 32 → get_or one.ram j 0 ≡ get_or other.ram j 0
    at j l =
        let e : j % 32 ≡ j = omega arith in
        rw e at (named j l)
