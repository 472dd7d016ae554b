-- No two answers meet the statement of a public call.
use mathlib.Core.Path.{◌≡◌, sym, ◌∙◌}
use Prim.Native.Nat.{ℕ}
use Rattle.alu.specs.declared.Mode.{Mode}
use Rattle.alu.specs.declared.Outcome.{Outcome}
use Rattle.alu.specs.declared.Operation.{Operation}
use Rattle.alu.specs.Width.{width_of, write_back}
use Rattle.alu.specs.Operations.{outcome_of}

one : {A : Type 0} {x y z : A} → x ≡ z → y ≡ z → x ≡ y
one p q = p ∙ sym q

pub perform_unique : (mode : Mode) (operation : Operation) (status : ℕ) (a b : Outcome)
    → a ≡ outcome_of (width_of mode) operation status → b ≡ outcome_of (width_of mode) operation status → a ≡ b
perform_unique mode operation status a b p q = one p q

pub write_back_unique : (mode : Mode) (old result a b : ℕ)
    → a ≡ write_back (width_of mode) old result → b ≡ write_back (width_of mode) old result → a ≡ b
write_back_unique mode old result a b p q = one p q
