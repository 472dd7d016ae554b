-- One of two values, once its test is known.
use mathlib.Core.Path.{◌≡◌, refl, sym}
use mathlib.Core.Bool.{Bool, true, false}
use Rattle.choice.specs.Pick.{pick}
use Rattle.choice.proofs.Spans.{never}

module _ {A : Type 0} where
  pub picked : (b : Bool) (x y : A) → b ≡ true → pick b x y ≡ x
  picked true x y e = refl
  picked false x y e = absurd (never e)

  pub unpicked : (b : Bool) (x y : A) → b ≡ false → pick b x y ≡ y
  unpicked true x y e = absurd (never (sym e))
  unpicked false x y e = refl
