-- For a law: the place of the highest set bit, as prioritize numbers places (document 01, prioritize).
use Rattle.std.specs.Prelude.{◌≡◌, ℕ, ◌-◌, ◌*◌, ◌^◌, ◌≤◌, ◌<◌}

-- p is the place of x's highest set bit, the top of the width being 1; with no bit set p is 0
pub record Highest (w x p : ℕ) : Type 0 where
  pub none : x ≡ 0 → p ≡ 0
  pub first : 0 < x → 1 ≤ p
  pub last : p ≤ w
  pub reached : 0 < x → 2 ^ (w - p) ≤ x
  pub unpassed : x < 2 * 2 ^ (w - p)
