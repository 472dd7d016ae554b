-- What it is that a row takes mode and fields, test by test.
use mathlib.Core.Path.{◌≡◌, refl}
use mathlib.Core.Bool.{Bool, true, false}
use Prim.Native.Nat.{ℕ, ◌<◌}
use Rattle.choice.specs.Pick.{pick}
use Rattle.choice.proofs.Spans.{never}
use Rattle.isa.specs.declared.Row.{Row}
use Rattle.isa.specs.Sets.{has}
use Rattle.isa.specs.Slots.{agrees, takes}
use Rattle.isa.specs.Decision.{Narrow}
use Rattle.isa.proofs.Values.{within}

pub record Taken (r : Row) (mark a b c : ℕ) : Type 0 where
  pub mode : has r.modes mark ≡ true
  pub in_a : has r.a a ≡ true
  pub in_b : has r.b b ≡ true
  pub in_c : has r.c c ≡ true

-- two tests in a row
pub in_turn : (x y : Bool) → pick x y false ≡ true → (x ≡ true) × (y ≡ true)
in_turn true y h = (refl, h)
in_turn false y h = absurd (never h)

pub taken : (r : Row) (mark a b c : ℕ) → takes r mark a b c ≡ true → Taken r mark a b c
taken r mark a b c t =
    let h = in_turn (agrees r mark a b) (has r.c c) t in
    let k = in_turn (has r.a a) (pick (has r.b b) (has r.modes mark) false) h.0 in
    let l = in_turn (has r.b b) (has r.modes mark) k.1 in
    record { mode = l.1; in_a = k.0; in_b = l.0; in_c = h.1 }

pub taking : {r : Row} {mark a b c : ℕ} → Taken r mark a b c → takes r mark a b c ≡ true
taking t = rw (t.in_a, t.in_b, t.mode, t.in_c)

-- the fields that a row takes fit a word
pub small : (r : Row) (mark a b c : ℕ) → Narrow r → takes r mark a b c ≡ true → (a < 16) × (b < 16) × (c < 32)
small r mark a b c n t =
    let k = taken r mark a b c t in
    (within 16 r.a a n.a k.in_a, within 16 r.b b n.b k.in_b, within 32 r.c c n.c k.in_c)
