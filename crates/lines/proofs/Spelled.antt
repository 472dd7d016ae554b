-- Digits as the code makes them, spelt from the last one on, and how many a number has.
use mathlib.Core.Path.{◌≡◌, refl, ◌∙◌}
use mathlib.Core.Bool.{Bool, true, false}
use mathlib.Core.List.{List, [], ◌∷◌, ◌++◌}
use Prim.Native.Nat.{ℕ, zero, suc, ◌-◌, ◌/◌, ◌%◌, ◌≤◌, ◌<◌}
use native.Mathlib.Omega.{arith}
use lib.ListN.{length, drop, set, length-append}
use lib.Seq.{append_snoc, drop-cons, get_or-set_same, drop-set-lt, lt-length-set}
use lib.Dec.{eqb}
use Rattle.choice.specs.Pick.{pick}
use Rattle.choice.specs.Text.{digit, numeral, trimmed}

pub length_numeral : (base n x : ℕ) → length (numeral base n x) ≡ n
length_numeral base zero x = refl
length_numeral base (suc n) x = length-append (numeral base n (x / base)) (digit (x % base) ∷ []) ∙ omega (arith, length_numeral base n (x / base))

-- a turn of the loop that spells a number
pub spell_step : (base i rest d : ℕ) (part : List ℕ) → 0 < i → i ≤ length part → d ≡ digit (rest % base)
    → numeral base (i - 1) (rest / base) ++ drop (i - 1) (set part (i - 1) d) ≡ numeral base i rest ++ drop i part
spell_step base zero rest d part p h e = absurd (omega arith)
spell_step base (suc n) rest d part p h e =
    let z : suc n - 1 ≡ n = omega arith in
    let q : n < length part = omega arith in
    let cut : drop n (set part n d) ≡ d ∷ drop (suc n) part =
    drop-cons (set part n d) n 0 (lt-length-set part n d q) ∙ rw (get_or-set_same part n d 0 q, drop-set-lt (suc n) part n d (omega arith)) in
    rw (z, cut, e, append_snoc)

-- one digit, or none, has no zero in front of another
pub trimmed_short : (digits : List ℕ) → length digits < 2 → trimmed digits ≡ digits
trimmed_short [] h = refl
trimmed_short (d ∷ []) h = refl
trimmed_short (d ∷ e ∷ digits) h = absurd (omega arith)

-- a decimal number has 1 to 20 digits
pub length_trimmed : (d : ℕ) (digits : List ℕ) → (1 ≤ length (trimmed (d ∷ digits))) × (length (trimmed (d ∷ digits)) ≤ length (d ∷ digits))
length_trimmed d [] = (omega arith, omega arith)
length_trimmed d (e ∷ digits) = by_test (eqb d 48) (length_trimmed e digits)
  where
    by_test : (b : Bool) → (1 ≤ length (trimmed (e ∷ digits))) × (length (trimmed (e ∷ digits)) ≤ suc (length digits))
        → (1 ≤ length (pick b (trimmed (e ∷ digits)) (d ∷ e ∷ digits))) × (length (pick b (trimmed (e ∷ digits)) (d ∷ e ∷ digits)) ≤ suc (suc (length digits)))
    by_test true h = (h.0, omega (arith, h.1))
    by_test false h = (omega arith, omega arith)
