-- Immediate data: its line gives the data, and a line that gives data is that data's line once runs of blanks are made one and the ends trimmed.
-- The laws, in this order: `data_print_read`, `data_read_print`.
use mathlib.Core.Path.{◌≡◌, refl, sym, ap, ◌∙◌}
use mathlib.Core.Bool.{Bool, true, false}
use mathlib.Core.List.{List, [], ◌∷◌, append-nil, map}
use mathlib.Core.Option.{Option, none, some, some-injective, some-ne-none}
use Prim.Native.Nat.{ℕ, ◌+◌, ◌-◌, ◌*◌, ◌/◌, ◌%◌, ◌<◌}
use native.Mathlib.Omega.{arith}
use lib.Dec.{T, eqb, ltb, eqb→eq, ltb→lt}
use lib.ListN.{get_or, length}
use borrow.Author.Tests.{ne_eqb, lt-ltb, le-ltb, ltb-true, ltb-false}
use Rattle.choice.specs.Pick.{pick}
use Rattle.choice.specs.Tells.{accepted_whole}
use Rattle.choice.specs.Text.{digit, hex}
use Rattle.choice.proofs.Spans.{span, below}
use Rattle.choice.proofs.Tells.{whole_one, whole_refused}
use Rattle.listing.specs.Items.{Item, items_of, normal, joined}
use Rattle.listing.specs.Lines.{value_then, ended, past_of}
use Rattle.listing.specs.Data.{data_line, no_digit, digit_of, with_digit, data_in, data_from, data_of}
use Rattle.listing.proofs.Splits.{sound, texts, joined_items, normal_items}

-- digits there and back
back_test : T (span 0 16 (λ d. eqb (digit_of (digit d)) d))
back_test = tt

digit_back : (d : ℕ) → d < 16 → digit_of (digit d) ≡ d
digit_back d h = eqb→eq (digit_of (digit d)) d (below (λ d. eqb (digit_of (digit d)) d) 16 d back_test h)

sound_test : T (span 0 16 (λ d. ltb 32 (digit d)))
sound_test = tt

byte_back : (b : ℕ) → digit_of b < 16 → digit (digit_of b) ≡ b
byte_back b h = by_test (ltb b 48) (ltb b 58) (ltb b 65) (ltb b 71) refl refl refl refl h
  where
    by_test : (p q r s : Bool) → ltb b 48 ≡ p → ltb b 58 ≡ q → ltb b 65 ≡ r → ltb b 71 ≡ s
        → pick p no_digit (pick q (b - 48) (pick r no_digit (pick s (b - 55) no_digit))) < 16
        → digit (pick p no_digit (pick q (b - 48) (pick r no_digit (pick s (b - 55) no_digit)))) ≡ b
    by_test true q r s ep eq er es h = absurd (omega arith)
    by_test false true r s ep eq er es h =
        let l = ltb-false b 48 ep in
        let u = ltb-true b 58 eq in
        rw (lt-ltb (b - 48) 10 (omega arith)) (omega arith)
    by_test false false true s ep eq er es h = absurd (omega arith)
    by_test false false false true ep eq er es h =
        let l = ltb-false b 65 er in
        let u = ltb-true b 71 es in
        rw (le-ltb (b - 55) 10 (omega arith)) (omega arith)
    by_test false false false false ep eq er es h = absurd (omega arith)

-- the number of four digits
abbrev pub chain : ℕ → ℕ → ℕ → ℕ → Option ℕ
chain a b c d = with_digit (with_digit (with_digit (with_digit (some 0) a) b) c) d

pub all_digits : (a b c d : ℕ) → a < 16 → b < 16 → c < 16 → d < 16 → chain a b c d ≡ some (16 * (16 * (16 * a + b) + c) + d)
all_digits a b c d ha hb hc hd =
    let z : 16 * 0 + a ≡ a = omega arith in
    rw (lt-ltb a 16 ha, lt-ltb b 16 hb, lt-ltb c 16 hc, lt-ltb d 16 hd, z)

abbrev DigitAt : List ℕ → ℕ → ℕ → Type 0
DigitAt t i d = (d ≡ digit_of (get_or t i 0)) × (d < no_digit)

pub four_read : (t : List ℕ) (a b c d : ℕ) → length t ≡ 4 → DigitAt t 0 a → DigitAt t 1 b → DigitAt t 2 c → DigitAt t 3 d
    → some (256 * (16 * a + b) + (16 * c + d)) ≡ data_in t
four_read [] a b c d l p q r s = absurd (omega arith)
four_read (x ∷ []) a b c d l p q r s = absurd (omega arith)
four_read (x ∷ y ∷ []) a b c d l p q r s = absurd (omega arith)
four_read (x ∷ y ∷ z ∷ []) a b c d l p q r s = absurd (omega arith)
four_read (x ∷ y ∷ z ∷ w ∷ []) a b c d l p q r s =
    let n : 256 * (16 * a + b) + (16 * c + d) ≡ 16 * (16 * (16 * a + b) + c) + d = omega arith in
    let e : chain a b c d ≡ chain (digit_of x) (digit_of y) (digit_of z) (digit_of w) = rw (p.0, q.0, r.0, s.0) in
    ap some n ∙ sym (all_digits a b c d p.1 q.1 r.1 s.1) ∙ e
four_read (x ∷ y ∷ z ∷ w ∷ v ∷ t) a b c d l p q r s = absurd (omega arith)

-- a number with one digit more
record WithDigit (o : Option ℕ) (d x : ℕ) : Type 0 where
  before : ℕ
  was : o ≡ some before
  small : d < 16
  is : x ≡ 16 * before + d

with_some : (o : Option ℕ) (d x : ℕ) → with_digit o d ≡ some x → WithDigit o d x
with_some none d x e = absurd (some-ne-none x (sym e))
with_some (some y) d x e = by_test (ltb d no_digit) refl e
  where
    by_test : (b : Bool) → ltb d no_digit ≡ b → pick b (some (16 * y + d)) none ≡ some x → WithDigit (some y) d x
    by_test true q e = record { before = y; was = refl; small = ltb-true d 16 q; is = sym (some-injective (16 * y + d) x e) }
    by_test false q e = absurd (some-ne-none x (sym e))

pub record Four (a b c d x : ℕ) : Type 0 where
  pub in_a : a < 16
  pub in_b : b < 16
  pub in_c : c < 16
  pub in_d : d < 16
  pub number : x ≡ 16 * (16 * (16 * a + b) + c) + d

chain_some : (a b c d x : ℕ) → chain a b c d ≡ some x → Four a b c d x
chain_some a b c d x e =
    let w = with_some _ d x e in
    let v = with_some _ c w.before w.was in
    let u = with_some _ b v.before v.was in
    let t = with_some (some 0) a u.before u.was in
    let z : 0 ≡ t.before = some-injective 0 t.before t.was in
    record { in_a = t.small; in_b = u.small; in_c = v.small; in_d = w.small; number = omega (arith, w.is, v.is, u.is, t.is, z) }

-- the digits of a word
module _ (d : ℕ) where
  abbrev d₀ : ℕ
  d₀ = d / 16 / 16 / 16 % 16

  abbrev d₁ : ℕ
  d₁ = d / 16 / 16 % 16

  abbrev d₂ : ℕ
  d₂ = d / 16 % 16

  abbrev d₃ : ℕ
  d₃ = d % 16

  abbrev spelt : List ℕ
  spelt = digit d₀ ∷ digit d₁ ∷ digit d₂ ∷ digit d₃ ∷ []

  pub spelt_is : data_line d ≡ spelt
  unfolding hex
  spelt_is = refl

  -- the digits as the code takes them
  pub digits_are : map (λ h. digit (h % 16)) (d / 0x1000 ∷ d / 0x100 ∷ d / 0x10 ∷ d ∷ []) ≡ data_line d
  digits_are =
      let a : d / 0x1000 ≡ d / 16 / 16 / 16 = omega arith in
      let b : d / 0x100 ≡ d / 16 / 16 = omega arith in
      rw (spelt_is, a, b)

  pub data_long : length (data_line d) ≡ 4
  data_long = ap length spelt_is

module _ (d : ℕ) (h : d < 0x10000) where
  spelt_data : data_in (spelt d) ≡ some d
  spelt_data =
      let n : 16 * (16 * (16 * (d₀ d) + (d₁ d)) + (d₂ d)) + (d₃ d) ≡ d = omega arith in
      rw (digit_back (d₀ d) (omega arith), digit_back (d₁ d) (omega arith), digit_back (d₂ d) (omega arith), digit_back (d₃ d) (omega arith))
      (all_digits (d₀ d) (d₁ d) (d₂ d) (d₃ d) (omega arith) (omega arith) (omega arith) (omega arith) ∙ ap some n)

  no_blank : (x : ℕ) → x < 16 → eqb (digit x) 32 ≡ false
  no_blank x l = ne_eqb (digit x) 32 (λ e. omega (arith, ltb→lt 32 (digit x) (below (λ d. ltb 32 (digit d)) 16 x sound_test l)))

  spelt_sound : T (sound (spelt d))
  spelt_sound = four_clean (eqb (digit (d₀ d)) 32) (eqb (digit (d₁ d)) 32) (eqb (digit (d₂ d)) 32) (eqb (digit (d₃ d)) 32)
      (no_blank (d₀ d) (omega arith)) (no_blank (d₁ d) (omega arith)) (no_blank (d₂ d) (omega arith)) (no_blank (d₃ d) (omega arith))
    where
      four_clean : (p q r s : Bool) → p ≡ false → q ≡ false → r ≡ false → s ≡ false
          → T (elim p [ true ↦ false | false ↦ elim q [ true ↦ false | false ↦ elim r [ true ↦ false | false ↦ elim s [ true ↦ false | false ↦ true ] ] ] ])
      four_clean p q r s ep eq er es = rw (ep, eq, er, es) tt

from_texts : (past d : ℕ) (t : List ℕ) (xs : List Item) → texts xs ≡ t ∷ [] → data_in t ≡ some d → data_from past xs ≡ accepted_whole d
from_texts past d t [] e q = absurd (let z : ◌≡◌ {A = ℕ} 0 1 = cc in omega arith)
from_texts past d t (x ∷ []) e q =
    let h : x.text ≡ t = cc in
    ap (λ (o : Option ℕ). value_then 21 x.column [] o (λ d xs. ended xs (accepted_whole d))) (ap data_in h ∙ q)
from_texts past d t (x ∷ y ∷ xs) e q = absurd (let z : ◌≡◌ {A = ℕ} 1 2 = cc in omega arith)

-- print, then read, gives the data
pub data_print_read : (d : ℕ) → d < 0x10000 → data_of (data_line d) ≡ accepted_whole d
unfolding data_of
data_print_read d h =
    ap data_of (spelt_is d)
    ∙ from_texts (past_of (spelt d)) d (spelt d) (items_of (spelt d)) (joined_items (spelt d ∷ []) (one_sound (sound (spelt d)) (spelt_sound d h))) (spelt_data d h)
  where
    one_sound : (b : Bool) → T b → T (elim b [ true ↦ true | false ↦ false ])
    one_sound true t = tt
    one_sound false t = t

-- the text of data that was read
hex_back : (t : List ℕ) (d : ℕ) → data_in t ≡ some d → data_line d ≡ t
unfolding hex
hex_back [] d e = absurd (some-ne-none d (sym e))
hex_back (a ∷ []) d e = absurd (some-ne-none d (sym e))
hex_back (a ∷ b ∷ []) d e = absurd (some-ne-none d (sym e))
hex_back (a ∷ b ∷ c ∷ []) d e = absurd (some-ne-none d (sym e))
hex_back (a ∷ b ∷ c ∷ f ∷ []) d e =
    let w = chain_some (digit_of a) (digit_of b) (digit_of c) (digit_of f) d e in
    let e₀ : d / 16 / 16 / 16 % 16 ≡ digit_of a = omega (arith, w.in_a, w.in_b, w.in_c, w.in_d, w.number) in
    let e₁ : d / 16 / 16 % 16 ≡ digit_of b = omega (arith, w.in_a, w.in_b, w.in_c, w.in_d, w.number) in
    let e₂ : d / 16 % 16 ≡ digit_of c = omega (arith, w.in_b, w.in_c, w.in_d, w.number) in
    let e₃ : d % 16 ≡ digit_of f = omega (arith, w.in_c, w.in_d, w.number) in
    same_four (digit (d / 16 / 16 / 16 % 16)) (digit (d / 16 / 16 % 16)) (digit (d / 16 % 16)) (digit (d % 16)) a b c f
    (ap digit e₀ ∙ byte_back a w.in_a) (ap digit e₁ ∙ byte_back b w.in_b) (ap digit e₂ ∙ byte_back c w.in_c) (ap digit e₃ ∙ byte_back f w.in_d)
  where
    same_four : (x y z w a b c d : ℕ) → x ≡ a → y ≡ b → z ≡ c → w ≡ d → x ∷ y ∷ z ∷ w ∷ [] ≡ a ∷ b ∷ c ∷ d ∷ []
    same_four x y z w a b c d p q r s = cc
hex_back (a ∷ b ∷ c ∷ f ∷ g ∷ t) d e = absurd (some-ne-none d (sym e))

-- a line that gives data prints as its normal form
pub data_read_print : (line : List ℕ) (d : ℕ) → data_of line ≡ accepted_whole d → data_line d ≡ normal line
unfolding data_of
data_read_print line d e = by_items (items_of line) refl e
  where
    by_rest : (x : Item) (xs : List Item) (v : ℕ) → items_of line ≡ x ∷ xs → data_in x.text ≡ some v → ended xs (accepted_whole v) ≡ accepted_whole d → data_line d ≡ normal line
    by_rest x [] v i q e =
        hex_back x.text d (q ∙ ap some (whole_one v d e))
        ∙ sym (normal_items line ∙ ap (λ (xs : List Item). joined (texts xs)) i ∙ append-nil x.text)
    by_rest x (y ∷ xs) v i q e = absurd (whole_refused d 22 y.column (sym e))

    by_value : (x : Item) (xs : List Item) (o : Option ℕ) → items_of line ≡ x ∷ xs → data_in x.text ≡ o
        → value_then 21 x.column xs o (λ d xs. ended xs (accepted_whole d)) ≡ accepted_whole d → data_line d ≡ normal line
    by_value x xs none i q e = absurd (whole_refused d 21 x.column (sym e))
    by_value x xs (some v) i q e = by_rest x xs v i q e

    by_items : (xs : List Item) → items_of line ≡ xs → data_from (past_of line) xs ≡ accepted_whole d → data_line d ≡ normal line
    by_items [] i e = absurd (whole_refused d 21 (past_of line) (sym e))
    by_items (x ∷ xs) i e = by_value x xs (data_in x.text) i refl e
