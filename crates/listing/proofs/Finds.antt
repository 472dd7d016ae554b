-- A look-up among the code's names is one among the names of the definitions, and the only value of a set is its lowest.
use mathlib.Core.Path.{◌≡◌, refl, sym, ap, ◌∙◌}
use mathlib.Core.Bool.{Bool, true, false, cond, ◌&&◌}
use mathlib.Core.List.{List, [], ◌∷◌}
use mathlib.Core.Option.{some}
use Prim.Native.Nat.{ℕ, zero, suc, ◌+◌, ◌^◌, ◌<◌, ◌≤◌}
use native.Mathlib.Omega.{arith}
use lib.Dec.{eqb}
use borrow.Author.Tests.{eqb-true, eqb-false, eq-eqb, ne_eqb}
use Rattle.std.specs.Int.{bit_at, trailing_zeros}
use Rattle.std.proofs.Common.{w32}
use Rattle.std.proofs.lemmas.Nat.Bits.{bit_at-trailing_zeros}
use Rattle.isa.specs.Sets.{has}
use Rattle.listing.specs.Lines.{lowest, only_of}
use Rattle.std.specs.Prelude.{Option, None, Some, unwrap_or}
use Rattle.std.specs.Borrow.{Bor}
use Rattle.std.specs.List.{find}
use Rattle.std.specs.Option.{option_map}
use Rattle.std.specs.Str.{bytes_eq}
use Rattle.listing.specs.declared.names.Name.{Name as Entry}
use Rattle.listing.specs.Places.{same_text, text_in, value_in}
use Rattle.listing.specs.Told.{option_told, names_told}

-- two texts are the same
both_same : (q r s : Bool) → r ≡ s → q && r ≡ elim q [ true ↦ s | false ↦ false ]
both_same true r s e = e
both_same false r s e = refl

same_bytes : (x y : List ℕ) → bytes_eq x y ≡ same_text x y
same_bytes [] [] = refl
same_bytes [] (b ∷ y) = refl
same_bytes (a ∷ x) [] = refl
same_bytes (a ∷ x) (b ∷ y) = both_same (eqb a b) (bytes_eq x y) (same_text x y) (same_bytes x y)

abbrev entry_for : List ℕ → List Entry → Option Entry
entry_for t xs = find (λ x. bytes_eq x.1.now t) xs

pub value_found : (xs : List Entry) (t : List ℕ) → option_told (option_map (λ x. x.0) (find (λ x. bytes_eq x.1.now t) xs)) ≡ value_in (names_told xs) t
value_found [] t = refl
value_found (x ∷ xs) t = ap (λ (q : Bool). option_told (option_map (λ (x : Entry). x.0) (cond q (Some x) (entry_for t xs)))) (same_bytes x.1.now t) ∙ by_test (same_text x.1.now t) (value_found xs t)
  where
    by_test : (q : Bool) → option_told (option_map (λ (x : Entry). x.0) (entry_for t xs)) ≡ value_in (names_told xs) t
        → option_told (option_map (λ (x : Entry). x.0) (cond q (Some x) (entry_for t xs))) ≡ elim q [ true ↦ some x.0 | false ↦ value_in (names_told xs) t ]
    by_test true rest = refl
    by_test false rest = rest

abbrev entry_with : ℕ → List Entry → Option Entry
entry_with v xs = find (λ x. eqb x.0 v) xs

-- the text that was found, or none
abbrev pub now_or_none : Option (Bor (List ℕ)) → List ℕ
now_or_none None = []
now_or_none (Some t) = t.now

pub text_found : (xs : List Entry) (v : ℕ) → now_or_none (option_map (λ x. x.1) (find (λ x. eqb x.0 v) xs)) ≡ text_in (names_told xs) v
text_found [] v = refl
text_found (x ∷ xs) v = by_test (eqb x.0 v) (text_found xs v)
  where
    by_test : (q : Bool) → now_or_none (option_map (λ (x : Entry). x.1) (entry_with v xs)) ≡ text_in (names_told xs) v
        → now_or_none (option_map (λ (x : Entry). x.1) (cond q (Some x) (entry_with v xs))) ≡ elim q [ true ↦ x.1.now | false ↦ text_in (names_told xs) v ]
    by_test true rest = refl
    by_test false rest = rest

pub text_or_none : (o : Option (Bor (List ℕ))) (d : Bor (List ℕ)) → d.now ≡ [] → (unwrap_or o d).now ≡ now_or_none o
text_or_none None d e = e
text_or_none (Some t) d e = refl

-- the lowest value of a set that has one
lowest_at : (n k s t : ℕ) → k ≤ t → t < k + n → ((i : ℕ) → i < t → has s i ≡ false) → has s t ≡ true → t ≡ lowest n k s
lowest_at zero k s t l h below here = absurd (omega arith)
lowest_at (suc n) k s t l h below here = by_test (eqb k t) refl (λ g. lowest_at n (suc k) s t g (omega arith) below here)
  where
    by_test : (q : Bool) → eqb k t ≡ q → (suc k ≤ t → t ≡ lowest n (suc k) s) → t ≡ lowest (suc n) k s
    by_test true e rest = let z : k ≡ t = eqb-true k t e in let y : has s k ≡ true = ap (has s) z ∙ here in rw (lowest, y) (sym z)
    by_test false e rest =
        let d = eqb-false k t e in
        let y : has s k ≡ false = below k (omega arith) in
        rw (lowest, y) (rest (omega arith))

pub only_lowest : (s : ℕ) → 0 < s → s < 2 ^ 32 → trailing_zeros w32 s ≡ only_of s
only_lowest s z h =
    let b = bit_at-trailing_zeros w32 s z h in
    lowest_at 32 0 s (trailing_zeros w32 s) (omega arith) (omega (arith, b.0))
    (λ i l. ne_eqb _ 1 (λ (e : bit_at s i ≡ 1). omega (arith, b.2 i l)))
    (eq-eqb _ 1 b.1)
