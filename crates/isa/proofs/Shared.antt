-- A slot's number says all its rows: a test over the 2,048 slots, carried to each.
use mathlib.Core.Path.{◌≡◌, refl, ◌∙◌, ap, sym}
use native.Mathlib.Omega.{arith}
use borrow.Author.Tests.{eqb-true}
use mathlib.Core.Bool.{Bool, true, false}
use mathlib.Core.List.{List, [], ◌∷◌}
use Prim.Native.Nat.{ℕ, ◌<◌}
use lib.Dec.{T, eqb, ltb, eqb→eq, ltb→lt}
use Rattle.choice.proofs.Spans.{span, below, both}
use Rattle.isa.specs.Slots.{slot_rows, with_c, row_of}
use Rattle.isa.specs.Table.{no_row}
use Rattle.isa.specs.Decision.{slot_of, sharing}

-- two lists of numbers are the same
abbrev alike : List ℕ → List ℕ → Bool
alike [] [] = true
alike [] (y ∷ ys) = false
alike (x ∷ xs) [] = false
alike (x ∷ xs) (y ∷ ys) = elim (eqb x y) [ true ↦ alike xs ys | false ↦ false ]

alike_eq : (xs ys : List ℕ) → T (alike xs ys) → xs ≡ ys
alike_eq [] [] t = refl
alike_eq [] (y ∷ ys) t = absurd t
alike_eq (x ∷ xs) [] t = absurd t
alike_eq (x ∷ xs) (y ∷ ys) t =
    let h = both (eqb x y) (alike xs ys) t in
    ap (λ (z : ℕ). z ∷ xs) (eqb→eq x y h.0) ∙ ap (λ zs. y ∷ zs) (alike_eq xs ys h.1)

told : ℕ → ℕ → ℕ → ℕ → Bool
told m q a b = alike (slot_rows m q a b) (sharing (slot_of m q a b))

all_told : T (span 0 2 (λ m. span 0 4 (λ q. span 0 16 (λ a. span 0 16 (λ b. told m q a b)))))
unfolding told
all_told = tt

pub shares : (m q a b : ℕ) → (m < 2) × (q < 4) × (a < 16) × (b < 16) → slot_rows m q a b ≡ sharing (slot_of m q a b)
unfolding told
shares m q a b h =
    alike_eq (slot_rows m q a b) (sharing (slot_of m q a b))
    (below (λ b. told m q a b) 16 b
    (below (λ a. span 0 16 (λ b. told m q a b)) 16 a
    (below (λ q. span 0 16 (λ a. span 0 16 (λ b. told m q a b))) 4 q
    (below (λ m. span 0 4 (λ q. span 0 16 (λ a. span 0 16 (λ b. told m q a b)))) 2 m all_told h.0) h.1) h.2) h.3)

-- the row of a slot of quadrants 0 to 2 has every value of C: a test over those slots, and one over their rows
addressed : ℕ → Bool
addressed s = elim (eqb s no_row) [ true ↦ true | false ↦ ltb s 15 ]

all_addressed : T (span 0 2 (λ m. span 0 3 (λ q. span 0 16 (λ a. span 0 16 (λ b. addressed (slot_of m q a b))))))
unfolding addressed
all_addressed = tt

every_c : T (span 0 15 (λ s. span 0 32 (λ c. eqb s (with_c (sharing s) c))))
every_c = tt

pub row_addressed : (m q a b c : ℕ) → (m < 2) × (q < 3) × (a < 16) × (b < 16) × (c < 32) → slot_of m q a b ≡ row_of m q a b c
unfolding addressed
row_addressed m q a b c h =
    by_test (eqb (slot_of m q a b) no_row) refl
    (below (λ b. addressed (slot_of m q a b)) 16 b
    (below (λ a. span 0 16 (λ b. addressed (slot_of m q a b))) 16 a
    (below (λ q. span 0 16 (λ a. span 0 16 (λ b. addressed (slot_of m q a b)))) 3 q
    (below (λ m. span 0 3 (λ q. span 0 16 (λ a. span 0 16 (λ b. addressed (slot_of m q a b))))) 2 m all_addressed h.0) h.1) h.2) h.3)
    ∙ ap (λ l. with_c l c) (sym (shares m q a b (h.0, omega arith, h.2, h.3)))
  where
    by_test : (x : Bool) → eqb (slot_of m q a b) no_row ≡ x → T (elim x [ true ↦ true | false ↦ ltb (slot_of m q a b) 15 ])
        → slot_of m q a b ≡ with_c (sharing (slot_of m q a b)) c
    by_test true e t = ap (λ (s : ℕ). s) (eqb-true _ _ e) ∙ ap (λ (s : ℕ). with_c (sharing s) c) (sym (eqb-true _ _ e))
    by_test false e t =
        let s = slot_of m q a b in
        eqb→eq s (with_c (sharing s) c) (below (λ c. eqb s (with_c (sharing s) c)) 32 c (below (λ s. span 0 32 (λ c. eqb s (with_c (sharing s) c))) 15 s every_c (ltb→lt s 15 t)) h.4)

-- the row that fields belong to, by their quadrant k: below 3 it is the slot's, and in any quadrant C picks among those of the slot
module _ (k m q a b c : ℕ) (h : (m < 2) × (q < 4) × (a < 16) × (b < 16) × (c < 32)) (e : q ≡ k) where
  pub addressed_row : T (ltb k 3) → (r : ℕ) → r ≡ slot_of m k a b → r ≡ row_of m q a b c
  addressed_row t r s = s ∙ row_addressed m k a b c (h.0, ltb→lt k 3 t, h.2, h.3, h.4) ∙ ap (λ (q : ℕ). row_of m q a b c) (sym e)

  pub picked_row : (r s : ℕ) → r ≡ with_c (sharing s) c → s ≡ slot_of m k a b → r ≡ row_of m q a b c
  picked_row r s f g =
      f ∙ ap (λ (s : ℕ). with_c (sharing s) c) (g ∙ ap (λ (q : ℕ). slot_of m q a b) (sym e)) ∙ sym (ap (λ l. with_c l c) (shares m q a b (h.0, h.1, h.2, h.3)))
