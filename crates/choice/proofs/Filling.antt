-- A list that is filled from the front, or in parts: what was put before a place, and what is still as it was after it.
use mathlib.Core.Path.{◌≡◌}
use mathlib.Core.List.{List, [], ◌++◌, append-nil, append_assoc}
use Prim.Native.Nat.{ℕ, ◌+◌, ◌-◌, ◌≤◌}
use native.Mathlib.Omega.{arith}
use lib.ListN.{length, take, drop, length-append, length-take, length-drop, drop_of_length-le, take-append-drop}
use lib.Seq.{take_at, drop_at, drop-drop, take_all}

module _ {A : Type 0} where
  -- ys put into a list at p
  abbrev put : List A → ℕ → List A → List A
  put xs p ys = take p xs ++ (ys ++ drop (p + length ys) xs)

  module _ (xs ys : List A) (p : ℕ) (h : p + length ys ≤ length xs) where
    before_long : length (take p xs ++ ys) ≡ p + length ys
    before_long = simp (length-append, length-take) (omega arith)

    length_put : length (put xs p ys) ≡ length xs
    length_put = simp (length-append, length-take, length-drop) (omega arith)

    take_put : take (p + length ys) (put xs p ys) ≡ take p xs ++ ys
    take_put = rw (← append_assoc (take p xs) ys (drop (p + length ys) xs)) (take_at (take p xs ++ ys) _ _ before_long)

    drop_put : drop (p + length ys) (put xs p ys) ≡ drop (p + length ys) xs
    drop_put = rw (← append_assoc (take p xs) ys (drop (p + length ys) xs)) (drop_at (take p xs ++ ys) _ _ before_long)

    -- what is still to come starts with ys
    fill_take : (rest rest' all : List A) → rest ≡ ys ++ rest' → take p xs ++ rest ≡ all → take (p + length ys) (put xs p ys) ++ rest' ≡ all
    fill_take rest rest' all e f = rw (take_put, append_assoc, ← e) f

    fill_drop : (xs₀ : List A) → drop p xs ≡ drop p xs₀ → drop (p + length ys) (put xs p ys) ≡ drop (p + length ys) xs₀
    fill_drop xs₀ e = rw (drop_put, ← drop-drop (length ys) p xs, ← drop-drop (length ys) p xs₀, e)

  -- what comes back of &mut xs[p..] where ys was put at its front
  put_tail : (xs ys : List A) (p : ℕ) → p ≤ length xs
      → take p xs ++ ((ys ++ drop (length ys) (take (length xs - p) (drop p xs))) ++ drop (length xs - p) (drop p xs)) ≡ put xs p ys
  put_tail xs ys p h =
      let e : length (drop p xs) ≤ length xs - p = simp length-drop (omega arith) in
      rw (take_all _ _ e, drop_of_length-le (drop p xs) e, append-nil, drop-drop)

  -- a turn of a loop that fills xs through &mut xs[p..]: `last` is what the callee left there
  pub turn : (xs xs₀ last ys rest rest' all : List A) (p r : ℕ) → p + r ≤ length xs → length ys ≡ r
      → last ≡ ys ++ drop r (take (length xs - p) (drop p xs)) → rest ≡ ys ++ rest' → take p xs ++ rest ≡ all → drop p xs ≡ drop p xs₀
      → (length (take p xs ++ (last ++ drop (length xs - p) (drop p xs))) ≡ length xs)
      × (take (p + r) (take p xs ++ (last ++ drop (length xs - p) (drop p xs))) ++ rest' ≡ all)
      × (drop (p + r) (take p xs ++ (last ++ drop (length xs - p) (drop p xs))) ≡ drop (p + r) xs₀)
  turn xs xs₀ last ys rest rest' all p r h er el e f g =
      rw (el, ← er, put_tail xs ys p (omega arith))
      (length_put xs ys p (omega arith), fill_take xs ys p (omega arith) rest rest' all e f, fill_drop xs ys p (omega arith) xs₀ g)

  -- the same through &mut xs[p..e], which the callee fills whole
  pub turn_part : (xs xs₀ ys rest rest' all : List A) (p e : ℕ) → p ≤ e → e ≤ length xs → length ys ≡ e - p
      → rest ≡ ys ++ rest' → take p xs ++ rest ≡ all → drop p xs ≡ drop p xs₀
      → (length (take p xs ++ (ys ++ drop (e - p) (drop p xs))) ≡ length xs)
      × (take e (take p xs ++ (ys ++ drop (e - p) (drop p xs))) ++ rest' ≡ all)
      × (drop e (take p xs ++ (ys ++ drop (e - p) (drop p xs))) ≡ drop e xs₀)
  turn_part xs xs₀ ys rest rest' all p e le h l er f g =
      let q : p + length ys ≤ length xs = omega arith in
      let i : e ≡ p + length ys = omega arith in
      rw (← l, drop-drop (length ys) p xs, i) (length_put xs ys p q, fill_take xs ys p q rest rest' all er f, fill_drop xs ys p q xs₀ g)

  -- the end of such a loop
  pub turned : (xs xs₀ rest all : List A) (p : ℕ) → rest ≡ [] → take p xs ++ rest ≡ all → drop p xs ≡ drop p xs₀ → xs ≡ all ++ drop p xs₀
  turned xs xs₀ rest all p e f g = rw (← f, e, append-nil, ← g, take-append-drop)

  -- a part from a to e of xs, replaced by ys
  module _ (xs ys : List A) (a e : ℕ) (le : a ≤ e) (fits : e ≤ length xs) (long : length ys ≡ e - a) where
    front_long : length (take a xs ++ ys) ≡ e
    front_long = simp (length-append, length-take) (omega arith)

    pub middle_take : take e (take a xs ++ (ys ++ drop (e - a) (drop a xs))) ≡ take a xs ++ ys
    middle_take = rw (← append_assoc (take a xs) ys (drop (e - a) (drop a xs))) (take_at (take a xs ++ ys) _ e front_long)

    pub middle_long : length (take a xs ++ (ys ++ drop (e - a) (drop a xs))) ≡ length xs
    middle_long = simp (length-append, length-take, length-drop) (omega arith)

  -- a part up to the end
  pub middle_end : (xs ys : List A) (a e : ℕ) → a ≤ e → length xs ≡ e → take a xs ++ (ys ++ drop (e - a) (drop a xs)) ≡ take a xs ++ ys
  middle_end xs ys a e le l =
      let h : length (drop a xs) ≤ e - a = simp length-drop (omega arith) in
      rw (drop_of_length-le (drop a xs) h, append-nil)
