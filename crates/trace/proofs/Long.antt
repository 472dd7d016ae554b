-- What is kept of a long input answers as all of it would.
use mathlib.Core.Path.{◌≡◌, refl, sym, ap, ◌∙◌}
use mathlib.Core.Bool.{Bool, true, false}
use mathlib.Core.List.{List}
use Prim.Native.Nat.{ℕ, ◌+◌, ◌/◌, ◌%◌, ◌≤◌, ◌<◌}
use native.Mathlib.Omega.{arith}
use lib.Dec.{eqb, ltb}
use lib.ListN.{length}
use borrow.Author.Tests.{eqb-true, eqb-false, ltb-true, ltb-false, lt-ltb, le-ltb}
use Rattle.choice.proofs.Picks.{picked, unpicked}
use Rattle.trace.specs.Layout.{block_bytes}
use Rattle.trace.specs.Limits.{most_blocks, too_long, kept_length}
use Rattle.trace.specs.Reading.{read_of}
use Rattle.trace.proofs.Answered.{read_11, read_many}

module _ (w : ℕ) where
  pub kept_short : (n : ℕ) → n < too_long w → n ≡ kept_length w n
  unfolding kept_length
  kept_short n h = sym (picked (ltb n (too_long w)) n (too_long w + n % block_bytes) (lt-ltb n (too_long w) h))

  pub kept_long : (n : ℕ) → too_long w ≤ n → too_long w + n % block_bytes ≡ kept_length w n
  unfolding kept_length
  kept_long n h = sym (unpicked (ltb n (too_long w)) n (too_long w + n % block_bytes) (le-ltb n (too_long w) h))

  pub kept_lt : (n : ℕ) → kept_length w n < too_long w + block_bytes
  kept_lt n = by_test (ltb n (too_long w)) refl
    where
      by_test : (b : Bool) → ltb n (too_long w) ≡ b → kept_length w n < too_long w + block_bytes
      by_test true q =
          let h : n < too_long w = ltb-true n (too_long w) q in
          rw (← kept_short n h) (omega arith)
      by_test false q = rw (← kept_long n (ltb-false n (too_long w) q)) (omega arith)

  -- two inputs of too many blocks with the same remainder
  long_same : (t u : List ℕ) (room : ℕ) → most_blocks w < length t / block_bytes → most_blocks w < length u / block_bytes → length t % block_bytes ≡ length u % block_bytes
      → read_of w t room ≡ read_of w u room
  long_same t u room h g e = by_test (eqb (length t % block_bytes) 0) refl
    where
      by_test : (b : Bool) → eqb (length t % block_bytes) 0 ≡ b → read_of w t room ≡ read_of w u room
      by_test true q =
          let z : length t % block_bytes ≡ 0 = eqb-true (length t % block_bytes) 0 q in
          sym (read_many w t room z h) ∙ read_many w u room (sym e ∙ z) g
      by_test false q = sym (read_11 w t room (eqb-false (length t % block_bytes) 0 q)) ∙ read_11 w u room (λ z. eqb-false (length t % block_bytes) 0 q (e ∙ z))

  -- u is what is kept of t: all of it, or its kept length of any bytes
  pub kept_answers : (t u : List ℕ) (room : ℕ) → length u ≡ kept_length w (length t) → (length t < too_long w → u ≡ t) → read_of w u room ≡ read_of w t room
  kept_answers t u room e f = by_test (ltb (length t) (too_long w)) refl
    where
      by_test : (b : Bool) → ltb (length t) (too_long w) ≡ b → read_of w u room ≡ read_of w t room
      by_test true q = ap (λ (l : List ℕ). read_of w l room) (f (ltb-true (length t) (too_long w) q))
      by_test false q =
          let h : too_long w ≤ length t = ltb-false (length t) (too_long w) q in
          let long : length u ≡ too_long w + length t % block_bytes = e ∙ sym (kept_long (length t) h) in
          long_same u t room (omega arith) (omega arith) (omega arith)

  -- more that comes can be counted onto what is kept
  pub kept_more : (n m : ℕ) → kept_length w (kept_length w n + m) ≡ kept_length w (n + m)
  kept_more n m = by_test (ltb n (too_long w)) refl
    where
      by_test : (b : Bool) → ltb n (too_long w) ≡ b → kept_length w (kept_length w n + m) ≡ kept_length w (n + m)
      by_test true q = ap (λ (x : ℕ). kept_length w (x + m)) (sym (kept_short n (ltb-true n (too_long w) q)))
      by_test false q =
          let h : too_long w ≤ n = ltb-false n (too_long w) q in
          ap (λ (x : ℕ). kept_length w (x + m)) (sym (kept_long n h))
          ∙ sym (kept_long (too_long w + n % block_bytes + m) (omega arith)) ∙ omega arith ∙ kept_long (n + m) (omega arith)
