-- Blocks as the writer makes them.
use mathlib.Core.Path.{◌≡◌, refl, sym, ap, ◌∙◌}
use mathlib.Core.Bool.{Bool, true, false}
use mathlib.Core.List.{List, [], ◌++◌, append-nil}
use Prim.Native.Nat.{ℕ, suc, ◌+◌, ◌-◌, ◌*◌, ◌≤◌, ◌<◌, min}
use native.Mathlib.Omega.{arith}
use lib.Dec.{leb}
use lib.ListN.{length, take, drop, length-append, length-replicate, drop_of_length-le}
use lib.Seq.{take_all, take_at, drop_at, drop-drop}
use borrow.Author.Tests.{leb-true, leb-false}
use Rattle.trace.specs.Layout.{joined}
use Rattle.trace.specs.Blocks.{head_of, body_of, sealed, block_of}
use Rattle.trace.specs.Writing.{blocks_from}
use Rattle.trace.proofs.Words.{length_bytes, none_left}

pub length_head : (w k n : ℕ) → length (head_of w k n) ≡ 4
unfolding head_of
length_head w k n = refl

pub body_long : (w k : ℕ) (words : List ℕ) → length words ≤ 252 → length (body_of w k words) ≡ 510
unfolding body_of head_of
body_long w k words h = simp (length-append, length-replicate, length_bytes) (omega arith)

pub made_long : (w k : ℕ) (words : List ℕ) → length words ≤ 252 → length (block_of w k words) ≡ 512
unfolding sealed
made_long w k words h = simp length-append (omega (arith, body_long w k words h))

-- a chunk that comes off the front of a list is its first n elements, or all where there are no more
pub chunk_is : (n : ℕ) (l chunk rest : List ℕ) → l ≡ chunk ++ rest → length chunk ≡ min n (length l) → (chunk ≡ take n l) × (rest ≡ drop n l)
chunk_is n l chunk rest e g = by_test (leb (length l) n) refl
  where
    long : length l ≡ length chunk + length rest
    long = ap length e ∙ length-append chunk rest

    by_test : (b : Bool) → leb (length l) n ≡ b → (chunk ≡ take n l) × (rest ≡ drop n l)
    by_test true q =
        let h : length l ≤ n = leb-true _ _ q in
        let none : rest ≡ [] = none_left rest (omega (arith, long)) in
        let all : l ≡ chunk = e ∙ ap (λ (r : List ℕ). chunk ++ r) none ∙ append-nil chunk in
        (sym all ∙ sym (take_all n l h), none ∙ sym (drop_of_length-le l h))
    by_test false q =
        let h : n < length l = leb-false _ _ q in
        let size : length chunk ≡ n = omega (arith, g) in
        (sym (ap (take n) e ∙ take_at chunk rest n size), sym (ap (drop n) e ∙ drop_at chunk rest n size))

-- a turn of the loop that writes blocks
pub made_step : (w m k : ℕ) (words : List ℕ) → k < m
    → joined (blocks_from w (m - k) k (drop (k * 252) words)) ≡ block_of w k (take 252 (drop (k * 252) words)) ++ joined (blocks_from w (m - (k + 1)) (k + 1) (drop ((k + 1) * 252) words))
made_step w m k words h =
    let f : m - k ≡ suc (m - (k + 1)) = omega arith in
    let g : (k + 1) * 252 ≡ k * 252 + 252 = omega arith in
    rw (f, g, drop-drop)
