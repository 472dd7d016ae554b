-- The blocks of a trace, as the code cuts them, and by their places.
use mathlib.Core.Path.{◌≡◌, refl, ap, ◌∙◌}
use mathlib.Core.List.{List, [], ◌∷◌}
use Prim.Native.Nat.{ℕ, zero, suc, ◌+◌, ◌-◌, ◌*◌, ◌<◌}
use native.Mathlib.Omega.{arith}
use lib.ListN.{length, take, drop, get_or}
use Rattle.std.specs.Simd.{first_chunks}
use lib.Seq.{drop-drop}
use Rattle.trace.specs.Layout.{part}
use Rattle.trace.specs.Reading.{blocks_of}

pub length_blocks : (m : ℕ) (t : List ℕ) → length (blocks_of m t) ≡ m
length_blocks zero t = refl
length_blocks (suc m) t = ap suc (length_blocks m (drop 512 t))

pub block_part : (k : ℕ) (t : List ℕ) → take 512 (drop (k * 512) t) ≡ part (k * 512) (k * 512 + 512) t
block_part k t =
    let e : k * 512 + 512 - k * 512 ≡ 512 = omega arith in
    rw e

-- block k of m
pub block_at : (m k : ℕ) (t : List ℕ) → k < m → get_or (blocks_of m t) k [] ≡ part (k * 512) (k * 512 + 512) t
block_at m k t h = found m k t h ∙ block_part k t
  where
    found : (m k : ℕ) (t : List ℕ) → k < m → get_or (blocks_of m t) k [] ≡ take 512 (drop (k * 512) t)
    found zero k t h = absurd (omega arith)
    found (suc m) zero t h = refl
    found (suc m) (suc k) t h =
        let e : suc k * 512 ≡ 512 + k * 512 = omega arith in
        rw (found m k (drop 512 t) (omega arith), drop-drop, e)

-- the code cuts a trace into the same blocks
pub blocks_cut : (m : ℕ) (t : List ℕ) → blocks_of m t ≡ first_chunks 512 m t
blocks_cut zero t = refl
blocks_cut (suc m) t = ap (λ (l : List (List ℕ)). take 512 t ∷ l) (blocks_cut m (drop 512 t))
