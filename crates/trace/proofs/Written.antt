-- The loop that writes blocks.
use mathlib.Core.Path.{◌≡◌, ap, ◌∙◌}
use mathlib.Core.List.{List, ◌++◌}
use Prim.Native.Nat.{ℕ, ◌+◌, ◌-◌, ◌*◌, ◌≤◌, ◌<◌, min}
use native.Mathlib.Omega.{arith}
use lib.ListN.{length, take, drop, length-drop}
use lib.Seq.{drop-drop}
use Rattle.choice.proofs.Filling.{turn_part}
use Rattle.trace.specs.Layout.{joined}
use Rattle.trace.specs.Blocks.{block_of}
use Rattle.trace.specs.Limits.{blocks_for}
use Rattle.trace.specs.Writing.{blocks_from, trace_of}
use Rattle.trace.proofs.Made.{made_long, chunk_is, made_step}

-- the bytes of the blocks from k on
abbrev to_come : ℕ → List ℕ → ℕ → List ℕ
to_come w words k = joined (blocks_from w (blocks_for (length words) - k) k (drop (k * 252) words))

-- before block k: the words that are left, what is written, and what is still to be written
pub record Before (w : ℕ) (words trace₀ trace left : List ℕ) (k : ℕ) : Type 0 where
  pub words_left : left ≡ drop (k * 252) words
  pub bound : k ≤ blocks_for (length words)
  pub room : length trace ≡ length trace₀
  pub fills : take (k * 512) trace ++ to_come w words k ≡ trace_of w words
  pub rest : drop (k * 512) trace ≡ drop (k * 512) trace₀

module _ {w : ℕ} {words trace₀ trace left : List ℕ} {k : ℕ} (b : Before w words trace₀ trace left k) where
  -- a chunk comes off the words
  module _ (chunk left' : List ℕ) (off : left ≡ chunk ++ left') (size : length chunk ≡ min 252 (length left)) (some : 0 < length left) where
    pub here : k < blocks_for (length words)
    here =
        let long : length left ≡ length words - k * 252 = ap length b.words_left ∙ length-drop (k * 252) words in
        omega (arith, long, some)

    few : length chunk ≤ 252
    few = omega (arith, size)

    next_block : (made : List ℕ) → blocks_for (length words) * 512 ≤ length trace₀ → made ≡ block_of w k chunk
        → Before w words trace₀ (take (k * 512) trace ++ (made ++ drop (k * 512 + 512 - k * 512) (drop (k * 512) trace))) left' (k + 1)
    next_block made fits em =
        let next : (k + 1) * 512 ≡ k * 512 + 512 = omega arith in
        let words_next : (k + 1) * 252 ≡ k * 252 + 252 = omega arith in
        let cut = chunk_is 252 left chunk left' off size in
        let chunk_here : chunk ≡ take 252 (drop (k * 252) words) = cut.0 ∙ ap (take 252) b.words_left in
        let long : length made ≡ k * 512 + 512 - k * 512 = rw em (omega (arith, made_long w k chunk few)) in
        let step : to_come w words k ≡ made ++ to_come w words (k + 1) = rw (em, chunk_here) (made_step w (blocks_for (length words)) k words here) in
        let f = turn_part trace trace₀ made (to_come w words k) (to_come w words (k + 1)) (trace_of w words) (k * 512) (k * 512 + 512) (omega arith)
        (omega (arith, b.room, fits, here)) long step b.fills b.rest in
        record {
          words_left = rw (words_next, ← drop-drop 252 (k * 252) words, ← b.words_left) cut.1;
          bound = omega (arith, here);
          room = rw (← b.room) f.0;
          fills = rw next f.1;
          rest = rw next f.2;
        }

    pub again : (made : List ℕ) (n k' : ℕ) → blocks_for (length words) * 512 ≤ length trace₀ → n ≡ k → k' ≡ k + 1 → made ≡ block_of w n chunk
        → Before w words trace₀ (take (n * 512) trace ++ (made ++ drop (n * 512 + 512 - n * 512) (drop (n * 512) trace))) left' k'
    again made n k' fits en ek em = rw (en, ek) (next_block made fits (rw en at em))
