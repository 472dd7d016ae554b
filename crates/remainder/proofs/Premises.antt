-- The premises can be met: every message has its cycles, and every machine of 16-bit words with nothing waiting is ready, with what it has as start
-- and polynomial.
-- The laws, in this order: `every_message`, `words_are`, `every_machine`.
use mathlib.Core.Path.{◌≡◌, refl, sym}
use mathlib.Core.Bool.{Bool, true, false}
use mathlib.Core.List.{List, [], ◌∷◌}
use Prim.Native.Nat.{ℕ, ◌+◌, ◌^◌, ◌<◌}
use lib.ListN.{length}
use Rattle.choice.specs.Tells.{accepted}
use Rattle.choice.proofs.Spans.{holds, below}
use Rattle.isa.specs.declared.Named.{Named}
use Rattle.isa.specs.Slots.{takes}
use Rattle.isa.specs.Words.{named_row, word_for, encode_of}
use Rattle.isa.proofs.Laws.{decode_encode}
use Rattle.machine.specs.declared.Waiting.TheVariants.{Nothing}
use Rattle.machine.specs.declared.Registers.{Registers}
use Rattle.machine.specs.declared.Words.{Words}
use Rattle.machine.specs.Seeing.{register_at}
use Rattle.remainder.specs.Remainder.{put_in_link, Direction, forward, reverse, step_on, Asks, Feeds, empty, next, oriented, Ready}
use Rattle.remainder.proofs.Mirrors.{mirror_again}
use Rattle.remainder.proofs.Cycles.{oriented_lt}

-- the cycle of an instruction's own word, with its input and all its pins 0
abbrev quiet : Named → Words
quiet i = record { lines = word_for i; input = 0; pins = 0 }

quiet_asks : (i : Named) → encode_of i ≡ accepted (word_for i) → Asks i (quiet i)
quiet_asks i e = record { word = decode_encode i (word_for i) e; low = refl; stray = refl; clash = refl }

bit_listed : (b : Bool) → encode_of (put_in_link b) ≡ accepted (word_for (put_in_link b))
unfolding encode_of
bit_listed true = refl
bit_listed false = refl

-- CRCF and CRCR take every register
step_taken : (k : ℕ) (d : Direction) → k < 32 → takes (named_row (step_on k d)) 1 (step_on k d).a (step_on k d).b k ≡ true
step_taken k forward h = holds _ (below (λ c. takes (named_row (step_on 0 forward)) 1 6 3 c) 32 k tt h)
step_taken k reverse h = holds _ (below (λ c. takes (named_row (step_on 0 reverse)) 1 6 9 c) 32 k tt h)

step_listed : (k : ℕ) (d : Direction) → k < 32 → encode_of (step_on k d) ≡ accepted (word_for (step_on k d))
unfolding encode_of
step_listed k forward h = rw (step_taken k forward h)
step_listed k reverse h = rw (step_taken k reverse h)

pub every_message : (d : Direction) (k : ℕ) (message : List Bool) → k < 32 → (cycles : List Words) × Feeds d k message cycles
every_message d k [] h = ([], empty)
every_message d k (b ∷ message) h =
    let rest = every_message d k message h in (
      quiet (put_in_link b) ∷ quiet (step_on k d) ∷ rest.0,
      next (quiet_asks (put_in_link b) (bit_listed b)) (quiet_asks (step_on k d) (step_listed k d h)) rest.1,
    )

-- the words themselves
pub words_are : (word_for (put_in_link true) ≡ 0x7745) × (word_for (put_in_link false) ≡ 0x7545)
    × ((k : ℕ) → word_for (step_on k forward) ≡ 0xCC60 + k) × ((k : ℕ) → word_for (step_on k reverse) ≡ 0xCD20 + k)
words_are = (refl, refl, λ k. refl, λ k. refl)

oriented_again : (d : Direction) (x : ℕ) → x < 2 ^ 16 → oriented d (oriented d x) ≡ x
oriented_again forward x h = refl
oriented_again reverse x h = mirror_again 16 x h

pub every_machine : (d : Direction) (k : ℕ) (r : Registers) → k < 32 → length r.ram ≡ 32 → register_at r k < 2 ^ 16 → r.acc < 2 ^ 16 → r.waiting ≡ Nothing
    → Ready d k (oriented d (register_at r k)) (oriented d r.acc) r
every_machine d k r address size register acc waiting = record {
  address = address;
  size = size;
  start_lt = oriented_lt d (register_at r k) register;
  polynomial_lt = oriented_lt d r.acc acc;
  register = sym (oriented_again d (register_at r k) register);
  acc = sym (oriented_again d r.acc acc);
  waiting = waiting;
}
