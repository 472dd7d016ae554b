-- What a message leaves in a register that it is put through bit by bit (document 02, §11), in the order of the request: the cycles, the
-- remainder, its mirror, and what is there before and after. The theorem is `remainder_left` (proofs/Laws).
use Rattle.std.specs.Prelude.{◌≡◌, Bool, true, false, List, [], ◌∷◌, ℕ, zero, suc, ◌+◌, ◌*◌, ◌/◌, ◌%◌, ◌^◌, ◌<◌, length}
use Rattle.std.specs.Int.Bits.{bit_xor}
use Rattle.choice.specs.Pick.{pick}
use Rattle.choice.specs.Tells.{accepted}
use Rattle.alu.specs.declared.Mode.TheVariants.{Byte, Word}
use Rattle.isa.specs.declared.Family.TheVariants.{Crcf, Crcr, Setst, Rstst}
use Rattle.isa.specs.declared.Named.{Named}
use Rattle.isa.specs.Words.{decode_of}
use Rattle.machine.specs.declared.Waiting.TheVariants.{Nothing}
use Rattle.machine.specs.declared.Registers.{Registers}
use Rattle.machine.specs.declared.Words.{Words}
use Rattle.machine.specs.Pins.{both_low, stray_pin, bus_clash}
use Rattle.machine.specs.Seeing.{register_at}

-- The cycles.

-- LINK alone is set for a bit that is 1 (SETST, the word 7745) and reset for one that is 0 (RSTST, 7545)
abbrev pub put_in_link : Bool → Named
put_in_link true = record { family = Setst; mode = Byte; a = 11; b = 10; c = 5 }
put_in_link false = record { family = Rstst; mode = Byte; a = 10; b = 10; c = 5 }

-- CRCF or, for the mirrored rule, CRCR
pub data Direction : Type 0 where
  forward : Direction
  reverse : Direction

-- on register k (the words CC60 + k and CD20 + k)
abbrev pub step_on : ℕ → Direction → Named
step_on k forward = record { family = Crcf; mode = Word; a = 6; b = 3; c = k }
step_on k reverse = record { family = Crcr; mode = Word; a = 6; b = 9; c = k }

-- a cycle whose lines are this instruction's word, with IEN and SRE low and pins free of refusals 5 and 6; its Y input and all other pins are free
pub record Asks (i : Named) (c : Words) : Type 0 where
  pub word : decode_of c.lines ≡ accepted i
  pub low : both_low c.pins ≡ true
  pub stray : stray_pin c.pins ≡ false
  pub clash : bus_clash c.pins ≡ false

-- the cycles of a message: for each bit, from the first on, one that puts it into LINK and one that steps
pub data Feeds (d : Direction) (k : ℕ) : List Bool → List Words → Type 0 where
  empty : Feeds d k [] []
  next : {b : Bool} {bits : List Bool} {x y : Words} {cycles : List Words}
      → Asks (put_in_link b) x → Asks (step_on k d) y → Feeds d k bits cycles → Feeds d k (b ∷ bits) (x ∷ y ∷ cycles)

-- The remainder. A number stands for a polynomial over bits: its bit i is the coefficient of x^i. So the sum of two is their xor, times x^i is
-- times 2 ^ i, and a degree below i is a number below 2 ^ i. Where no power of x stands in both, + is xor.

abbrev pub digit : Bool → ℕ
digit b = pick b 1 0

-- the message as a polynomial, its first bit highest
abbrev pub message_polynomial : List Bool → ℕ
message_polynomial [] = 0
message_polynomial (b ∷ bits) = digit b * 2 ^ length bits + message_polynomial bits

-- the start moved up by as many places as the message has bits, and the message by 16
abbrev pub dividend : ℕ → List Bool → ℕ
dividend start message = bit_xor (start * 2 ^ length message) (message_polynomial message * 2 ^ 16)

-- x^16 plus the polynomial in ACC
abbrev pub divisor : ℕ → ℕ
divisor polynomial = 2 ^ 16 + polynomial

-- a polynomial times that of some bits, the first highest: the sum of its multiples by x^i, one for each bit that is 1
abbrev pub product : ℕ → List Bool → ℕ
product p [] = 0
product p (b ∷ bits) = bit_xor (pick b (p * 2 ^ length bits) 0) (product p bits)

-- n is a multiple of p, whose degree is 16, plus r, whose degree is lower. No two numbers are such an r (`one_remainder`, proofs/Multiples)
pub record Remainder (p n r : ℕ) : Type 0 where
  pub quotient : List Bool
  pub makes : bit_xor (product p quotient) r ≡ n
  pub small : r < 2 ^ 16

-- The mirror.

-- the low bits of a word, as many as its width, in reverse order
unfoldable pub mirror : ℕ → ℕ → ℕ
mirror zero x = 0
mirror (suc width) x = x % 2 * 2 ^ width + mirror width (x / 2)

-- a word as it stands in the register and in ACC: for CRCR it is mirrored. The message is never mirrored
abbrev pub oriented : Direction → ℕ → ℕ
oriented forward x = x
oriented reverse x = mirror 16 x

-- Before and after.

-- the start is in register k and the polynomial in ACC, both as they stand there, and nothing waits. Every machine of the code has 32 registers,
-- and words of 16 bits
pub record Ready (d : Direction) (k start polynomial : ℕ) (r : Registers) : Type 0 where
  pub address : k < 32
  pub size : length r.ram ≡ 32
  pub start_lt : start < 2 ^ 16
  pub polynomial_lt : polynomial < 2 ^ 16
  pub register : register_at r k ≡ oriented d start
  pub acc : r.acc ≡ oriented d polynomial
  pub waiting : r.waiting ≡ Nothing

-- the remainder is in register k, as it stands there; no other register has changed, nor has ACC, and nothing waits. Nothing is said of D, which
-- DLE may have changed, or of the status
pub record Holds (d : Direction) (k start polynomial : ℕ) (message : List Bool) (before after : Registers) : Type 0 where
  pub remainder : ℕ
  pub divided : Remainder (divisor polynomial) (dividend start message) remainder
  pub register : register_at after k ≡ oriented d remainder
  pub others : (j : ℕ) → j < 32 → (j ≡ k → ⊥) → register_at after j ≡ register_at before j
  pub size : length after.ram ≡ 32
  pub acc : after.acc ≡ before.acc
  pub waiting : after.waiting ≡ Nothing
