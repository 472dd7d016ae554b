-- Document 01's examples (a) to (j), as rows of one table: an instruction word, what goes in, and what must come out of decoding and of
-- the cycle.
use Rattle.std.specs.Prelude.{◌≡◌, List, [], ◌∷◌, ℕ, replicate, get_or}
use Rattle.std.proofs.Math.Option.{none, some}
use Rattle.choice.specs.Tells.{Tells, accepted, refused}
use Rattle.alu.specs.Width.{bit}
use Rattle.isa.specs.declared.Family.{Family}
use Rattle.isa.specs.declared.Family.TheVariants.{Rotr1, Rotm, Rotc, Prt3, Tor1, Sor, Crcf, Crcr, Shftr, Noop}
use Rattle.isa.specs.declared.Named.{Named}
use Rattle.isa.specs.Words.{decode_of}
use Rattle.machine.specs.declared.Waiting.TheVariants.{Nothing}
use Rattle.machine.specs.declared.Machine.{Machine}
use Rattle.machine.specs.Cycles.{Turned, cycle_of}

-- the register that every row names is R1
pub record Values : Type 0 where
  pub register : ℕ
  pub acc : ℕ
  pub latch : ℕ
  pub status : ℕ

abbrev pub from : ℕ → ℕ → ℕ → ℕ → Values
from register acc latch status = record { register = register; acc = acc; latch = latch; status = status }

-- a bit of the status, and what it must be
pub record Flag : Type 0 where
  pub place : ℕ
  pub value : ℕ

abbrev pub flag : ℕ → ℕ → Flag
flag place value = record { place = place; value = value }

-- Z, C, N, OVR and LINK
abbrev pub z : ℕ → Flag
z = flag 0

abbrev pub c : ℕ → Flag
c = flag 1

abbrev pub n : ℕ → Flag
n = flag 2

abbrev pub ovr : ℕ → Flag
ovr = flag 3

abbrev pub link : ℕ → Flag
link = flag 4

-- a word, its family or refusal, the values before, R1 and ACC after, and the flags that the example names
pub record Row : Type 0 where
  pub word : ℕ
  pub family : Tells Family
  pub before : Values
  pub register : ℕ
  pub acc : ℕ
  pub flags : List Flag

abbrev pub row : ℕ → Tells Family → Values → ℕ → ℕ → List Flag → Row
row word family before register acc flags = record { word = word; family = family; before = before; register = register; acc = acc; flags = flags }

abbrev pub start_of : Values → Machine
start_of v = record { registers = record { ram = 0 ∷ v.register ∷ replicate 30 0; acc = v.acc; latch = v.latch; status = v.status; waiting = Nothing } }

-- one cycle with the word on the lines, and all pins low
abbrev pub turn_on : Row → Turned
turn_on r = cycle_of (start_of r.before) (record { lines = r.word; input = 0; pins = 0 })

abbrev pub family_told : Tells Named → Tells Family
family_told t = record { number = t.number; value = elim t.value [ some m ↦ some m.family | none ↦ none ] }

abbrev pub FlagsAre : ℕ → List Flag → Type 0
FlagsAre status [] = Unit {0}
FlagsAre status (f ∷ flags) = (bit f.place status ≡ f.value) × FlagsAre status flags

-- what a row says: the word decodes to the family, or gets the number; and so does the cycle, which leaves the values
pub record Holds (r : Row) : Type 0 where
  pub decoded : family_told (decode_of r.word) ≡ r.family
  pub answered : (turn_on r).answer.number ≡ r.family.number
  pub register : get_or (turn_on r).machine.registers.ram 1 0 ≡ r.register
  pub acc : (turn_on r).machine.registers.acc ≡ r.acc
  pub flags : FlagsAre (turn_on r).machine.registers.status r.flags

abbrev pub AllHold : List Row → Type 0
AllHold [] = Unit {0}
AllHold (r ∷ rows) = Holds r × AllHold rows

-- (a) to (j) in turn
abbrev pub examples : List Row
examples =
    row 0x89E1 (accepted Rotr1) (from 0x137F 0 0 0) 0x37F1 0 []
    ∷ row 0x09E1 (accepted Rotr1) (from 0x137F 0 0 0) 0x13F7 0 []
    ∷ row 0xA901 (accepted Rotm) (from 0x0F0F 0xAAAA 0x3156 0) 0x0F0F 0xA5A3 []
    ∷ row 0xA881 (accepted Rotc) (from 0x15F0 0x00FF 0x3156 0) 0x15F0 0x00FF (z 1 ∷ [])
    ∷ row 0xD461 (accepted Prt3) (from 0x0000 0 0 0) 0 0 []
    ∷ row 0xD461 (accepted Prt3) (from 0x8000 0 0 0) 1 0 []
    ∷ row 0xD461 (accepted Prt3) (from 0x0001 0 0 0) 16 0 []
    ∷ row 0x5461 (accepted Prt3) (from 0x0001 0 0 0) 8 0 []
    ∷ row 0x1881 (accepted Tor1) (from 0x007F 0x0001 0 0) 0x0080 0x0001 (n 1 ∷ ovr 1 ∷ c 0 ∷ [])
    ∷ row 0xDF61 (accepted Sor) (from 0x8000 0 0 0) 0x8000 0 (n 1 ∷ ovr 1 ∷ c 0 ∷ [])
    ∷ row 0xDF61 (accepted Sor) (from 0x0000 0 0 0) 0 0 (z 1 ∷ c 1 ∷ [])
    ∷ row 0xCC61 (accepted Crcf) (from 0x8000 0x1021 0 0x00) 0x1021 0x1021 (link 1 ∷ [])
    ∷ row 0xCC61 (accepted Crcf) (from 0x8000 0x1021 0 0x10) 0x0000 0x1021 (link 1 ∷ z 1 ∷ [])
    ∷ row 0xCD21 (accepted Crcr) (from 0x0001 0x8408 0 0) 0x8408 0x8408 (link 1 ∷ n 1 ∷ [])
    ∷ row 0x4C01 (accepted Shftr) (from 0x1280 0 0 0) 0x1200 0 (link 1 ∷ z 1 ∷ [])
    ∷ row 0x7140 (accepted Noop) (from 0x1234 0x5678 0x9ABC 0xFF) 0x1234 0x5678 (z 1 ∷ c 1 ∷ n 1 ∷ ovr 1 ∷ link 1 ∷ [])
    ∷ row 0xF140 (refused 7) (from 0x1234 0x5678 0x9ABC 0xFF) 0x1234 0x5678 []
    ∷ []
