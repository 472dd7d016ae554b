-- What single fields stand for, as document 01's instruction list has them. A table has an entry for each value that the list has, and says what
-- stands for every other value, to which no instruction of the list comes (law `default_not_reached` of proofs/Reached).
use Rattle.std.specs.Prelude.{ℕ, Bool, true, false, List, [], ◌∷◌, eqb}
use Rattle.alu.specs.declared.TwoOperandKind.{TwoOperandKind}
use Rattle.alu.specs.declared.TwoOperandKind.TheVariants.{SMinusR, SMinusRWithCarry, RMinusS, RMinusSWithCarry, RPlusS, RPlusSWithCarry, And, Nand, Xor, Nor, Or, Xnor}
use Rattle.alu.specs.declared.OneOperandKind.{OneOperandKind}
use Rattle.alu.specs.declared.OneOperandKind.TheVariants.{Move, Complement, Increment, Negate}
use Rattle.alu.specs.declared.BitKind.{BitKind}
use Rattle.alu.specs.declared.BitKind.TheVariants.{SetBit, ResetBit, TestBit, LoadBit, LoadBitComplement, AddBit, SubtractBit}
use Rattle.alu.specs.declared.ShiftKind.{ShiftKind}
use Rattle.alu.specs.declared.ShiftKind.TheVariants.{UpWithZero, UpWithOne, UpWithLink, DownWithZero, DownWithOne, DownWithLink, DownWithC, DownWithNXorOvr}
use Rattle.plan.specs.declared.Source.{Source}
use Rattle.plan.specs.declared.Source.TheVariants.{Zero, Ram, Acc, Latch, Immediate, LatchZeroExtended, LatchSignExtended}
use Rattle.plan.specs.declared.Destination.{Destination}
use Rattle.plan.specs.declared.Destination.TheVariants.{ToY, ToAcc, ToRam, ToStatus, ToAccAndStatus}

-- a value of a field and what it stands for
pub record Entry (A : Type 0) : Type 0 where
  pub value : ℕ
  pub stands : A

infix 90 ◌↣◌
abbrev pub ◌↣◌ : {A : Type 0} → ℕ → A → Entry A
◌↣◌ k x = record { value = k; stands = x }

-- a table: the entries of a printed list, and what stands for every other value
pub record Table (A : Type 0) : Type 0 where
  pub entries : List (Entry A)
  pub other : A

infix 10 ◌otherwise◌
abbrev pub ◌otherwise◌ : {A : Type 0} → List (Entry A) → A → Table A
◌otherwise◌ es x = record { entries = es; other = x }

abbrev pub look_up : {A : Type 0} → List (Entry A) → A → ℕ → A
look_up [] other k = other
look_up (e ∷ es) other k = elim (eqb e.value k) [ true ↦ e.stands | false ↦ look_up es other k ]

-- what a table has for a value
abbrev pub at : {A : Type 0} → Table A → ℕ → A
at t k = look_up t.entries t.other k

-- how a table is looked up, and the way that is meant. The law `default_not_reached` (proofs/Reached) puts other ways in its place, which agree with it
-- wherever there is an entry, such as one that gives the first entry's value elsewhere
pub record Looking : Type 1 where
  pub look : {A : Type 0} → Table A → ℕ → A

abbrev pub as_printed : Looking
as_printed = record { look = at }

-- some entry is for a value
abbrev pub has_entry : {A : Type 0} → List (Entry A) → ℕ → Bool
has_entry [] k = false
has_entry (e ∷ es) k = elim (eqb e.value k) [ true ↦ true | false ↦ has_entry es k ]

-- Operations

-- field B of TOR1, TOR2 and TONR
abbrev pub two_operands : Table TwoOperandKind
two_operands =
    (0 ↣ SMinusR ∷ 1 ↣ SMinusRWithCarry ∷ 2 ↣ RMinusS ∷ 3 ↣ RMinusSWithCarry ∷ 4 ↣ RPlusS ∷ 5 ↣ RPlusSWithCarry ∷ 6 ↣ And ∷ 7 ↣ Nand ∷ 8 ↣ Xor ∷ 9 ↣ Nor ∷ 10 ↣ Or ∷ 11 ↣ Xnor ∷ [])
    otherwise Xnor

-- field A of SOR and SONR
abbrev pub one_operands : Table OneOperandKind
one_operands = (12 ↣ Move ∷ 13 ↣ Complement ∷ 14 ↣ Increment ∷ 15 ↣ Negate ∷ []) otherwise Move

-- field B of SHFTR and SHFTNR
abbrev pub shifts : Table ShiftKind
shifts =
    (0 ↣ UpWithZero ∷ 1 ↣ UpWithOne ∷ 2 ↣ UpWithLink ∷ 4 ↣ DownWithZero ∷ 5 ↣ DownWithOne ∷ 6 ↣ DownWithLink ∷ 7 ↣ DownWithC ∷ 8 ↣ DownWithNXorOvr ∷ [])
    otherwise UpWithZero

-- field B of BOR2
abbrev pub bor2_bits : Table BitKind
bor2_bits = (12 ↣ LoadBit ∷ 13 ↣ LoadBitComplement ∷ 14 ↣ AddBit ∷ 15 ↣ SubtractBit ∷ []) otherwise LoadBit

-- field B of BOR1
abbrev pub bor1_bits : Table BitKind
bor1_bits = (13 ↣ SetBit ∷ 14 ↣ ResetBit ∷ 15 ↣ TestBit ∷ []) otherwise SetBit

-- field C of BONR: on ACC, and from 16 on the same on D
abbrev pub bonr_bits : Table BitKind
bonr_bits =
    (0 ↣ TestBit ∷ 1 ↣ ResetBit ∷ 2 ↣ SetBit ∷ 4 ↣ AddBit ∷ 5 ↣ SubtractBit ∷ 6 ↣ LoadBit ∷ 7 ↣ LoadBitComplement
    ∷ 16 ↣ TestBit ∷ 17 ↣ ResetBit ∷ 18 ↣ SetBit ∷ 20 ↣ AddBit ∷ 21 ↣ SubtractBit ∷ 22 ↣ LoadBit ∷ 23 ↣ LoadBitComplement ∷ [])
    otherwise TestBit

-- field C of SETST and RSTST: the status bits that it names, OVR, N, C and Z, or LINK, or a flag
abbrev pub status_bits : Table ℕ
status_bits = (3 ↣ 0x0F ∷ 5 ↣ 0x10 ∷ 6 ↣ 0x20 ∷ 9 ↣ 0x40 ∷ 10 ↣ 0x80 ∷ []) otherwise 0

-- Operands

-- field A of TOR1: R, and S
abbrev pub ram_pair_r : Table Source
ram_pair_r = (0 ↣ Ram ∷ 2 ↣ Ram ∷ 3 ↣ Latch ∷ 8 ↣ Ram ∷ 10 ↣ Ram ∷ 11 ↣ Latch ∷ 12 ↣ Ram ∷ 14 ↣ Ram ∷ 15 ↣ Latch ∷ []) otherwise Ram

abbrev pub ram_pair_s : Table Source
ram_pair_s = (0 ↣ Acc ∷ 2 ↣ Immediate ∷ 3 ↣ Ram ∷ 8 ↣ Acc ∷ 10 ↣ Immediate ∷ 11 ↣ Ram ∷ 12 ↣ Acc ∷ 14 ↣ Immediate ∷ 15 ↣ Ram ∷ []) otherwise Acc

-- field A of TOR2 and TONR: R, and S
abbrev pub pair_r : Table Source
pair_r = (1 ↣ Latch ∷ 2 ↣ Acc ∷ 5 ↣ Latch ∷ []) otherwise Latch

abbrev pub pair_s : Table Source
pair_s = (1 ↣ Acc ∷ 2 ↣ Immediate ∷ 5 ↣ Immediate ∷ []) otherwise Immediate

-- field B of SOR and SONR, and of PRT3 and PRTNR, which have a few of the same: the source
abbrev pub sources : Table Source
sources =
    (0 ↣ Ram ∷ 2 ↣ Ram ∷ 3 ↣ Ram ∷ 4 ↣ Acc ∷ 6 ↣ Latch ∷ 7 ↣ Immediate ∷ 8 ↣ Zero ∷ 9 ↣ LatchZeroExtended ∷ 10 ↣ LatchSignExtended ∷ 11 ↣ Ram ∷ [])
    otherwise Zero

-- field B of PRT1: the source
abbrev pub prt1_source : Table Source
prt1_source = (7 ↣ Acc ∷ 9 ↣ Latch ∷ []) otherwise Latch

-- field A of PRT2, PRT3 and PRTNR: the mask
abbrev pub mask_source : Table Source
mask_source = (8 ↣ Acc ∷ 10 ↣ Zero ∷ 11 ↣ Immediate ∷ []) otherwise Zero

-- field B of ROTR2, ROTC and ROTM: what is rotated, U; of the last two R, and the mask
abbrev pub rotate_u : Table Source
rotate_u =
    (0 ↣ Acc ∷ 1 ↣ Latch ∷ 2 ↣ Latch ∷ 3 ↣ Latch ∷ 4 ↣ Latch ∷ 5 ↣ Ram ∷ 7 ↣ Latch ∷ 8 ↣ Latch ∷ 9 ↣ Latch ∷ 10 ↣ Latch ∷ 12 ↣ Acc ∷ 14 ↣ Ram ∷ [])
    otherwise Latch

abbrev pub rotate_r : Table Source
rotate_r = (2 ↣ Acc ∷ 3 ↣ Ram ∷ 4 ↣ Ram ∷ 5 ↣ Acc ∷ 7 ↣ Acc ∷ 8 ↣ Acc ∷ 9 ↣ Ram ∷ 10 ↣ Ram ∷ 12 ↣ Ram ∷ 14 ↣ Acc ∷ []) otherwise Acc

abbrev pub rotate_mask : Table Source
rotate_mask =
    (2 ↣ Immediate ∷ 3 ↣ Immediate ∷ 4 ↣ Acc ∷ 5 ↣ Immediate ∷ 7 ↣ Immediate ∷ 8 ↣ Ram ∷ 9 ↣ Immediate ∷ 10 ↣ Acc ∷ 12 ↣ Immediate ∷ 14 ↣ Immediate ∷ [])
    otherwise Immediate

-- field A of SHFTR and of SHFTNR: the source, at 6 RAM for the one and ACC for the other
abbrev pub shift_source : Source → Table Source
shift_source own = (6 ↣ own ∷ 7 ↣ Latch ∷ []) otherwise Latch

-- field C of BONR and of ROTNR: the source
abbrev pub bonr_source : Table Source
bonr_source =
    (0 ↣ Acc ∷ 1 ↣ Acc ∷ 2 ↣ Acc ∷ 4 ↣ Acc ∷ 5 ↣ Acc ∷ 6 ↣ Acc ∷ 7 ↣ Acc ∷ 16 ↣ Latch ∷ 17 ↣ Latch ∷ 18 ↣ Latch ∷ 20 ↣ Latch ∷ 21 ↣ Latch ∷ 22 ↣ Latch ∷ 23 ↣ Latch ∷ [])
    otherwise Latch

abbrev pub rotnr_source : Table Source
rotnr_source = (24 ↣ Latch ∷ 25 ↣ Latch ∷ 28 ↣ Acc ∷ 29 ↣ Acc ∷ []) otherwise Acc

-- Destinations

-- field A of TOR1
abbrev pub ram_pair_to : Table Destination
ram_pair_to = (0 ↣ ToAcc ∷ 2 ↣ ToAcc ∷ 3 ↣ ToAcc ∷ 8 ↣ ToY ∷ 10 ↣ ToY ∷ 11 ↣ ToY ∷ 12 ↣ ToRam ∷ 14 ↣ ToRam ∷ 15 ↣ ToRam ∷ []) otherwise ToAcc

-- field B of ROTR1
abbrev pub rotr1_to : Table Destination
rotr1_to = (12 ↣ ToAcc ∷ 14 ↣ ToY ∷ 15 ↣ ToRam ∷ []) otherwise ToAcc

-- field B of SOR
abbrev pub sor_to : Table Destination
sor_to = (0 ↣ ToAcc ∷ 2 ↣ ToY ∷ 3 ↣ ToStatus ∷ 4 ↣ ToRam ∷ 6 ↣ ToRam ∷ 7 ↣ ToRam ∷ 8 ↣ ToRam ∷ 9 ↣ ToRam ∷ 10 ↣ ToRam ∷ 11 ↣ ToRam ∷ []) otherwise ToRam

-- field A of PRT1
abbrev pub prt1_to : Table Destination
prt1_to = (8 ↣ ToAcc ∷ 10 ↣ ToY ∷ 11 ↣ ToRam ∷ []) otherwise ToAcc

-- field B of PRT2
abbrev pub prt2_to : Table Destination
prt2_to = (0 ↣ ToAcc ∷ 2 ↣ ToY ∷ []) otherwise ToAcc

-- field C of SONR and TONR, and 0 and 1 of it of SHFTNR, PRTNR and SVSTNR
abbrev pub no_ram_to : Table Destination
no_ram_to = (0 ↣ ToY ∷ 1 ↣ ToAcc ∷ 4 ↣ ToStatus ∷ 5 ↣ ToAccAndStatus ∷ []) otherwise ToY

-- where a merge's R, or a bit operation's source, is a destination too: RAM and ACC are, and D is not. Other sources do not come here (laws
-- `merge_from` and `bit_from` of proofs/Laws)
abbrev pub back : Source → Destination
back Zero = ToY
back Ram = ToRam
back Acc = ToAcc
back Latch = ToY
back Immediate = ToY
back LatchZeroExtended = ToY
back LatchSignExtended = ToY

-- a bit operation goes back to its source, from D to Y alone; test bit goes to Y alone
abbrev pub bit_to : BitKind → Source → Destination
bit_to SetBit s = back s
bit_to ResetBit s = back s
bit_to TestBit s = ToY
bit_to LoadBit s = back s
bit_to LoadBitComplement s = back s
bit_to AddBit s = back s
bit_to SubtractBit s = back s

-- field C of ROTNR
abbrev pub rotnr_to : Table Destination
rotnr_to = (24 ↣ ToY ∷ 25 ↣ ToAcc ∷ 28 ↣ ToY ∷ 29 ↣ ToAcc ∷ []) otherwise ToY
