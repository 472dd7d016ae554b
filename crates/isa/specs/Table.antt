-- The instruction list of document 01 as a table: 27 rows, one per family, in the order of quadrants Q0 to Q3.
-- A word belongs to a row by its quadrant, its mode, and its fields A, B and C, each of which has a list of values.
use Rattle.std.specs.Prelude.{ℕ, ◌*◌, ◌^◌, List, [], ◌∷◌, get_or, eqb, Option, Some, None}
use Rattle.choice.specs.Pick.{pick}
use Rattle.refusals.specs.declared.Refusal.{Refusal}
use Rattle.refusals.specs.declared.Refusal.TheVariants.{Unlisted, AccTwice, BitTooHigh}
use Rattle.refusals.specs.Numbers.{number_of as refusal_number}
use Rattle.isa.specs.declared.Family.{Family}
use Rattle.isa.specs.declared.Family.TheVariants.{Tor1, Rotr1, Rotr2, Rotc, Rotm, Sor, Bor2, Tor2, Shftr, Crcf, Crcr, Prt1, Prt2, Prt3, Svstr, Sonr, Tonr, Shftnr, Bor1, Bonr, Rotnr, Prtnr, Svstnr, Setst, Rstst, Test, Noop}
use Rattle.isa.specs.declared.Row.{Row}
use Rattle.isa.specs.Sets.{these, upto}

-- the modes of a family
abbrev pub both : ℕ
both = these (0 ∷ 1 ∷ [])

abbrev pub byte_only : ℕ
byte_only = these (0 ∷ [])

abbrev pub word_only : ℕ
word_only = these (1 ∷ [])

-- field A where it is n, the place of a bit or the places of a rotate
abbrev pub any_n : ℕ
any_n = upto 15

-- field C where it is a RAM address
abbrev pub address : ℕ
address = upto 31

-- field B of the two-operand families: operations 0 to 11
abbrev pub operations : ℕ
operations = upto 11

-- field A of TOR1: the operand pair and its destination
abbrev pub pairs : ℕ
pairs = these (0 ∷ 2 ∷ 3 ∷ 8 ∷ 10 ∷ 11 ∷ 12 ∷ 14 ∷ 15 ∷ [])

-- field A of TOR2 and TONR: the pairs without RAM
abbrev pub pairs_no_ram : ℕ
pairs_no_ram = these (1 ∷ 2 ∷ 5 ∷ [])

-- field A of SOR and SONR: MOVE, COMP, INC, NEG
abbrev pub one_operand : ℕ
one_operand = these (12 ∷ 13 ∷ 14 ∷ 15 ∷ [])

-- field B of SOR: the sources and destinations
abbrev pub sources_ram : ℕ
sources_ram = these (0 ∷ 2 ∷ 3 ∷ 4 ∷ 6 ∷ 7 ∷ 8 ∷ 9 ∷ 10 ∷ 11 ∷ [])

-- field B of SONR: the sources
abbrev pub sources_no_ram : ℕ
sources_no_ram = these (4 ∷ 6 ∷ 7 ∷ 8 ∷ 9 ∷ 10 ∷ [])

-- field B of SHFTR and SHFTNR: up with 0, 1, LINK; down with 0, 1, LINK, C, N xor OVR
abbrev pub shifts : ℕ
shifts = these (0 ∷ 1 ∷ 2 ∷ 4 ∷ 5 ∷ 6 ∷ 7 ∷ 8 ∷ [])

-- field A of PRT2, PRT3 and PRTNR: the mask, ACC, zero or I
abbrev pub masks : ℕ
masks = these (8 ∷ 10 ∷ 11 ∷ [])

-- field C of SONR and TONR: Y, ACC, status, ACC and status
abbrev pub destinations : ℕ
destinations = these (0 ∷ 1 ∷ 4 ∷ 5 ∷ [])

-- field C of SHFTNR, PRTNR and SVSTNR: Y, ACC
abbrev pub y_or_acc : ℕ
y_or_acc = these (0 ∷ 1 ∷ [])

-- field C of SETST and RSTST: the four flags, LINK, Flag1 to Flag3
abbrev pub flags : ℕ
flags = these (3 ∷ 5 ∷ 6 ∷ 9 ∷ 10 ∷ [])

-- field C of TEST: twice a code from 0 to 11
abbrev pub twice_codes : ℕ
twice_codes = these (0 ∷ 2 ∷ 4 ∷ 6 ∷ 8 ∷ 10 ∷ 12 ∷ 14 ∷ 16 ∷ 18 ∷ 20 ∷ 22 ∷ [])

-- field C of BONR: test, reset, set, add, subtract, load, load complement, on ACC and then on D
abbrev pub bit_acts : ℕ
bit_acts = these (0 ∷ 1 ∷ 2 ∷ 4 ∷ 5 ∷ 6 ∷ 7 ∷ 16 ∷ 17 ∷ 18 ∷ 20 ∷ 21 ∷ 22 ∷ 23 ∷ [])

-- field C of ROTNR: D to Y, D to ACC, ACC to Y, ACC to ACC
abbrev pub turns : ℕ
turns = these (24 ∷ 25 ∷ 28 ∷ 29 ∷ [])

-- a family's rule beyond the lists, by the refusal where it does not hold
abbrev pub no_rule : Option Refusal
no_rule = None

-- ACC is not source and mask at once
abbrev pub one_acc : Option Refusal
one_acc = Some AccTwice

-- in byte mode n is at most 7
abbrev pub bit_in_mode : Option Refusal
bit_in_mode = Some BitTooHigh

-- the documents' number of a refusal, 0 where there is none
abbrev pub numbered : Option Refusal → ℕ
numbered None = 0
numbered (Some k) = refusal_number k

-- and back, of the numbers that a word or a named instruction can get
abbrev pub refusal_of : ℕ → Option Refusal
refusal_of k = pick (eqb k 7) (Some Unlisted) (pick (eqb k 8) one_acc (pick (eqb k 9) bit_in_mode no_rule))

-- the values of A, or of B, with which an instruction of the family has an I operand: bit k for A, bit 16 + k for B
abbrev pub with_a : List ℕ → ℕ
with_a ks = these ks

abbrev pub with_b : List ℕ → ℕ
with_b ks = these ks * 2 ^ 16

abbrev pub never : ℕ
never = 0

-- family, quadrant, modes, the values of A, B and C, the rule of 8 or 9 if any, and the values with which there is an I operand
abbrev pub row : Family → ℕ → ℕ → ℕ → ℕ → ℕ → Option Refusal → ℕ → Row
row f q m a b c r i = record { family = f; quadrant = q; modes = m; a = a; b = b; c = c; rule = r; immediate = i }

abbrev pub rows : List Row
rows =
    -- Q0. TOR1: A the pair and its destination, B the operation. ROTR1: A n, B the destination.
    row Tor1 0 both pairs operations address no_rule (with_a (2 ∷ 10 ∷ 14 ∷ []))
    ∷ row Rotr1 0 both any_n (these (12 ∷ 14 ∷ 15 ∷ [])) address no_rule never
    -- Q1. A n. B the operands and, but for ROTC, the destination.
    ∷ row Rotr2 1 both any_n (these (0 ∷ 1 ∷ [])) address no_rule never
    ∷ row Rotc 1 both any_n (these (2 ∷ 3 ∷ 4 ∷ 5 ∷ [])) address no_rule (with_b (2 ∷ 3 ∷ 5 ∷ []))
    ∷ row Rotm 1 both any_n (these (7 ∷ 8 ∷ 9 ∷ 10 ∷ 12 ∷ 14 ∷ [])) address no_rule (with_b (7 ∷ 9 ∷ 12 ∷ 14 ∷ []))
    -- Q2. SOR: A the operation, B source and destination. BOR2: A n, B the operation. TOR2: A the pair, B the operation.
    ∷ row Sor 2 both one_operand sources_ram address no_rule (with_b (7 ∷ []))
    ∷ row Bor2 2 both any_n (these (12 ∷ 13 ∷ 14 ∷ 15 ∷ [])) address bit_in_mode never
    ∷ row Tor2 2 both pairs_no_ram operations address no_rule (with_a (2 ∷ 5 ∷ []))
    -- SHFTR: A the source, B the shift. CRCF and CRCR stand among the shifts, in word mode only.
    ∷ row Shftr 2 both (these (6 ∷ 7 ∷ [])) shifts address no_rule never
    ∷ row Crcf 2 word_only (these (6 ∷ [])) (these (3 ∷ [])) address no_rule never
    ∷ row Crcr 2 word_only (these (6 ∷ [])) (these (9 ∷ [])) address no_rule never
    -- PRT1: A the destination, B the source. PRT2: A the mask, B the destination. PRT3: A the mask, B the source; 4 is ACC.
    ∷ row Prt1 2 both (these (8 ∷ 10 ∷ 11 ∷ [])) (these (7 ∷ 9 ∷ [])) address no_rule never
    ∷ row Prt2 2 both masks (these (0 ∷ 2 ∷ [])) address no_rule (with_a (11 ∷ []))
    ∷ row Prt3 2 both masks (these (3 ∷ 4 ∷ 6 ∷ [])) address one_acc (with_a (11 ∷ []))
    ∷ row Svstr 2 both (these (7 ∷ [])) (these (10 ∷ [])) address no_rule never
    -- Q3. SONR, TONR, SHFTNR: the operation as in Q2, no operand in RAM, C the destination.
    ∷ row Sonr 3 both one_operand sources_no_ram destinations no_rule (with_b (7 ∷ []))
    ∷ row Tonr 3 both pairs_no_ram operations destinations no_rule (with_a (2 ∷ 5 ∷ []))
    ∷ row Shftnr 3 both (these (6 ∷ 7 ∷ [])) shifts y_or_acc no_rule never
    -- BOR1: A n, B set, reset, test, C a RAM address. BONR and ROTNR: A n, and only C tells one from the other.
    ∷ row Bor1 3 both any_n (these (13 ∷ 14 ∷ 15 ∷ [])) address bit_in_mode never
    ∷ row Bonr 3 both any_n (these (12 ∷ [])) bit_acts bit_in_mode never
    ∷ row Rotnr 3 both any_n (these (12 ∷ [])) turns no_rule never
    -- PRTNR: A the mask, B the source, C the destination. SVSTNR: C the destination.
    ∷ row Prtnr 3 both masks (these (4 ∷ 6 ∷ [])) y_or_acc one_acc (with_a (11 ∷ []))
    ∷ row Svstnr 3 both (these (7 ∷ [])) (these (10 ∷ [])) y_or_acc no_rule never
    -- with the byte mark only
    ∷ row Setst 3 byte_only (these (11 ∷ [])) (these (10 ∷ [])) flags no_rule never
    ∷ row Rstst 3 byte_only (these (10 ∷ [])) (these (10 ∷ [])) flags no_rule never
    ∷ row Test 3 byte_only (these (9 ∷ [])) (these (10 ∷ [])) twice_codes no_rule never
    ∷ row Noop 3 byte_only (these (8 ∷ [])) (these (10 ∷ [])) (these (0 ∷ [])) no_rule never
    ∷ []

-- rows are numbered 0 to 26; the number past the last says that there is no row
abbrev pub no_row : ℕ
no_row = 27

-- the row of a number; past the last one a row that takes nothing, whose family means nothing
abbrev pub row_at : ℕ → Row
row_at i = get_or rows i (row Tor1 0 0 0 0 0 no_rule never)

-- the number of a family's row
abbrev pub number_of : Family → ℕ
number_of Tor1 = 0
number_of Rotr1 = 1
number_of Rotr2 = 2
number_of Rotc = 3
number_of Rotm = 4
number_of Sor = 5
number_of Bor2 = 6
number_of Tor2 = 7
number_of Shftr = 8
number_of Crcf = 9
number_of Crcr = 10
number_of Prt1 = 11
number_of Prt2 = 12
number_of Prt3 = 13
number_of Svstr = 14
number_of Sonr = 15
number_of Tonr = 16
number_of Shftnr = 17
number_of Bor1 = 18
number_of Bonr = 19
number_of Rotnr = 20
number_of Prtnr = 21
number_of Svstnr = 22
number_of Setst = 23
number_of Rstst = 24
number_of Test = 25
number_of Noop = 26
