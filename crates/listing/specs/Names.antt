-- The names of the listing, list by list: the families as document 001's summary spells them, the values of fields as its instruction tables do,
-- oddities included (document 02, request 1). Where a table is torn (SHDR, SHD; AND and NAND of TONR) the value is document 01's.
-- docs/NAMES.md says what each stands for.
use Rattle.std.specs.Prelude.{ℕ, List, [], ◌∷◌}
use Prim.Native.String.{String}
use Rattle.choice.specs.Text.{ascii}
use Rattle.isa.specs.declared.Family.TheVariants.{Tor1, Rotr1, Rotr2, Rotc, Rotm, Sor, Bor2, Tor2, Shftr, Crcf, Crcr, Prt1, Prt2, Prt3, Svstr, Sonr, Tonr, Shftnr, Bor1, Bonr, Rotnr, Prtnr, Svstnr, Setst, Rstst, Test, Noop}
use Rattle.isa.specs.Table.{number_of}

-- a value and the text that stands for it
pub record Name : Type 0 where
  pub value : ℕ
  pub text : List ℕ

infix 80 ◌is◌
abbrev pub ◌is◌ : ℕ → String → Name
◌is◌ v s = record { value = v; text = ascii s }

-- the families of the summary of mnemonics, by the numbers of their rows
abbrev pub families : List Name
families =
    number_of Tor1 is "TOR1"
    ∷ number_of Rotr1 is "ROTR1"
    ∷ number_of Rotr2 is "ROTR2"
    ∷ number_of Rotc is "ROTC"
    ∷ number_of Rotm is "ROTM"
    ∷ number_of Sor is "SOR"
    ∷ number_of Bor2 is "BOR2"
    ∷ number_of Tor2 is "TOR2"
    ∷ number_of Shftr is "SHFTR"
    ∷ number_of Crcf is "CRCF"
    ∷ number_of Crcr is "CRCR"
    ∷ number_of Prt1 is "PRT1"
    ∷ number_of Prt2 is "PRT2"
    ∷ number_of Prt3 is "PRT3"
    ∷ number_of Svstr is "SVSTR"
    ∷ number_of Sonr is "SONR"
    ∷ number_of Tonr is "TONR"
    ∷ number_of Shftnr is "SHFTNR"
    ∷ number_of Bor1 is "BOR1"
    ∷ number_of Bonr is "BONR"
    ∷ number_of Rotnr is "ROTNR"
    ∷ number_of Prtnr is "PRTNR"
    ∷ number_of Svstnr is "SVSTNR"
    ∷ number_of Setst is "SETST"
    ∷ number_of Rstst is "RSTST"
    ∷ number_of Test is "TEST"
    ∷ number_of Noop is "NOOP"
    ∷ []

-- the mode, by its mark
abbrev pub modes : List Name
modes = 0 is "B" ∷ 1 is "W" ∷ []

-- SOR and SONR, opcode (A)
abbrev pub one_operand : List Name
one_operand =
    0b1100 is "MOVE"
    ∷ 0b1101 is "COMP"
    ∷ 0b1110 is "INC"
    ∷ 0b1111 is "NEG"
    ∷ []

-- SOR, source and destination (B)
abbrev pub sources_ram : List Name
sources_ram =
    0b0000 is "SORA"
    ∷ 0b0010 is "SORY"
    ∷ 0b0011 is "SORS"
    ∷ 0b0100 is "SOAR"
    ∷ 0b0110 is "SODR"
    ∷ 0b0111 is "SOIR"
    ∷ 0b1000 is "SOZR"
    ∷ 0b1001 is "SOZER"
    ∷ 0b1010 is "SOSE"
    ∷ 0b1011 is "SORR"
    ∷ []

-- SONR, source (B)
abbrev pub sources_no_ram : List Name
sources_no_ram =
    0b0100 is "SOA"
    ∷ 0b0110 is "SOD"
    ∷ 0b0111 is "SOI"
    ∷ 0b1000 is "SOZ"
    ∷ 0b1001 is "SOZE"
    ∷ 0b1010 is "SOSE"
    ∷ []

-- SONR and TONR, destination (C)
abbrev pub destinations : List Name
destinations =
    0b00000 is "NRY"
    ∷ 0b00001 is "NRA"
    ∷ 0b00100 is "NRS"
    ∷ 0b00101 is "NRAS"
    ∷ []

-- SHFTNR, PRTNR and SVSTNR, destination (C)
abbrev pub y_or_acc : List Name
y_or_acc =
    0b00000 is "NRY"
    ∷ 0b00001 is "NRA"
    ∷ []

-- TOR1, sources and destination (A)
abbrev pub pairs : List Name
pairs =
    0b0000 is "TORAA"
    ∷ 0b0010 is "TORIA"
    ∷ 0b0011 is "TODRA"
    ∷ 0b1000 is "TORAY"
    ∷ 0b1010 is "TORIY"
    ∷ 0b1011 is "TODRY"
    ∷ 0b1100 is "TORAR"
    ∷ 0b1110 is "TORIR"
    ∷ 0b1111 is "TODRR"
    ∷ []

-- TOR2, sources and destination (A)
abbrev pub pairs_to_ram : List Name
pairs_to_ram =
    0b0001 is "TODAR"
    ∷ 0b0010 is "TOAIR"
    ∷ 0b0101 is "TODIR"
    ∷ []

-- TONR, sources (A)
abbrev pub pairs_no_ram : List Name
pairs_no_ram =
    0b0001 is "TODA"
    ∷ 0b0010 is "TOAI"
    ∷ 0b0101 is "TODI"
    ∷ []

-- TOR1, TOR2 and TONR, opcode (B)
abbrev pub operations : List Name
operations =
    0b0000 is "SUBR"
    ∷ 0b0001 is "SUBRC"
    ∷ 0b0010 is "SUBS"
    ∷ 0b0011 is "SUBSC"
    ∷ 0b0100 is "ADD"
    ∷ 0b0101 is "ADDC"
    ∷ 0b0110 is "AND"
    ∷ 0b0111 is "NAND"
    ∷ 0b1000 is "EXOR"
    ∷ 0b1001 is "NOR"
    ∷ 0b1010 is "OR"
    ∷ 0b1011 is "EXNOR"
    ∷ []

-- SHFTR, source and destination (A)
abbrev pub shifted_ram : List Name
shifted_ram =
    0b0110 is "SHRR"
    ∷ 0b0111 is "SHDR"
    ∷ []

-- SHFTNR, source (A)
abbrev pub shifted_no_ram : List Name
shifted_no_ram =
    0b0110 is "SHA"
    ∷ 0b0111 is "SHD"
    ∷ []

-- SHFTR and SHFTNR, opcode (B)
abbrev pub shifts : List Name
shifts =
    0b0000 is "SHUPZ"
    ∷ 0b0001 is "SHUP1"
    ∷ 0b0010 is "SHUPL"
    ∷ 0b0100 is "SHDNZ"
    ∷ 0b0101 is "SHDN1"
    ∷ 0b0110 is "SHDNL"
    ∷ 0b0111 is "SHDNC"
    ∷ 0b1000 is "SHDNOV"
    ∷ []

-- BOR1, opcode (B)
abbrev pub bit_tests : List Name
bit_tests =
    0b1101 is "SETNR"
    ∷ 0b1110 is "RSTNR"
    ∷ 0b1111 is "TSTNR"
    ∷ []

-- BOR2, opcode (B)
abbrev pub bit_loads : List Name
bit_loads =
    0b1100 is "LD2NR"
    ∷ 0b1101 is "LDC2NR"
    ∷ 0b1110 is "A2NR"
    ∷ 0b1111 is "S2NR"
    ∷ []

-- BONR, opcode (C)
abbrev pub bit_acts : List Name
bit_acts =
    0b00000 is "TSTNA"
    ∷ 0b00001 is "RSTNA"
    ∷ 0b00010 is "SETNA"
    ∷ 0b00100 is "A2NA"
    ∷ 0b00101 is "S2NA"
    ∷ 0b00110 is "LD2NA"
    ∷ 0b00111 is "LDC2NA"
    ∷ 0b10000 is "TSTND"
    ∷ 0b10001 is "RSTND"
    ∷ 0b10010 is "SETND"
    ∷ 0b10100 is "A2NDY"
    ∷ 0b10101 is "S2NDY"
    ∷ 0b10110 is "LS2NY"
    ∷ 0b10111 is "LDC2NY"
    ∷ []

-- ROTR1, source and destination (B)
abbrev pub turns_from_ram : List Name
turns_from_ram =
    0b1100 is "RTRA"
    ∷ 0b1110 is "RTRY"
    ∷ 0b1111 is "RTRR"
    ∷ []

-- ROTR2, source and destination (B)
abbrev pub turns_to_ram : List Name
turns_to_ram =
    0b0000 is "RTAR"
    ∷ 0b0001 is "RTDR"
    ∷ []

-- ROTNR, source and destination (C)
abbrev pub turns_no_ram : List Name
turns_no_ram =
    0b11000 is "RTDY"
    ∷ 0b11001 is "RTDA"
    ∷ 0b11100 is "RTAY"
    ∷ 0b11101 is "RTAA"
    ∷ []

-- ROTM, sources and mask (B)
abbrev pub merges : List Name
merges =
    0b0111 is "MDAI"
    ∷ 0b1000 is "MDAR"
    ∷ 0b1001 is "MDRI"
    ∷ 0b1010 is "MDRA"
    ∷ 0b1100 is "MARI"
    ∷ 0b1110 is "MRAI"
    ∷ []

-- ROTC, sources and mask (B)
abbrev pub compares : List Name
compares =
    0b0010 is "CDAI"
    ∷ 0b0011 is "CDRI"
    ∷ 0b0100 is "CDRA"
    ∷ 0b0101 is "CRAI"
    ∷ []

-- PRT1, destination (A)
abbrev pub first_to : List Name
first_to =
    0b1000 is "PRIA"
    ∷ 0b1010 is "PR1Y"
    ∷ 0b1011 is "PR1R"
    ∷ []

-- PRT1, source (B)
abbrev pub first_from : List Name
first_from =
    0b0111 is "RPT1A"
    ∷ 0b1001 is "PR1D"
    ∷ []

-- PRT2, PRT3 and PRTNR, mask (A)
abbrev pub masks : List Name
masks =
    0b1000 is "PRA"
    ∷ 0b1010 is "PRZ"
    ∷ 0b1011 is "PRI"
    ∷ []

-- PRT2, destination (B)
abbrev pub second_to : List Name
second_to =
    0b0000 is "PR2A"
    ∷ 0b0010 is "PR2Y"
    ∷ []

-- PRT3, source (B)
abbrev pub third_from : List Name
third_from =
    0b0011 is "PR3R"
    ∷ 0b0100 is "PR3A"
    ∷ 0b0110 is "PR3D"
    ∷ []

-- PRTNR, source (B)
abbrev pub fourth_from : List Name
fourth_from =
    0b0100 is "PRTA"
    ∷ 0b0110 is "PRTD"
    ∷ []

-- SETST, opcode (C)
abbrev pub sets : List Name
sets =
    0b00011 is "SONCZ"
    ∷ 0b00101 is "SL"
    ∷ 0b00110 is "SF1"
    ∷ 0b01001 is "SF2"
    ∷ 0b01010 is "SF3"
    ∷ []

-- RSTST, opcode (C)
abbrev pub resets : List Name
resets =
    0b00011 is "RONCZ"
    ∷ 0b00101 is "RL"
    ∷ 0b00110 is "RF1"
    ∷ 0b01001 is "RF2"
    ∷ 0b01010 is "RF3"
    ∷ []

-- TEST, opcode (C)
abbrev pub tests : List Name
tests =
    0b00000 is "TNOZ"
    ∷ 0b00010 is "TNO"
    ∷ 0b00100 is "TZ"
    ∷ 0b00110 is "TOVR"
    ∷ 0b01000 is "TLOW"
    ∷ 0b01010 is "TC"
    ∷ 0b01100 is "TZC"
    ∷ 0b01110 is "TN"
    ∷ 0b10000 is "TL"
    ∷ 0b10010 is "TF1"
    ∷ 0b10100 is "TF2"
    ∷ 0b10110 is "TF3"
    ∷ []
