-- The places of a line: what may stand at each, and how each family writes its fields. A field is written where the family allows it more than
-- one value (document 02, request 1).
use Rattle.std.specs.Prelude.{ℕ, zero, suc, Bool, true, false, not, List, [], ◌∷◌, eqb}
use Rattle.std.proofs.Math.Option.{Option, none, some}
use Rattle.choice.specs.Text.{numeral, trimmed}
use Rattle.isa.specs.declared.Family.{Family}
use Rattle.isa.specs.declared.Family.TheVariants.{Tor1, Rotr1, Rotr2, Rotc, Rotm, Sor, Bor2, Tor2, Shftr, Crcf, Crcr, Prt1, Prt2, Prt3, Svstr, Sonr, Tonr, Shftnr, Bor1, Bonr, Rotnr, Prtnr, Svstnr, Setst, Rstst, Test, Noop}
use Rattle.listing.specs.Names.{Name, families, modes, one_operand, sources_ram, sources_no_ram, destinations, y_or_acc, pairs, pairs_to_ram, pairs_no_ram, operations, shifted_ram, shifted_no_ram, shifts, bit_tests, bit_loads, bit_acts, turns_from_ram, turns_to_ram, turns_no_ram, merges, compares, first_to, first_from, masks, second_to, third_from, fourth_from, sets, resets, tests}

-- the texts that may stand at a place, with their values, and the refusal where the item is missing or is none of them
pub record Place : Type 0 where
  pub refusal : ℕ
  pub names : List Name

abbrev pub place : ℕ → List Name → Place
place k xs = record { refusal = k; names = xs }

-- 20: a name missing or not of that place
abbrev pub named : List Name → Place
named xs = place 20 xs

-- a number below 100 in decimal, without leading zeros
abbrev pub numeral_of : ℕ → List ℕ
numeral_of k = trimmed (numeral 10 2 k)

-- n numbers from k on
abbrev pub numerals : ℕ → ℕ → List Name
numerals k zero = []
numerals k (suc n) = record { value = k; text = numeral_of k } ∷ numerals (suc k) n

-- 21: a number missing, outside its field or with a leading zero, or an item that is no number
abbrev pub numbered : ℕ → Place
numbered n = place 21 (numerals 0 n)

-- a field that is not written
abbrev pub unwritten : Place
unwritten = place 0 []

abbrev pub written : Place → Bool
written p = not (eqb p.refusal 0)

-- the family, and the mode
abbrev pub at_family : Place
at_family = named families

abbrev pub at_mode : Place
at_mode = named modes

-- n, the number of a bit or how far a rotate goes (field A), and a register (field C)
abbrev pub n : Place
n = numbered 16

abbrev pub register : Place
register = numbered 32

-- fields A, B and C
pub record Form : Type 0 where
  pub a : Place
  pub b : Place
  pub c : Place

abbrev pub form : Place → Place → Place → Form
form a b c = record { a = a; b = b; c = c }

-- how a family writes its fields
abbrev pub form_of : Family → Form
form_of Tor1 = form (named pairs) (named operations) register
form_of Rotr1 = form n (named turns_from_ram) register
form_of Rotr2 = form n (named turns_to_ram) register
form_of Rotc = form n (named compares) register
form_of Rotm = form n (named merges) register
form_of Sor = form (named one_operand) (named sources_ram) register
form_of Bor2 = form n (named bit_loads) register
form_of Tor2 = form (named pairs_to_ram) (named operations) register
form_of Shftr = form (named shifted_ram) (named shifts) register
form_of Crcf = form unwritten unwritten register
form_of Crcr = form unwritten unwritten register
form_of Prt1 = form (named first_to) (named first_from) register
form_of Prt2 = form (named masks) (named second_to) register
form_of Prt3 = form (named masks) (named third_from) register
form_of Svstr = form unwritten unwritten register
form_of Sonr = form (named one_operand) (named sources_no_ram) (named destinations)
form_of Tonr = form (named pairs_no_ram) (named operations) (named destinations)
form_of Shftnr = form (named shifted_no_ram) (named shifts) (named y_or_acc)
form_of Bor1 = form n (named bit_tests) register
form_of Bonr = form n unwritten (named bit_acts)
form_of Rotnr = form n unwritten (named turns_no_ram)
form_of Prtnr = form (named masks) (named fourth_from) (named y_or_acc)
form_of Svstnr = form unwritten unwritten (named y_or_acc)
form_of Setst = form unwritten unwritten (named sets)
form_of Rstst = form unwritten unwritten (named resets)
form_of Test = form unwritten unwritten (named tests)
form_of Noop = form unwritten unwritten unwritten

-- two texts are the same
abbrev pub same_text : List ℕ → List ℕ → Bool
same_text [] [] = true
same_text [] (y ∷ ys) = false
same_text (x ∷ xs) [] = false
same_text (x ∷ xs) (y ∷ ys) = elim (eqb x y) [ true ↦ same_text xs ys | false ↦ false ]

-- the text of a value; no text for a value that is not in the list
abbrev pub text_in : List Name → ℕ → List ℕ
text_in [] v = []
text_in (x ∷ xs) v = elim (eqb x.value v) [ true ↦ x.text | false ↦ text_in xs v ]

-- the value of a text, none where the list does not have it
abbrev pub value_in : List Name → List ℕ → Option ℕ
value_in [] t = none
value_in (x ∷ xs) t = elim (same_text x.text t) [ true ↦ some x.value | false ↦ value_in xs t ]
