-- The words of a run as cycles, and the words of a report (document 01, the machine and one cycle).
use Rattle.std.specs.Prelude.{ℕ, zero, suc, ◌+◌, ◌*◌, ◌/◌, List, [], ◌∷◌, length, get_or}
use Rattle.machine.specs.declared.Words.{Words}
use Rattle.machine.specs.declared.Report.{Report}

-- a cycle is three words (document 01, the machine and one cycle)
abbrev pub words_per_cycle : ℕ
words_per_cycle = 3

-- cycle i of the words
abbrev pub cycle_at : List ℕ → ℕ → Words
cycle_at words i = record {
  lines = get_or words (words_per_cycle * i) 0;
  input = get_or words (words_per_cycle * i + 1) 0;
  pins = get_or words (words_per_cycle * i + 2) 0;
}

-- n cycles, from cycle i on
abbrev pub cycles_from : List ℕ → ℕ → ℕ → List Words
cycles_from words i zero = []
cycles_from words i (suc n) = cycle_at words i ∷ cycles_from words (i + 1) n

-- how many whole cycles a number of words has
abbrev pub cycles_in : ℕ → ℕ
cycles_in n = n / words_per_cycle

abbrev pub cycles_of : List ℕ → List Words
cycles_of words = cycles_from words 0 (cycles_in (length words))

-- the words of some cycles, one after another
abbrev pub cycle_words : List Words → List ℕ
cycle_words [] = []
cycle_words (c ∷ cycles) = c.lines ∷ c.input ∷ c.pins ∷ cycle_words cycles

-- a report is four words
abbrev pub words_per_report : ℕ
words_per_report = 4

abbrev pub report_words : Report → List ℕ
report_words r = r.y ∷ r.mask ∷ r.ct ∷ r.t ∷ []
