-- For the contracts of private parts alone: parts of packing a text. They are ours.
use Rattle.std.specs.Prelude.{◌≡◌, ℕ, ◌+◌, ◌*◌, ◌≤◌, List, ◌++◌, length, drop}
use Rattle.text.specs.declared.Reader.{Reader}
use Rattle.pages.specs.Packing.{gather_from, most_named, named_from, written_text, written_said}

-- the most bytes of a fault's line, of a remark, and of the faults that are named
abbrev pub fault_bytes : ℕ
fault_bytes = 85

abbrev pub remark_bytes : ℕ
remark_bytes = 135

abbrev pub named_bytes : ℕ
named_bytes = fault_bytes * most_named

-- a piece taken, its bad lines named after what was said before
pub record Names (s : Reader) (text : List ℕ) (r : Reader) (words said words' said' : List ℕ) : Type 0 where
  pub reader : r ≡ (gather_from s text words).reader
  pub kept : words' ≡ (gather_from s text words).words
  pub named : said' ≡ said ++ named_from s.faults (gather_from s text words).faults
  pub few : length said' ≤ length said + named_bytes

-- words written, or what is said of the refusal after what was said before
pub record Packs (words : List ℕ) (r : ℕ) (out said out' said' : List ℕ) : Type 0 where
  pub bytes : r ≡ length (written_text words (length out))
  pub blocks : out' ≡ written_text words (length out) ++ drop (length (written_text words (length out))) out
  pub fits : length (written_text words (length out)) ≤ length out
  pub told : said' ≡ said ++ written_said words (length out)
