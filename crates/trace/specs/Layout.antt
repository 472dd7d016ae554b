-- Where things stand in a trace block (document 01, blocks). A record is w words: three; a second form to come has four. With both, 252
-- words of records fill a block.
use Rattle.std.specs.Prelude.{ℕ, ◌+◌, ◌-◌, ◌*◌, ◌/◌, ◌%◌, ◌<◌, List, [], ◌∷◌, ◌++◌, get_or, take, drop}

abbrev pub words_per_record : ℕ
words_per_record = 3

abbrev pub block_bytes : ℕ
block_bytes = 512

-- bytes 4 to 507 have room for 252 words
abbrev pub records_at : ℕ
records_at = 4

abbrev pub block_words : ℕ
block_words = 252

-- the check is over bytes 0 to 509, and stands after them
abbrev pub checked_bytes : ℕ
checked_bytes = 510

-- the records of a full block: 84 of three words
abbrev pub full_count : ℕ → ℕ
full_count w = block_words / w

-- byte 3: zero for three words
abbrev pub form_byte : ℕ → ℕ
form_byte w = w - 3

-- bytes a up to e of a list, e not included
abbrev pub part : ℕ → ℕ → List ℕ → List ℕ
part a e bytes = take (e - a) (drop a bytes)

-- a word is two bytes, low byte first
abbrev pub word_at : List ℕ → ℕ → ℕ
word_at bytes i = get_or bytes i 0 + 256 * get_or bytes (i + 1) 0

abbrev pub words_of : List ℕ → List ℕ
words_of [] = []
words_of (a ∷ []) = []
words_of (a ∷ b ∷ bytes) = (a + 256 * b) ∷ words_of bytes

abbrev pub bytes_of : List ℕ → List ℕ
bytes_of [] = []
bytes_of (x ∷ words) = x % 256 ∷ x / 256 ∷ bytes_of words

-- the parts of a list of lists, one after another
abbrev pub joined : List (List ℕ) → List ℕ
joined [] = []
joined (l ∷ ls) = l ++ joined ls

-- every element is a byte
abbrev pub Bytes : List ℕ → Type 0
Bytes l = (i : ℕ) → get_or l i 0 < 256
