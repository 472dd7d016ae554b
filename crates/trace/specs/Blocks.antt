-- One block: what it is refused for, the words of its records, and the block that such words make (document 01, blocks). The definitions
-- are over w, the words of a record.
use Rattle.std.specs.Prelude.{ℕ, ◌+◌, ◌-◌, ◌*◌, ◌/◌, ◌%◌, Bool, true, false, not, List, [], ◌∷◌, ◌++◌, length, get_or, replicate, eqb, leb}
use Rattle.choice.specs.Pick.{pick}
use Rattle.choice.specs.Checks.{Check, check, refusal}
use Rattle.trace.specs.Check.{check_of}
use Rattle.trace.specs.Layout.{records_at, checked_bytes, full_count, form_byte, part, word_at, words_of, bytes_of}

-- byte 2 is the number of records
abbrev pub count_of : List ℕ → ℕ
count_of block = get_or block 2 0

-- every block but the last is full, and the last has at least one record; `left` blocks follow
unfoldable pub count_good : ℕ → ℕ → ℕ → Bool
count_good w left c = pick (eqb left 0) (pick (leb 1 c) (leb c (full_count w)) false) (eqb c (full_count w))

-- where c records end
abbrev pub records_end : ℕ → ℕ → ℕ
records_end w c = records_at + 2 * (w * c)

abbrev pub all_zero : List ℕ → Bool
all_zero [] = true
all_zero (x ∷ bytes) = pick (eqb x 0) (all_zero bytes) false

-- the count, byte 3, and the filling: every byte from the records' end up to the check
unfoldable pub shape_good : ℕ → ℕ → List ℕ → Bool
shape_good w left block =
    pick (count_good w left (count_of block))
    (pick (eqb (get_or block 3 0) (form_byte w)) (all_zero (part (records_end w (count_of block)) checked_bytes block)) false)
    false

-- the check stands high byte first
unfoldable pub check_held : List ℕ → ℕ
check_held block = 256 * get_or block checked_bytes 0 + get_or block (checked_bytes + 1) 0

unfoldable pub check_good : List ℕ → Bool
check_good block = eqb (check_of (part 0 checked_bytes block)) (check_held block)

-- the refusals of block k, by its place: the first block is number 0, and `left` blocks follow
abbrev pub block_checks : ℕ → ℕ → ℕ → List ℕ → List Check
block_checks w k left block =
    check 12 (not (check_good block)) ∷ check 13 (not (eqb (word_at block 0) k)) ∷ check 14 (not (shape_good w left block)) ∷ []

unfoldable pub block_refusal : ℕ → ℕ → ℕ → List ℕ → ℕ
block_refusal w k left block = refusal (block_checks w k left block)

-- the words of a block's records
unfoldable pub record_words : ℕ → List ℕ → List ℕ
record_words w block = words_of (part records_at (records_end w (count_of block)) block)

-- block k of the words of some records, n of them: number, count and form; the words; filling; and the check
unfoldable pub head_of : ℕ → ℕ → ℕ → List ℕ
head_of w k n = bytes_of (k ∷ []) ++ n / w ∷ form_byte w ∷ []

unfoldable pub body_of : ℕ → ℕ → List ℕ → List ℕ
body_of w k words = (head_of w k (length words) ++ bytes_of words) ++ replicate (checked_bytes - records_at - 2 * length words) 0

unfoldable pub sealed : List ℕ → List ℕ
sealed body = body ++ (check_of body / 256 ∷ check_of body % 256 ∷ [])

abbrev pub block_of : ℕ → ℕ → List ℕ → List ℕ
block_of w k words = sealed (body_of w k words)
