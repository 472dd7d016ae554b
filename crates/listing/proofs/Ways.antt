-- The ways through the reader, each over what its calls answered.
use mathlib.Core.Path.{◌≡◌, refl, ap, ◌∙◌}
use mathlib.Core.List.{List, [], ◌∷◌}
use Prim.Native.Nat.{ℕ}
use Rattle.std.specs.Prelude.{Option as Maybe, None, Some, Result, Ok, Err}
use Rattle.std.specs.Option.{ok_or}
use Rattle.choice.specs.Tells.{Tells, Placed, accepted_whole, refused_at}
use Rattle.refusals.specs.declared.Refusal.{Refusal}
use Rattle.refusals.specs.declared.Refused.{Refused}
use Rattle.refusals.specs.Numbers.{number_of}
use Rattle.alu.specs.declared.Mode.{Mode}
use Rattle.isa.specs.declared.Row.{Row}
use Rattle.isa.specs.Fields.{mode_of}
use Rattle.isa.specs.Table.{row_at}
use Rattle.isa.specs.Words.{encode_of}
use Rattle.listing.specs.declared.items.Items.{Items}
use Rattle.listing.specs.declared.places.Place.{Place as Spot}
use Rattle.listing.specs.Places.{Place, form_of, at_family, at_mode, value_in}
use Rattle.listing.specs.Items.{Item, item, items_of}
use Rattle.listing.specs.Lines.{expect, field, ended, encoded, instruction, fields_of, word_of, past_of}
use Rattle.listing.specs.Data.{data_from, data_of}
use Rattle.listing.specs.Told.{option_told, place_told, field_told}
use Rattle.listing.specs.Reading.{left, past, resume, Steps, data_first}

-- a first item is read by what it says at a place
pub expect_first : (past : ℕ) (k : Refusal) (p : Place) (column : ℕ) (t : List ℕ) (xs rest : List Item) (o : Maybe ℕ) → number_of k ≡ p.refusal
    → xs ≡ item column t ∷ rest → option_told o ≡ value_in p.names t
    → (next : ℕ → List Item → Placed ℕ) → resume (ok_or o (record { refusal = k; index = column })) rest next ≡ expect past p xs next
expect_first past k p column t xs rest None ek ei eo next = rw (ei, ek, ← eo)
expect_first past k p column t xs rest (Some v) ek ei eo next = rw (ei, ← eo)

-- the reader stands at some items, and what is read of them next is what is wanted of the line
pub record Stands (line : List ℕ) (wanted : Placed ℕ) (s : Items) (rest : List Item → Placed ℕ) : Type 0 where
  pub end : past s ≡ past_of line
  pub leads : rest (left s) ≡ wanted

-- what a refusal tells
abbrev pub out : Refused → Placed ℕ
out e = refused_at (number_of e.refusal) e.index

module _ {line : List ℕ} {wanted : Placed ℕ} {s t : Items} where
  module _ {next : ℕ → List Item → Placed ℕ} (spot : Spot) {p : Place} (w : Stands line wanted s (λ xs. expect (past_of line) p xs next)) (e : place_told spot ≡ p) where
    expect_step : (r : Result ℕ Refused) → Steps s t r (expect (past s) (place_told spot) (left s)) → resume r (left t) next ≡ wanted
    expect_step r st = st.leads next ∙ rw (w.end, e) w.leads

    pub expect_on : {v : ℕ} → Steps s t (Ok v) (expect (past s) (place_told spot) (left s)) → Stands line wanted t (next v)
    expect_on {v} st = record { end = st.line ∙ w.end; leads = expect_step (Ok v) st }

    pub expect_out : {k : Refused} → Steps s t (Err k) (expect (past s) (place_told spot) (left s)) → out k ≡ wanted
    expect_out {k} st = expect_step (Err k) st

  module _ (set wanted_set : ℕ) (es : set ≡ wanted_set) (spot : Maybe Spot) (p : Place) (next : ℕ → List Item → Placed ℕ) (w : Stands line wanted s (λ xs. field (past_of line) wanted_set p xs next)) (e : field_told spot ≡ p) where
    field_step : (r : Result ℕ Refused) → Steps s t r (field (past s) set (field_told spot) (left s)) → resume r (left t) next ≡ wanted
    field_step r st = st.leads next ∙ rw (w.end, e, es) w.leads

    pub field_on : {v : ℕ} → Steps s t (Ok v) (field (past s) set (field_told spot) (left s)) → Stands line wanted t (next v)
    field_on {v} st = record { end = st.line ∙ w.end; leads = field_step (Ok v) st }

    pub field_out : {k : Refused} → Steps s t (Err k) (field (past s) set (field_told spot) (left s)) → out k ≡ wanted
    field_out {k} st = field_step (Err k) st

-- what is read of a word after its family, after its mode, and after its fields
abbrev pub by_fields : List ℕ → ℕ → ℕ → List Item → Placed ℕ
by_fields line i mark xs = fields_of (past_of line) (row_at i) mark xs

abbrev pub by_mode : List ℕ → ℕ → List Item → Placed ℕ
by_mode line i xs = expect (past_of line) at_mode xs (by_fields line i)

abbrev pub by_end : Row → ℕ → ℕ → ℕ → ℕ → List Item → Placed ℕ
by_end row mark a b c xs = ended xs (encoded (instruction row mark a b c))

abbrev pub by_c : List ℕ → Row → ℕ → ℕ → ℕ → List Item → Placed ℕ
by_c line row mark a b xs = field (past_of line) row.c (form_of row.family).c xs (by_end row mark a b)

abbrev pub by_b : List ℕ → Row → ℕ → ℕ → List Item → Placed ℕ
by_b line row mark a xs = field (past_of line) row.b (form_of row.family).b xs (by_c line row mark a)

abbrev pub by_a : List ℕ → Row → ℕ → List Item → Placed ℕ
by_a line row mark xs = field (past_of line) row.a (form_of row.family).a xs (by_b line row mark)

abbrev pub by_family : List ℕ → List Item → Placed ℕ
by_family line xs = expect (past_of line) at_family xs (by_mode line)

pub word_start : (line : List ℕ) (s : Items) → left s ≡ items_of line → past s ≡ past_of line → Stands line (word_of line) s (by_family line)
unfolding word_of
word_start line s el ep = record { end = ep; leads = ap (by_family line) el }

pub fields_start : {line : List ℕ} {wanted : Placed ℕ} {s : Items} (i mark : ℕ) (row : Row) → Stands line wanted s (by_fields line i mark) → row ≡ row_at i
    → Stands line wanted s (by_a line row mark)
fields_start {line} {wanted} {s} i mark row w e = record { end = w.end; leads = ap (λ (r : Row). fields_of (past_of line) r mark (left s)) e ∙ w.leads }

pub encode_told : {wanted : Placed ℕ} (row : Row) (mark a b c : ℕ) {mode : Mode} {told : Tells ℕ} → encoded (instruction row mark a b c) ≡ wanted → mode ≡ mode_of mark
    → told ≡ encode_of (record { family = row.family; mode = mode; a = a; b = b; c = c }) → record { told = told; index = 0 } ≡ wanted
encode_told row mark a b c w em et =
    ap (λ (t : Tells ℕ). record { told = t; index = 0 }) et ∙ ap (λ (m : Mode). encoded (record { family = row.family; mode = m; a = a; b = b; c = c })) em ∙ w

-- what is read of data
pub data_start : (line : List ℕ) (s : Items) → left s ≡ items_of line → past s ≡ past_of line → Stands line (data_of line) s (λ xs. data_first (past_of line) xs (λ d xs. ended xs (accepted_whole d)))
unfolding data_of
data_start line s el ep = record { end = ep; leads = by_items (left s) ∙ ap (data_from (past_of line)) el }
  where
    by_items : (xs : List Item) → data_first (past_of line) xs (λ d xs. ended xs (accepted_whole d)) ≡ data_from (past_of line) xs
    by_items [] = refl
    by_items (x ∷ xs) = refl

module _ {line : List ℕ} {wanted : Placed ℕ} {s t : Items} {next : ℕ → List Item → Placed ℕ} (w : Stands line wanted s (λ xs. data_first (past_of line) xs next)) where
  data_step : (r : Result ℕ Refused) → Steps s t r (data_first (past s) (left s)) → resume r (left t) next ≡ wanted
  data_step r st = st.leads next ∙ rw w.end w.leads

  pub data_on : {v : ℕ} → Steps s t (Ok v) (data_first (past s) (left s)) → Stands line wanted t (next v)
  data_on {v} st = record { end = st.line ∙ w.end; leads = data_step (Ok v) st }

  pub data_out : {k : Refused} → Steps s t (Err k) (data_first (past s) (left s)) → out k ≡ wanted
  data_out {k} st = data_step (Err k) st

-- nothing is left over, or something is
pub end_met : {line : List ℕ} {wanted next : Placed ℕ} {s : Items} → Stands line wanted s (λ xs. ended xs next) → (r : Result (Unit {0}) Refused)
    → ((next : Placed ℕ) → resume r [] (λ _ _. next) ≡ ended (left s) next) → resume r [] (λ _ _. next) ≡ wanted
end_met {line} {wanted} {next} w r st = st next ∙ w.leads
