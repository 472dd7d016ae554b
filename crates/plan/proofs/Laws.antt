-- What holds of the plans of all instructions of the list: one test over the fields of each family, and what it says.
-- The laws, in this order: `immediate_agrees`, `ram_agrees`, `acc_agrees`, `bit_agrees`, `merge_goes_back`, `merge_from`, `bit_from`,
-- `word_immediate`, `word_mode`, `plan_for_unique`, `names_immediate_unique`.
use Prim.{Unit}
use mathlib.Core.Path.{◌≡◌, ◌∙◌, sym, ap}
use mathlib.Core.Bool.{Bool, true, false}
use mathlib.Core.List.{List, [], ◌∷◌}
use Prim.Native.Nat.{ℕ, ◌<◌}
use native.Mathlib.Nat.{mod-eq_of_lt}
use lib.Dec.{T, eqb}
use Rattle.choice.specs.Along.{same}
use Rattle.choice.specs.Tells.{Tells, accepted}
use Rattle.choice.proofs.Spans.{span, below, both, where_held, holds}
use Rattle.choice.proofs.Decisions.{same_eq}
use Rattle.isa.specs.declared.Family.{Family}
use Rattle.isa.specs.declared.Family.TheVariants.{Tor1, Rotr1, Rotr2, Rotc, Rotm, Sor, Bor2, Tor2, Shftr, Crcf, Crcr, Prt1, Prt2, Prt3, Svstr, Sonr, Tonr, Shftnr, Bor1, Bonr, Rotnr, Prtnr, Svstnr, Setst, Rstst, Test, Noop}
use Rattle.isa.specs.declared.Named.{Named}
use Rattle.isa.specs.declared.Row.{Row}
use Rattle.isa.specs.Fields.{mode_of, mark_of, mark_for}
use Rattle.isa.specs.Sets.{has}
use Rattle.isa.specs.Table.{row_at, number_of, bit_in_mode, numbered}
use Rattle.isa.specs.Words.{named_row, acc_twice, asks_i, names_i as wordNamesI, decode_of, takes_immediate, Listed}
use Rattle.isa.proofs.Laws.{encode_decode, encode_takes, decode_named}
use Rattle.isa.proofs.Families.{own_row, narrow}
use Rattle.isa.proofs.Takes.{Taken, taken, small}
use Rattle.plan.specs.declared.Task.{Task}
use Rattle.plan.specs.declared.Task.TheVariants.{NoOperation, TwoOperand, OneOperand, Bit, Shift, Rotate, Merge, Compare, Prioritize, CrcForward, CrcReverse, SaveStatus, SetStatus, ResetStatus, TestStatus}
use Rattle.plan.specs.declared.Work.{Work}
use Rattle.plan.specs.declared.Plan.{Plan}
use Rattle.plan.specs.contracts.Destination.{the_type}
use denote.Enum.Bare.{sameb, same_true}
use Rattle.plan.specs.Tables.{back}
use Rattle.plan.specs.Plans.{work_of, plan_of}
use Rattle.plan.specs.Reading.{names_i, writes_ram, is_bit, acc_under_acc, is_ram_acc_or_latch}
use Rattle.plan.specs.Listed.{to_ram}

abbrev is_merge : Task → Bool
is_merge NoOperation = false
is_merge (TwoOperand k) = false
is_merge (OneOperand k) = false
is_merge (Bit k) = false
is_merge (Shift k) = false
is_merge Rotate = false
is_merge Merge = true
is_merge Compare = false
is_merge Prioritize = false
is_merge CrcForward = false
is_merge CrcReverse = false
is_merge SaveStatus = false
is_merge (SetStatus bits) = false
is_merge (ResetStatus bits) = false
is_merge TestStatus = false

-- all that is said of one work: I and RAM are where isa and document 01 have them, the rules of 8 and 9 are where it prioritizes ACC under ACC
-- and where it is a bit operation, a merge goes where its R is, and what goes back comes from RAM, ACC or D
tests : Family → ℕ → ℕ → Work → List Bool
tests f a b w =
    same (names_i w) (asks_i (row_at (number_of f)) a b)
    ∷ same (writes_ram w) (to_ram f a b)
    ∷ same (acc_under_acc w) (acc_twice (row_at (number_of f)) a b)
    ∷ same (is_bit w.task) (eqb (numbered (row_at (number_of f)).rule) (numbered bit_in_mode))
    ∷ elim (is_merge w.task) [ true ↦ sameb the_type w.destination (back w.operands.second) | false ↦ true ]
    ∷ elim (is_merge w.task) [ true ↦ is_ram_acc_or_latch w.operands.second | false ↦ true ]
    ∷ elim (is_bit w.task) [ true ↦ is_ram_acc_or_latch w.operands.first | false ↦ true ]
    ∷ []

-- tests up to the first that fails, and what it says that none does
abbrev every : List Bool → Bool
every [] = true
every (t ∷ ts) = elim t [ true ↦ every ts | false ↦ false ]

abbrev Hold : List Bool → Type 0
Hold [] = Unit {0}
Hold (t ∷ ts) = T t × Hold ts

all_hold : (ts : List Bool) → T (every ts) → Hold ts
all_hold [] h = tt
all_hold (t ∷ ts) h =
    let p = both t (every ts) h in
    (p.0, all_hold ts p.1)

agree : (x y : Bool) → T (same x y) → x ≡ y
agree x y h = same_eq x y (holds (same x y) h)

good : Family → ℕ → ℕ → Work → Bool
good f a b w = every (tests f a b w)

-- a test over the values of A and B that a family has
over : Family → (ℕ → ℕ → Bool) → Bool
over f g =
    span 0 16 (λ a. span 0 16 (λ b.
    elim (has (row_at (number_of f)).a a) [ true ↦ elim (has (row_at (number_of f)).b b) [ true ↦ g a b | false ↦ true ] | false ↦ true ]))

-- fields in their range and in the family's lists
pub record Fields (f : Family) (a b c : ℕ) : Type 0 where
  pub small_a : a < 16
  pub small_b : b < 16
  pub small_c : c < 32
  pub in_a : has (row_at (number_of f)).a a ≡ true
  pub in_b : has (row_at (number_of f)).b b ≡ true
  pub in_c : has (row_at (number_of f)).c c ≡ true

over_at : (f : Family) (g : ℕ → ℕ → Bool) → T (over f g) → (a b c : ℕ) → Fields f a b c → T (g a b)
unfolding over
over_at f g t a b c h =
    let r = row_at (number_of f) in
    where_held (has r.b b) (g a b)
    (where_held (has r.a a) (elim (has r.b b) [ true ↦ g a b | false ↦ true ])
    (below (λ b. elim (has r.a a) [ true ↦ elim (has r.b b) [ true ↦ g a b | false ↦ true ] | false ↦ true ]) 16 b
    (below (λ a. span 0 16 (λ b. elim (has r.a a) [ true ↦ elim (has r.b b) [ true ↦ g a b | false ↦ true ] | false ↦ true ])) 16 a t h.small_a) h.small_b)
    h.in_a) h.in_b

-- where the work does not depend on C, the test is over A and B, and else over C too
all_good : (f : Family) (a b c : ℕ) → Fields f a b c → T (good f a b (work_of f a b c))
unfolding over good tests work_of
all_good Tor1 a b c h = over_at Tor1 (λ a b. good Tor1 a b (work_of Tor1 a b c)) tt a b c h
all_good Rotr1 a b c h = over_at Rotr1 (λ a b. good Rotr1 a b (work_of Rotr1 a b c)) tt a b c h
all_good Rotr2 a b c h = over_at Rotr2 (λ a b. good Rotr2 a b (work_of Rotr2 a b c)) tt a b c h
all_good Rotc a b c h = over_at Rotc (λ a b. good Rotc a b (work_of Rotc a b c)) tt a b c h
all_good Rotm a b c h = over_at Rotm (λ a b. good Rotm a b (work_of Rotm a b c)) tt a b c h
all_good Sor a b c h = over_at Sor (λ a b. good Sor a b (work_of Sor a b c)) tt a b c h
all_good Bor2 a b c h = over_at Bor2 (λ a b. good Bor2 a b (work_of Bor2 a b c)) tt a b c h
all_good Tor2 a b c h = over_at Tor2 (λ a b. good Tor2 a b (work_of Tor2 a b c)) tt a b c h
all_good Shftr a b c h = over_at Shftr (λ a b. good Shftr a b (work_of Shftr a b c)) tt a b c h
all_good Crcf a b c h = over_at Crcf (λ a b. good Crcf a b (work_of Crcf a b c)) tt a b c h
all_good Crcr a b c h = over_at Crcr (λ a b. good Crcr a b (work_of Crcr a b c)) tt a b c h
all_good Prt1 a b c h = over_at Prt1 (λ a b. good Prt1 a b (work_of Prt1 a b c)) tt a b c h
all_good Prt2 a b c h = over_at Prt2 (λ a b. good Prt2 a b (work_of Prt2 a b c)) tt a b c h
all_good Prt3 a b c h = over_at Prt3 (λ a b. good Prt3 a b (work_of Prt3 a b c)) tt a b c h
all_good Svstr a b c h = over_at Svstr (λ a b. good Svstr a b (work_of Svstr a b c)) tt a b c h
all_good Sonr a b c h = below (λ c. good Sonr a b (work_of Sonr a b c)) 32 c (over_at Sonr (λ a b. span 0 32 (λ c. good Sonr a b (work_of Sonr a b c))) tt a b c h) h.small_c
all_good Tonr a b c h = below (λ c. good Tonr a b (work_of Tonr a b c)) 32 c (over_at Tonr (λ a b. span 0 32 (λ c. good Tonr a b (work_of Tonr a b c))) tt a b c h) h.small_c
all_good Shftnr a b c h = below (λ c. good Shftnr a b (work_of Shftnr a b c)) 32 c (over_at Shftnr (λ a b. span 0 32 (λ c. good Shftnr a b (work_of Shftnr a b c))) tt a b c h) h.small_c
all_good Bor1 a b c h = over_at Bor1 (λ a b. good Bor1 a b (work_of Bor1 a b c)) tt a b c h
all_good Bonr a b c h = below (λ c. good Bonr a b (work_of Bonr a b c)) 32 c (over_at Bonr (λ a b. span 0 32 (λ c. good Bonr a b (work_of Bonr a b c))) tt a b c h) h.small_c
all_good Rotnr a b c h = below (λ c. good Rotnr a b (work_of Rotnr a b c)) 32 c (over_at Rotnr (λ a b. span 0 32 (λ c. good Rotnr a b (work_of Rotnr a b c))) tt a b c h) h.small_c
all_good Prtnr a b c h = below (λ c. good Prtnr a b (work_of Prtnr a b c)) 32 c (over_at Prtnr (λ a b. span 0 32 (λ c. good Prtnr a b (work_of Prtnr a b c))) tt a b c h) h.small_c
all_good Svstnr a b c h = below (λ c. good Svstnr a b (work_of Svstnr a b c)) 32 c (over_at Svstnr (λ a b. span 0 32 (λ c. good Svstnr a b (work_of Svstnr a b c))) tt a b c h) h.small_c
all_good Setst a b c h = over_at Setst (λ a b. good Setst a b (work_of Setst a b c)) tt a b c h
all_good Rstst a b c h = over_at Rstst (λ a b. good Rstst a b (work_of Rstst a b c)) tt a b c h
all_good Test a b c h = over_at Test (λ a b. good Test a b (work_of Test a b c)) tt a b c h
all_good Noop a b c h = over_at Noop (λ a b. good Noop a b (work_of Noop a b c)) tt a b c h

module _ (n : Named) (listed : Listed n) where
  abbrev row : Row
  row = named_row n

  has_all : Taken row (mark_for n.mode) n.a n.b n.c
  has_all = taken row (mark_for n.mode) n.a n.b n.c listed

  in_range : (n.a < 16) × (n.b < 16) × (n.c < 32)
  in_range = small row (mark_for n.mode) n.a n.b n.c (narrow (number_of n.family) (own_row n.family).0) listed

  -- its fields are in their range, so the plan's n is A, and its work that of the fields as they are
  pub plan_n : (plan_of n).n ≡ n.a
  unfolding plan_of
  plan_n = mod-eq_of_lt in_range.0

  whole_fields : (plan_of n).work ≡ work_of n.family n.a n.b n.c
  unfolding plan_of
  whole_fields = rw (mod-eq_of_lt in_range.0, mod-eq_of_lt in_range.1, mod-eq_of_lt in_range.2)

  pub fields : Fields n.family n.a n.b n.c
  fields = record {
    small_a = in_range.0;
    small_b = in_range.1;
    small_c = in_range.2;
    in_a = has_all.in_a;
    in_b = has_all.in_b;
    in_c = has_all.in_c;
  }

  is_good : T (good n.family n.a n.b (plan_of n).work)
  is_good = rw whole_fields (all_good n.family n.a n.b n.c fields)

  abbrev w : Work
  w = (plan_of n).work

  held : Hold (tests n.family n.a n.b w)
  unfolding good
  held = all_hold (tests n.family n.a n.b w) is_good

  -- the plan names I exactly when isa says that there is an I operand
  pub immediate_agrees : names_i (plan_of n).work ≡ asks_i (named_row n) n.a n.b
  unfolding tests
  immediate_agrees = agree (names_i w) (asks_i row n.a n.b) held.0

  -- the plan writes RAM exactly when document 01 sends the instruction there
  pub ram_agrees : writes_ram (plan_of n).work ≡ to_ram n.family n.a n.b
  unfolding tests
  ram_agrees = agree (writes_ram w) (to_ram n.family n.a n.b) held.1.0

  -- it prioritizes ACC under ACC exactly when the rule of 8 is broken
  pub acc_agrees : acc_under_acc (plan_of n).work ≡ acc_twice (named_row n) n.a n.b
  unfolding tests
  acc_agrees = agree (acc_under_acc w) (acc_twice row n.a n.b) held.1.1.0

  -- it is a bit operation exactly when its family has the rule of 9
  pub bit_agrees : is_bit (plan_of n).work.task ≡ eqb (numbered (named_row n).rule) (numbered bit_in_mode)
  unfolding tests
  bit_agrees = agree (is_bit w.task) (eqb (numbered row.rule) (numbered bit_in_mode)) held.1.1.1.0

  -- a merge's destination is its R
  pub merge_goes_back : (plan_of n).work.task ≡ Merge → (plan_of n).work.destination ≡ back (plan_of n).work.operands.second
  unfolding tests
  merge_goes_back e =
      let to = sameb the_type w.destination (back w.operands.second) in
      same_true the_type tt w.destination (back w.operands.second) (holds to (where_held (is_merge w.task) to held.1.1.1.1.0 (ap is_merge e)))

  -- a merge's R and a bit operation's source are RAM, ACC or D
  pub merge_from : (plan_of n).work.task ≡ Merge → is_ram_acc_or_latch (plan_of n).work.operands.second ≡ true
  unfolding tests
  merge_from e =
      let from = is_ram_acc_or_latch w.operands.second in
      holds from (where_held (is_merge w.task) from held.1.1.1.1.1.0 (ap is_merge e))

  pub bit_from : is_bit (plan_of n).work.task ≡ true → is_ram_acc_or_latch (plan_of n).work.operands.first ≡ true
  unfolding tests
  bit_from e =
      let from = is_ram_acc_or_latch w.operands.first in
      holds from (where_held (is_bit w.task) from held.1.1.1.1.1.1.0 e)

-- the words: a word takes an I operand exactly when its plan names I, and its plan has the mode of its mark
module _ (w : ℕ) (h : w < 0x10000) (n : Named) (e : decode_of w ≡ accepted n) where
  pub word_immediate : takes_immediate w ≡ names_i (plan_of n).work
  unfolding takes_immediate
  word_immediate = ap (λ (t : Tells Named). wordNamesI t.value) e ∙ sym (immediate_agrees n (encode_takes n w (encode_decode w h n e)))

  pub word_mode : (plan_of n).mode ≡ mode_of (mark_of w)
  unfolding plan_of
  word_mode = sym (ap (λ (n : Named). n.mode) (decode_named w h n e))

-- no two outcomes satisfy the statement of a call
pub plan_for_unique : (n : Named) (p q : Plan) → p ≡ plan_of n → q ≡ plan_of n → p ≡ q
plan_for_unique n p q x y = x ∙ sym y

pub names_immediate_unique : (w : Work) (r s : Bool) → r ≡ names_i w → s ≡ names_i w → r ≡ s
names_immediate_unique w r s p q = p ∙ sym q
