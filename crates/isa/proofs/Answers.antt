-- The answers of lookup, decoder and encoder, from what their tests showed.
use mathlib.Core.Path.{◌≡◌, refl, ◌∙◌, sym, ap, subst}
use mathlib.Core.Bool.{Bool, true, false, not}
use mathlib.Core.List.{List, [], ◌∷◌}
use Prim.Native.Nat.{ℕ, ◌<◌, ◌≤◌}
use native.Mathlib.Omega.{arith}
use lib.Dec.{leb}
use Rattle.std.specs.Prelude.{Option, Some, None, is_some}
use Rattle.refusals.specs.declared.Refusal.{Refusal}
use Rattle.refusals.specs.Numbers.{number_of as refusal_number}
use Rattle.refusals.proofs.Laws.{number_of_positive}
use lib.ListN.{get_or-eq_default}
use borrow.Author.Tests.{le-leb, lt-leb}
use Rattle.choice.specs.Checks.{Check, check, refusal}
use Rattle.choice.specs.Tells.{Tells, accepted, refused, tells}
use Rattle.choice.proofs.Checks.{held, passed}
use Rattle.choice.proofs.Spans.{never as differ}
use Rattle.choice.proofs.Tells.{tells_accepted, tells_refused, first_held, first_clear}
use Rattle.isa.specs.declared.Family.{Family}
use Rattle.isa.specs.declared.Family.TheVariants.{Tor1}
use Rattle.isa.specs.declared.Row.{Row}
use Rattle.isa.specs.declared.Named.{Named}
use Rattle.isa.specs.declared.Lookup.{Lookup}
use Rattle.isa.specs.declared.parts.Fields.{Fields}
use Rattle.isa.specs.Fields.{mark_of, quadrant_of, field_a, field_b, field_c, mode_of, mark_for, word_of}
use Rattle.isa.specs.Table.{row, rows, row_at, no_row, number_of, no_rule, never, numbered, refusal_of}
use Rattle.isa.specs.Slots.{takes, row_of}
use Rattle.isa.specs.Words.{rule_checks, acc_twice, bit_too_high, named_row, encode_of, word_number, word_row, word_checks, named_by, decode_of, lookup_of, names_i, asks_i, takes_immediate}
use Rattle.isa.specs.Decision.{row_number, FieldsOf, RowIs, named_by_fields, rule_only, RowTaking}
use Rattle.isa.proofs.Families.{own_row, own_number, narrow, mark_small}
use Rattle.isa.proofs.Takes.{small}
use Rattle.isa.proofs.Found.{five, Takes, taking_some, taking_none, taking_own, none_own}

-- the fields are a word's
module _ (w : ℕ) (bound : w < 0x10000) (p : Fields) (h : FieldsOf p w) where
  abbrev of_word : Family → Named
  of_word f = record { family = f; mode = mode_of (mark_of w); a = field_a w; b = field_b w; c = field_c w }

  named_same : (f : Family) → named_by_fields f p ≡ of_word f
  named_same f = rw (h.mark, h.a, h.b, h.c)

  -- what a row's rule refuses the fields with
  rule_same : (r : Row) → refusal (rule_checks r p.mark p.a p.b) ≡ refusal (rule_checks r (mark_of w) (field_a w) (field_b w))
  rule_same r =
      ap (λ (m : ℕ). refusal (rule_checks r m p.a p.b)) h.mark
      ∙ ap (λ (a : ℕ). refusal (rule_checks r (mark_of w) a p.b)) h.a
      ∙ ap (λ (b : ℕ). refusal (rule_checks r (mark_of w) (field_a w) b)) h.b

  -- a lookup, by the family of the row that is found
  module _ (r : Option Family) (e : RowIs p r) where
    found : row_number r ≡ word_number w
    unfolding RowIs
    found =
        e ∙ five row_of p.mark p.quadrant p.a p.b p.c (mark_of w) (quadrant_of w) (field_a w) (field_b w) (field_c w) (h.mark, h.quadrant, h.a, h.b, h.c)

    abbrev rules : List Check
    rules = rule_checks (word_row w) (mark_of w) (field_a w) (field_b w)

    abbrev looked : Option Refusal → Named → Lookup
    looked k n = record { refusal = k; named = n }

    pub look_none : r ≡ None → (n : Named) → n ≡ named_by_fields Tor1 p → looked (refusal_of 7) n ≡ lookup_of w
    unfolding lookup_of
    look_none z n q =
        let unlisted : no_row ≤ word_number w = subst (λ (j : ℕ). no_row ≤ j) (sym (ap row_number z) ∙ found) (omega arith) in
        ap (λ (n : Named). looked (refusal_of 7) n) (q ∙ named_same Tor1)
        ∙ ap (λ (k : ℕ). looked (refusal_of k) (of_word Tor1)) (sym (held 7 (leb no_row (word_number w)) rules (le-leb no_row (word_number w) unlisted)))
        ∙ ap (λ (r : Row). looked (refusal_of (refusal (word_checks w))) (of_word r.family))
        (sym (get_or-eq_default rows (row Tor1 0 0 0 0 0 no_rule never) {n = word_number w} unlisted))

    pub look_row : (f : Family) → r ≡ Some f → (n : Named) → n ≡ named_by_fields f p
        → (k : Option Refusal) → k ≡ refusal_of (refusal (rule_checks (row_at (number_of f)) p.mark p.a p.b)) → looked k n ≡ lookup_of w
    unfolding lookup_of
    look_row f z n q k g =
        let own : number_of f ≡ word_number w = sym (ap row_number z) ∙ found in
        let listed : word_number w < no_row = subst (λ (j : ℕ). j < no_row) own (own_row f).0 in
        ap (λ (k : Option Refusal). looked k n)
        (g ∙ ap refusal_of (rule_same (row_at (number_of f)) ∙ ap (λ (j : ℕ). refusal (rule_checks (row_at j) (mark_of w) (field_a w) (field_b w))) own ∙ sym (passed 7 (leb no_row (word_number w)) rules (lt-leb no_row (word_number w) listed))))
        ∙ ap (λ (n : Named). looked (refusal_of (refusal (word_checks w))) n) (q ∙ named_same f)
        ∙ ap (λ (f : Family). looked (refusal_of (refusal (word_checks w))) (of_word f)) (sym (own_row f).1 ∙ ap (λ (j : ℕ). (row_at j).family) own)

-- a refusal by its number is of that number, whichever of the three checks gives it
numbered_back : (seven eight nine : Bool) → let k = refusal (check 7 seven ∷ check 8 eight ∷ check 9 nine ∷ []) in numbered (refusal_of k) ≡ k
numbered_back true eight nine = refl
numbered_back false true nine = refl
numbered_back false false true = refl
numbered_back false false false = refl

pub looked_number : (w : ℕ) → numbered (lookup_of w).refusal ≡ refusal (word_checks w)
unfolding lookup_of
looked_number w = numbered_back (leb no_row (word_number w)) (acc_twice (word_row w) (field_a w) (field_b w)) (bit_too_high (word_row w) (mark_of w) (field_a w))

-- a refusal has a number from 1 on
pub numbered_some : (k : Option Refusal) → is_some k ≡ true → numbered k ≡ 0 → ⊥
numbered_some None s = absurd (differ s)
numbered_some (Some k) s = number_of_positive k

pub numbered_none : (k : Option Refusal) → is_some k ≡ false → numbered k ≡ 0
numbered_none None s = refl
numbered_none (Some k) s = absurd (differ (sym s))

-- a refusal is told by its number
pub refused_some : {A : Type 0} (r : Option Refusal) (k : Refusal) (x : A) → r ≡ Some k → tells (numbered r) x ≡ refused (refusal_number k)
refused_some r k x e = ap (λ (r : Option Refusal). tells (numbered r) x) e ∙ tells_refused (refusal_number k) x (number_of_positive k)

-- the decoder's answer, by the lookup
module _ (w : ℕ) (l : Lookup) (e : l ≡ lookup_of w) where
  pub told : tells (numbered l.refusal) l.named ≡ decode_of w
  unfolding lookup_of decode_of
  told =
      ap (λ (l : Lookup). tells (numbered l.refusal) l.named) e
      ∙ ap (λ (k : ℕ). tells k (named_by w)) (looked_number w)

  pub decode_accepted : l.refusal ≡ None → accepted l.named ≡ decode_of w
  decode_accepted z = sym (ap (λ (r : Option Refusal). tells (numbered r) l.named) z) ∙ told

  pub decode_refused : (k : Refusal) → l.refusal ≡ Some k → refused (refusal_number k) ≡ decode_of w
  decode_refused k s = sym (refused_some l.refusal k l.named s) ∙ told

-- the answer for fields, by the number of their row
abbrev instruction : ℕ → ℕ → ℕ → ℕ → ℕ → Named
instruction i mark a b c = record { family = (row_at i).family; mode = mode_of mark; a = a; b = b; c = c }

unfoldable pub answer_at : ℕ → ℕ → ℕ → ℕ → ℕ → Tells Named
answer_at i mark a b c = tells (refusal (check 7 (leb no_row i) ∷ rule_checks (row_at i) mark a b)) (instruction i mark a b c)

pub answer_accepted : (i mark a b c : ℕ) → i < no_row → refusal (rule_checks (row_at i) mark a b) ≡ 0 → answer_at i mark a b c ≡ accepted (instruction i mark a b c)
unfolding answer_at
answer_accepted i mark a b c h z =
    first_clear 7 (leb no_row i) (rule_checks (row_at i) mark a b) (instruction i mark a b c) (lt-leb no_row i h)
    ∙ tells_accepted (refusal (rule_checks (row_at i) mark a b)) (instruction i mark a b c) z

answer_refused : (i mark a b c : ℕ) → i < no_row → (k : ℕ) → k ≡ refusal (rule_checks (row_at i) mark a b) → (k ≡ 0 → ⊥) → answer_at i mark a b c ≡ refused k
unfolding answer_at
answer_refused i mark a b c h k e n =
    first_clear 7 (leb no_row i) (rule_checks (row_at i) mark a b) (instruction i mark a b c) (lt-leb no_row i h)
    ∙ ap (λ (k : ℕ). tells k (instruction i mark a b c)) (sym e)
    ∙ tells_refused k (instruction i mark a b c) n

-- the decoder's answer, once the row's number is the word's
pub decoded : (w i : ℕ) → i ≡ word_number w → answer_at i (mark_of w) (field_a w) (field_b w) (field_c w) ≡ decode_of w
unfolding answer_at decode_of
decoded w i e = ap (λ (i : ℕ). answer_at i (mark_of w) (field_a w) (field_b w) (field_c w)) e

-- whether a word takes an I operand, by the row that takes its fields
module _ (w : ℕ) (bound : w < 0x10000) (p : Fields) (h : FieldsOf p w) where
  pub immediate_none : RowTaking p None → false ≡ takes_immediate w
  unfolding takes_immediate decode_of
  immediate_none e =
      ap (λ (t : Tells Named). names_i t.value)
      (sym (first_held 7 (leb no_row (word_number w)) (rule_checks (word_row w) (mark_of w) (field_a w) (field_b w)) (named_by w) (λ e. omega arith)
      (le-leb no_row (word_number w) (none_own p w bound h (taking_none p e)))))

  module _ (r : Row) (e : RowTaking p (Some r)) (n : Named) (q : n ≡ named_by_fields r.family p)
      (k : Option Refusal) (g : k ≡ refusal_of (refusal (rule_checks (rule_only r.rule) p.mark p.a p.b)))
      (t : Bool) (s : is_some k ≡ not t) where
    i : ℕ
    i = (taking_some p r e).0

    taken_by : Takes p r i
    unfolding i
    taken_by = (taking_some p r e).1

    own : i ≡ word_number w
    own = sym (taking_own p w bound h r i taken_by)

    number : numbered k ≡ refusal (rule_checks (row_at i) (mark_of w) (field_a w) (field_b w))
    number =
        ap numbered g ∙ numbered_back false (acc_twice r p.a p.b) (bit_too_high r p.mark p.a)
        ∙ rule_same w bound p h r
        ∙ ap (λ (r : Row). refusal (rule_checks r (mark_of w) (field_a w) (field_b w))) (sym taken_by.row)

    pub immediate_refused : t ≡ false → t ≡ takes_immediate w
    unfolding takes_immediate
    immediate_refused f =
        f ∙ ap (λ (t : Tells Named). names_i t.value)
        (sym (answer_refused i (mark_of w) (field_a w) (field_b w) (field_c w) taken_by.listed (numbered k) number (numbered_some k (s ∙ ap not f))) ∙ decoded w i own)

    pub immediate_row : t ≡ true → asks_i r n.a n.b ≡ takes_immediate w
    unfolding takes_immediate
    immediate_row f =
        ap (λ (n : Named). asks_i r n.a n.b) (q ∙ named_same w bound p h r.family)
        ∙ ap (λ (r : Row). asks_i r (field_a w) (field_b w)) (sym taken_by.row)
        ∙ ap (λ (j : ℕ). asks_i (row_at j) (field_a w) (field_b w)) (sym (own_number i taken_by.listed))
        ∙ ap (λ (t : Tells Named). names_i t.value)
        (sym (answer_accepted i (mark_of w) (field_a w) (field_b w) (field_c w) taken_by.listed (sym number ∙ numbered_none k (s ∙ ap not f))) ∙ decoded w i own)

-- the answer for the fields of a named instruction, once its row is known
unfoldable pub fill_of : Row → ℕ → ℕ → ℕ → ℕ → Tells ℕ
fill_of r mark a b c =
    tells (refusal (check 7 (not (takes r mark a b c)) ∷ rule_checks r mark a b)) (word_of mark r.quadrant a b c)

-- a row of the number of an instruction's family is its own
pub row_own : (n : Named) (i : ℕ) (r : Row) → i ≡ number_of n.family → r ≡ row_at i → r ≡ named_row n
row_own n i r e q = q ∙ ap row_at e

-- and its rule is that of the instruction's row
pub rule_own : (n : Named) (r : Row) → r ≡ named_row n → (mark : ℕ) (k : Option Refusal) → k ≡ refusal_of (refusal (rule_checks (rule_only r.rule) mark n.a n.b))
    → k ≡ refusal_of (refusal (rule_checks (named_row n) mark n.a n.b))
rule_own n r e mark k f = f ∙ ap (λ (r : Row). refusal_of (refusal (rule_checks (rule_only r.rule) mark n.a n.b))) e

module _ (n : Named) (r : Row) (t : Bool) (e : r ≡ named_row n) (u : t ≡ takes r (mark_for n.mode) n.a n.b n.c) where
  pub takes_own : t ≡ takes (named_row n) (mark_for n.mode) n.a n.b n.c
  takes_own = u ∙ ap (λ (r : Row). takes r (mark_for n.mode) n.a n.b n.c) e

  -- what it takes fits a word
  pub fits : t ≡ true → (mark_for n.mode < 2) × (r.quadrant < 4) × (n.a < 16) × (n.b < 16) × (n.c < 32)
  fits p =
      let z = narrow (number_of n.family) (own_row n.family).0 in
      let k = small (named_row n) (mark_for n.mode) n.a n.b n.c z (sym takes_own ∙ p) in
      let q : r.quadrant ≡ (named_row n).quadrant = ap (λ (r : Row). r.quadrant) e in
      (mark_small n.mode, omega (arith, z.quadrant), k.0, k.1, k.2)

pub encoded : (n : Named) → fill_of (named_row n) (mark_for n.mode) n.a n.b n.c ≡ encode_of n
unfolding fill_of encode_of
encoded n = refl

module _ (r : Row) (mark a b c : ℕ) (t : Bool) (e : t ≡ takes r mark a b c) where
  abbrev word : ℕ
  word = word_of mark r.quadrant a b c

  pub fill_none : t ≡ false → refused 7 ≡ fill_of r mark a b c
  unfolding fill_of
  fill_none p = sym (first_held 7 (not (takes r mark a b c)) (rule_checks r mark a b) word (λ e. omega arith) (ap not (sym e ∙ p)))

  taken : t ≡ true → tells (refusal (rule_checks r mark a b)) word ≡ fill_of r mark a b c
  unfolding fill_of
  taken p = sym (first_clear 7 (not (takes r mark a b c)) (rule_checks r mark a b) word (ap not (sym e ∙ p)))

  pub fill_free : t ≡ true → refusal (rule_checks r mark a b) ≡ 0 → accepted word ≡ fill_of r mark a b c
  fill_free p z = sym (tells_accepted (refusal (rule_checks r mark a b)) word z) ∙ taken p

  module _ (p : t ≡ true) (k : Option Refusal) (f : k ≡ refusal_of (refusal (rule_checks r mark a b))) where
    ruled : numbered k ≡ refusal (rule_checks r mark a b)
    ruled = ap numbered f ∙ numbered_back false (acc_twice r a b) (bit_too_high r mark a)

    pub fill_accepted : k ≡ None → accepted word ≡ fill_of r mark a b c
    fill_accepted z = fill_free p (sym ruled ∙ ap numbered z)

    pub fill_refused : (j : Refusal) → k ≡ Some j → refused (refusal_number j) ≡ fill_of r mark a b c
    fill_refused j s = sym (refused_some k j word s) ∙ ap (λ (k : ℕ). tells k word) ruled ∙ taken p
