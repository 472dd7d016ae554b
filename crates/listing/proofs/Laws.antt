-- What holds of lines: a word's line gives the word, and a line that gives a word is that word's line once runs of blanks are made one and
-- the ends trimmed.
-- The laws, in this order: `read_print`, `print_read`.
use mathlib.Core.Path.{◌≡◌, sym, ap, ◌∙◌, subst}
use mathlib.Core.Bool.{true}
use mathlib.Core.List.{List, [], ◌∷◌, ◌++◌, append-nil}
use mathlib.Core.Logic.{inl, inr}
use Prim.Native.Nat.{ℕ, ◌<◌}
use native.Mathlib.Omega.{arith}
use lib.Dec.{T}
use Rattle.choice.specs.Tells.{Tells, accepted, refused, Placed, accepted_whole}
use Rattle.choice.proofs.Tells.{accepted_one, accepted_refused}
use Rattle.alu.specs.declared.Mode.{Mode}
use Rattle.isa.specs.declared.Family.{Family}
use Rattle.isa.specs.declared.Named.{Named}
use Rattle.isa.specs.declared.Row.{Row}
use Rattle.isa.specs.Fields.{mode_of, mark_for}
use Rattle.isa.specs.Sets.{has}
use Rattle.isa.specs.Table.{row_at, no_row, number_of}
use Rattle.isa.specs.Words.{decode_of, encode_of, named_by, Answered}
use Rattle.isa.proofs.Families.{own_row, own_number, narrow, mark_small, mode_back, mark_back}
use Rattle.isa.proofs.Takes.{taken, small}
use Rattle.isa.proofs.Laws.{encode_decode, decode_encode, encode_takes, word_answered}
use Rattle.listing.specs.Places.{at_family, at_mode, form_of}
use Rattle.listing.specs.Items.{joined, Item, items_of, normal}
use Rattle.listing.specs.Lines.{text_of, field_texts, texts_by, texts_of, line_by, line_of, expect, field, ended, encoded, instruction, fields_of, word_from, word_of, past_of, Writes}
use Rattle.listing.proofs.Tables.{most_values, good, family_good, mode_good, good_a, good_b, good_c, writes_a, writes_b, writes_c, text_sound, family_text, family_small, mode_text, mode_small}
use Rattle.listing.proofs.Splits.{texts, all_sound, all_full, joined_items, items_full, normal_items}
use Rattle.listing.proofs.Steps.{expect_step, field_step, expect_met, field_met, ended_met, ended_step, sound_too, field_sound}

pub half : (v : ℕ) → v < 16 → v < most_values
half v h = omega arith

-- a line that gives a word: what its items are
pub record Reads (line : List ℕ) (w : ℕ) : Type 0 where
  pub named : Named
  pub shown : texts (items_of line) ≡ texts_of named
  pub word : encode_of named ≡ accepted w

-- fields that were read: their values, and what is shown of them
record Fields (w i k : ℕ) (xs : List Item) : Type 0 where
  a : ℕ
  b : ℕ
  c : ℕ
  texts_are : texts xs ≡ field_texts (form_of (row_at i).family).a a ++ (field_texts (form_of (row_at i).family).b b ++ field_texts (form_of (row_at i).family).c c)
  word : encode_of (instruction (row_at i) k a b c) ≡ accepted w

three : (l₂ l₃ l₄ l₅ xs ys zs : List (List ℕ)) → l₂ ≡ xs ++ l₃ → l₃ ≡ ys ++ l₄ → l₄ ≡ zs ++ l₅ → l₅ ≡ [] → l₂ ≡ xs ++ (ys ++ zs)
three l₂ l₃ l₄ l₅ xs ys zs e₂ e₃ e₄ e₅ = rw (e₂, e₃, e₄, e₅, append-nil)

reads_fields : (past w i k : ℕ) → i < no_row → (xs : List Item) → T (all_full xs) → fields_of past (row_at i) k xs ≡ accepted_whole w → Fields w i k xs
reads_fields past w i k l xs t e =
    let r : Row = row_at i in
    let a = field_met past (λ a xs. field past r.b (form_of r.family).b xs (λ b xs. field past r.c (form_of r.family).c xs (λ c xs. ended xs (encoded (instruction r k a b c)))))
    w r.a (form_of r.family).a (good_a i l) xs t e in
    let b = field_met past (λ b xs. field past r.c (form_of r.family).c xs (λ c xs. ended xs (encoded (instruction r k a.value b c))))
    w r.b (form_of r.family).b (good_b i l) a.rest a.fulls a.goes in
    let c = field_met past (λ c xs. ended xs (encoded (instruction r k a.value b.value c))) w r.c (form_of r.family).c (good_c i l) b.rest b.fulls b.goes in
    let z = ended_met w c.rest (encoded (instruction r k a.value b.value c.value)) c.goes in
    record {
      a = a.value;
      b = b.value;
      c = c.value;
      texts_are = three _ _ _ _ (field_texts (form_of r.family).a a.value) (field_texts (form_of r.family).b b.value) (field_texts (form_of r.family).c c.value) a.shown b.shown c.shown z.0;
      word = ap (λ (t : Placed ℕ). t.told) z.1;
    }

-- with the family and the mode in front of them
reads_from : (line : List ℕ) (w i k : ℕ) (xs : List Item) → i < no_row → k < 2 → texts (items_of line) ≡ text_of at_family i ∷ text_of at_mode k ∷ texts xs → Fields w i k xs → Reads line w
reads_from line w i k xs l h e f = record {
  named = instruction (row_at i) k f.a f.b f.c;
  shown =
      e
      ∙ ap (λ (ts : List (List ℕ)). text_of at_family i ∷ text_of at_mode k ∷ ts) f.texts_are
      ∙ ap (λ (j : ℕ). texts_by j k (form_of (row_at i).family) f.a f.b f.c) (sym (own_number i l))
      ∙ ap (λ (m : ℕ). texts_by (number_of (row_at i).family) m (form_of (row_at i).family) f.a f.b f.c) (sym (mark_back k h));
  word = f.word;
}

two : (l₀ l₁ l₂ : List (List ℕ)) (f m : List ℕ) → l₀ ≡ f ∷ l₁ → l₁ ≡ m ∷ l₂ → l₀ ≡ f ∷ m ∷ l₂
two l₀ l₁ l₂ f m e₀ e₁ = e₀ ∙ ap (λ (l : List (List ℕ)). f ∷ l) e₁

pub reads : (line : List ℕ) (w : ℕ) → word_of line ≡ accepted_whole w → Reads line w
unfolding word_of
reads line w e =
    let past : ℕ = past_of line in
    let f = expect_met past (λ i xs. expect past at_mode xs (λ mark xs. fields_of past (row_at i) mark xs)) w at_family family_good (items_of line) (items_full true 1 line) e in
    let l : f.value < no_row = family_small f.value f.small f.named in
    let m = expect_met past (λ mark xs. fields_of past (row_at f.value) mark xs) w at_mode mode_good f.rest f.fulls f.goes in
    reads_from line w f.value m.value m.rest l (mode_small m.value m.small m.named)
    (two (texts (items_of line)) (texts f.rest) (texts m.rest) (text_of at_family f.value) (text_of at_mode m.value) f.shown m.shown)
    (reads_fields past w f.value m.value l m.rest m.fulls m.goes)

-- it prints as its normal form
pub read_print : (line : List ℕ) (w : ℕ) → word_of line ≡ accepted_whole w → line_of w ≡ accepted (normal line)
unfolding line_of
read_print line w e =
    let r = reads line w e in
    ap line_by (decode_encode r.named w r.word)
    ∙ ap (λ (ts : List (List ℕ)). accepted (joined ts)) (sym r.shown)
    ∙ ap accepted (sym (normal_items line))

-- fields that a row has are read from their texts, whatever the columns are
module _ (past : ℕ) (r : Row) (k a b c : ℕ) (ga : T (good (form_of r.family).a)) (gb : T (good (form_of r.family).b)) (gc : T (good (form_of r.family).c))
    (wa : Writes r.a (form_of r.family).a a) (wb : Writes r.b (form_of r.family).b b) (wc : Writes r.c (form_of r.family).c c)
    (ha : has r.a a ≡ true) (hb : has r.b b ≡ true) (hc : has r.c c ≡ true) where
  abbrev ta : List (List ℕ)
  ta = field_texts (form_of r.family).a a

  abbrev tb : List (List ℕ)
  tb = field_texts (form_of r.family).b b

  abbrev tc : List (List ℕ)
  tc = field_texts (form_of r.family).c c

  read_c : (xs : List Item) → texts xs ≡ tc → field past r.c (form_of r.family).c xs (λ c xs. ended xs (encoded (instruction r k a b c))) ≡ encoded (instruction r k a b c)
  read_c xs e =
      let s = field_step past (λ c xs. ended xs (encoded (instruction r k a b c))) r.c (form_of r.family).c gc c xs [] wc hc (e ∙ sym (append-nil tc)) in
      s.goes ∙ ended_step s.rest (encoded (instruction r k a b c)) s.shown

  read_b : (xs : List Item) → texts xs ≡ tb ++ tc
      → field past r.b (form_of r.family).b xs (λ b xs. field past r.c (form_of r.family).c xs (λ c xs. ended xs (encoded (instruction r k a b c)))) ≡ encoded (instruction r k a b c)
  read_b xs e =
      let s = field_step past (λ b xs. field past r.c (form_of r.family).c xs (λ c xs. ended xs (encoded (instruction r k a b c)))) r.b (form_of r.family).b gb b xs tc wb hb e in
      s.goes ∙ read_c s.rest s.shown

  read_fields : (xs : List Item) → texts xs ≡ ta ++ (tb ++ tc) → fields_of past r k xs ≡ encoded (instruction r k a b c)
  read_fields xs e =
      let s = field_step past (λ a xs. field past r.b (form_of r.family).b xs (λ b xs. field past r.c (form_of r.family).c xs (λ c xs. ended xs (encoded (instruction r k a b c)))))
      r.a (form_of r.family).a ga a xs (tb ++ tc) wa ha e in
      s.goes ∙ read_b s.rest s.shown

  c_sound : T (all_sound tc)
  c_sound = subst (λ (ts : List (List ℕ)). T (all_sound ts)) (append-nil tc) (field_sound r.c (form_of r.family).c gc c [] wc hc tt)

  fields_sound : T (all_sound (ta ++ (tb ++ tc)))
  fields_sound = field_sound r.a (form_of r.family).a ga a (tb ++ tc) wa ha (field_sound r.b (form_of r.family).b gb b tc wb hb c_sound)

module _ (i k a b c : ℕ) (si : i < no_row) (sk : k < 2) (sa : a < most_values) (sb : b < most_values) (sc : c < most_values)
    (ha : has (row_at i).a a ≡ true) (hb : has (row_at i).b b ≡ true) (hc : has (row_at i).c c ≡ true) where
  abbrev own_fields : List (List ℕ)
  own_fields = field_texts (form_of (row_at i).family).a a ++ (field_texts (form_of (row_at i).family).b b ++ field_texts (form_of (row_at i).family).c c)

  abbrev own_texts : List (List ℕ)
  own_texts = texts_by i k (form_of (row_at i).family) a b c

  read_texts : (past : ℕ) (xs : List Item) → texts xs ≡ own_texts → word_from past xs ≡ encoded (instruction (row_at i) k a b c)
  read_texts past xs e =
      let g = expect_step past (λ i xs. expect past at_mode xs (λ mark xs. fields_of past (row_at i) mark xs)) at_family family_good i xs
      (text_of at_mode k ∷ own_fields) (family_text i si) e in
      let m = expect_step past (λ mark xs. fields_of past (row_at i) mark xs) at_mode mode_good k g.rest
      own_fields (mode_text k sk) g.shown in
      g.goes
      ∙ m.goes
      ∙ read_fields past (row_at i) k a b c (good_a i si) (good_b i si) (good_c i si) (writes_a i si a sa) (writes_b i si b sb) (writes_c i si c sc) ha hb hc m.rest m.shown

  texts_sound : T (all_sound own_texts)
  texts_sound =
      sound_too (text_of at_family i) (text_of at_mode k ∷ own_fields) (text_sound at_family family_good i (family_text i si))
      (sound_too (text_of at_mode k) own_fields (text_sound at_mode mode_good k (mode_text k sk))
      (fields_sound 0 (row_at i) k a b c (good_a i si) (good_b i si) (good_c i si) (writes_a i si a sa) (writes_b i si b sb) (writes_c i si c sc) ha hb hc))

  read_line : word_of (joined own_texts) ≡ encoded (instruction (row_at i) k a b c)
  unfolding word_of
  read_line = read_texts (past_of (joined own_texts)) (items_of (joined own_texts)) (joined_items own_texts texts_sound)

-- a named instruction that has a word
pub line_reads : (n : Named) (w : ℕ) → encode_of n ≡ accepted w → word_of (joined (texts_of n)) ≡ accepted_whole w
line_reads n w e =
    let i : ℕ = number_of n.family in
    let o = own_row n.family in
    let t = taken (row_at i) (mark_for n.mode) n.a n.b n.c (encode_takes n w e) in
    let s = small (row_at i) (mark_for n.mode) n.a n.b n.c (narrow i o.0) (encode_takes n w e) in
    ap (λ (f : Family). word_of (joined (texts_by i (mark_for n.mode) (form_of f) n.a n.b n.c))) (sym o.1)
    ∙ read_line i (mark_for n.mode) n.a n.b n.c o.0 (mark_small n.mode) (half n.a s.0) (half n.b s.1) s.2 t.in_a t.in_b t.in_c
    ∙ ap (λ (f : Family). encoded (record { family = f; mode = mode_of (mark_for n.mode); a = n.a; b = n.b; c = n.c })) o.1
    ∙ ap (λ (m : Mode). encoded (record { family = n.family; mode = m; a = n.a; b = n.b; c = n.c })) (mode_back n.mode)
    ∙ ap (λ (t : Tells ℕ). record { told = t; index = 0 }) e

-- print, then read, gives the word
pub print_read : (w : ℕ) → w < 0x10000 → (line : List ℕ) → line_of w ≡ accepted line → word_of line ≡ accepted_whole w
unfolding line_of
print_read w h line e = by_answer (word_answered w)
  where
    no : (k : ℕ) → decode_of w ≡ refused k → ⊥
    no k q = accepted_refused line k (sym e ∙ ap line_by q)

    by_answer : Answered (decode_of w) (named_by w) → word_of line ≡ accepted_whole w
    by_answer (inl q) =
        ap word_of (accepted_one line (joined (texts_of (named_by w))) (sym e ∙ ap line_by q))
        ∙ line_reads (named_by w) w (encode_decode w h (named_by w) q)
    by_answer (inr (inl q)) = absurd (no 7 q)
    by_answer (inr (inr (inl q))) = absurd (no 8 q)
    by_answer (inr (inr (inr q))) = absurd (no 9 q)
