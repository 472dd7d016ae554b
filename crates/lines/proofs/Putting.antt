-- Text put together piece by piece. The law is `draft_puts`: from what a method of a `Draft` promises of its text it follows that it puts it.
use mathlib.Core.Path.{◌≡◌, refl, sym, ap, ◌∙◌}
use mathlib.Core.List.{List, [], ◌++◌, append_assoc, append-nil}
use Prim.Native.Nat.{ℕ, ◌+◌, ◌-◌, ◌≤◌}
use native.Mathlib.Nat.{add-zero}
use native.Mathlib.Omega.{arith}
use lib.ListN.{length, take, drop, length-append, drop_of_length-le}
use lib.Seq.{drop-drop, take_all}
use borrow.Rule.Slice.PartMut.{drop_put}
use Rattle.choice.proofs.Filling.{middle_take, middle_long}
use Rattle.std.proofs.Common.{Option}
use Rattle.lines.specs.Answers.{Makes}
use Rattle.lines.specs.Putting.{Puts}
use Rattle.lines.proofs.Answered.{makes_as}

-- what two texts have in common from a place on, they have from a later place on
later : (x y : List ℕ) (p n r : ℕ) → drop p x ≡ drop p y → r ≡ p + n → drop r x ≡ drop r y
later x y p n r e q = rw (q, ← drop-drop n p x, ← drop-drop n p y, e)

-- text put through &mut line[at..end]: `made` is what the callee left there
module _ (line made text : List ℕ) (at end : ℕ) (same : made ≡ text) (e : end ≡ at + length text) (h : end ≤ length line) where
  pub puts_part : Puts text at end line (take at line ++ (made ++ drop (end - at) (drop at line)))
  puts_part = record {
    end = e;
    put = middle_take line made at end (omega arith) h size ∙ ap (λ (l : List ℕ). take at line ++ l) same;
    rest = drop_put at end line made (omega arith) h size;
  }
    where
      size : length made ≡ end - at
      size = rw same (omega arith)

  pub part_long : length (take at line ++ (made ++ drop (end - at) (drop at line))) ≡ length line
  part_long = middle_long line made at end (omega arith) h (rw same (omega arith))

-- one text after another
pub puts_both : {a b : List ℕ} {p q r : ℕ} {x y z : List ℕ} → Puts a p q x y → Puts b q r y z → Puts (a ++ b) p r x z
puts_both {a = a} {b = b} {p = p} {q = q} {r = r} {x = x} {y = y} f g = record {
  end = rw (length-append a b) (omega (arith, f.end, g.end));
  put = g.put ∙ ap (λ (l : List ℕ). l ++ b) f.put ∙ append_assoc (take p x) a b;
  rest = g.rest ∙ later y x q (length b) r f.rest g.end;
}

-- a line that was put together, handed over
pub line_made : {text : List ℕ} {end : ℕ} {start line : List ℕ} {r : Option ℕ} {before after : List ℕ} → Puts text 0 end start line → Makes (take end line) r before after → Makes text r before after
line_made p m = makes_as p.put m

pub puts_nothing : (at : ℕ) (line : List ℕ) → Puts [] at at line line
puts_nothing at line = record { end = sym (add-zero at); put = sym (append-nil (take at line)); rest = refl }

-- the bytes that a draft has, and those that it has after a method whose clause says that a text was added
pub draft_puts : (text before after : List ℕ) → after ≡ before ++ text → Puts text (length before) (length after) before after
draft_puts text before after e = record {
  end = ap length e ∙ length-append before text;
  put = take_all (length after) after (omega arith) ∙ e ∙ ap (λ (l : List ℕ). l ++ text) (sym (take_all (length before) before (omega arith)));
  rest = drop_of_length-le after (omega arith) ∙ sym (drop_of_length-le before (omega (arith, ap length e ∙ length-append before text)));
}
