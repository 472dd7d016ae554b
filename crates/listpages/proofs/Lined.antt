-- The lines of a text, one after another.
-- The law: `lines_append`.
use Rattle.std.proofs.Common.{◌≡◌, refl, sym, ap, ◌∙◌, ℕ, suc, ◌+◌, ◌<◌, ◌≤◌, Bool, true, false, not, cond, List, [], ◌∷◌, ◌++◌, length, take, drop, eqb, ltb, ltb-false, Some, None, arith}
use native.Mathlib.Numerals.{add-one}
use Rattle.std.specs.Option.{unwrap_or}
use Rattle.std.specs.List.{position_or_len}
use Rattle.std.proofs.Math.Seq.{drop-drop}
use Rattle.choice.specs.Pick.{pick}
use Rattle.choice.specs.Text.{newline}
use Rattle.listpages.specs.Answering.{in_front, lines_of, line_end}

-- the end of the first line, said as a place
abbrev end_of : List ℕ → ℕ
end_of bytes = position_or_len (λ (b : ℕ). eqb b newline) bytes

end_le : (bytes : List ℕ) → end_of bytes ≤ length bytes
end_le [] = omega arith
end_le (b ∷ bytes) = by_test (eqb b newline) (end_le bytes)
  where
    by_test : (q : Bool) → end_of bytes ≤ length bytes → cond (not q) (1 + end_of bytes) 0 ≤ suc (length bytes)
    by_test true h = omega arith
    by_test false h = omega (arith, h)

end_is : (bytes : List ℕ) → line_end bytes ≡ end_of bytes
end_is bytes = by_test (ltb (end_of bytes) (length bytes)) refl
  where
    by_test : (q : Bool) → ltb (end_of bytes) (length bytes) ≡ q → unwrap_or (cond q (Some (end_of bytes)) None) (length bytes) ≡ end_of bytes
    by_test true e = refl
    by_test false e = omega (arith, end_le bytes, ltb-false (end_of bytes) (length bytes) e)

-- of some bytes, by whether the first of them is a line feed
first_by : (b : ℕ) (bytes : List ℕ) (q : Bool) → in_front b (lines_of bytes) ≡ (b ∷ take (end_of bytes) bytes) ∷ lines_of (drop (suc (end_of bytes)) bytes)
    → pick q ([] ∷ lines_of bytes) (in_front b (lines_of bytes)) ≡ take (cond (not q) (1 + end_of bytes) 0) (b ∷ bytes) ∷ lines_of (drop (suc (cond (not q) (1 + end_of bytes) 0)) (b ∷ bytes))
first_by b bytes true e = refl
first_by b bytes false e =
    let more : 1 + end_of bytes ≡ suc (end_of bytes) = omega arith in
    rw more e

first_line : (b : ℕ) (bytes : List ℕ) → lines_of (b ∷ bytes) ≡ take (end_of (b ∷ bytes)) (b ∷ bytes) ∷ lines_of (drop (suc (end_of (b ∷ bytes))) (b ∷ bytes))
first_line b [] = first_by b [] (eqb b newline) refl
first_line b (c ∷ bytes) = first_by b (c ∷ bytes) (eqb b newline) (ap (in_front b) (first_line c bytes))

-- the first line of bytes that are some, and the others after its line feed
pub first_of : (bytes : List ℕ) → 0 < length bytes → lines_of bytes ≡ take (line_end bytes) bytes ∷ lines_of (drop 1 (drop (line_end bytes) bytes))
first_of [] h = absurd (omega arith)
first_of (b ∷ bytes) h = rw (drop-drop 1 (line_end (b ∷ bytes)) (b ∷ bytes), add-one, end_is (b ∷ bytes)) (first_line b bytes)

-- a text has no more lines than bytes
pub lines_le : (bytes : List ℕ) → length (lines_of bytes) ≤ length bytes
lines_le [] = omega arith
lines_le (b ∷ bytes) = by_test (eqb b newline) (lines_le bytes)
  where
    front_le : (lines : List (List ℕ)) → length (in_front b lines) ≤ suc (length lines)
    front_le [] = omega arith
    front_le (l ∷ ls) = omega arith

    by_test : (q : Bool) → length (lines_of bytes) ≤ length bytes → length (pick q ([] ∷ lines_of bytes) (in_front b (lines_of bytes))) ≤ suc (length bytes)
    by_test true h = omega arith
    by_test false h = omega (arith, front_le (lines_of bytes))

-- a text that ends in a line feed, and more
lines_front : (b : ℕ) (ls ms : List (List ℕ)) → 0 < length ls → in_front b ls ++ ms ≡ in_front b (ls ++ ms)
lines_front b [] ms h = absurd (omega arith)
lines_front b (l ∷ ls) ms h = refl

some_lines : (a : List ℕ) (b : ℕ) → 0 < length (lines_of (a ++ b ∷ []))
some_lines [] b = by_test (eqb b newline)
  where
    by_test : (q : Bool) → 0 < length (pick q ([] ∷ []) (in_front b []))
    by_test true = omega arith
    by_test false = omega arith
some_lines (c ∷ a) b = by_test (eqb c newline) (lines_of (a ++ b ∷ []))
  where
    by_test : (q : Bool) (ls : List (List ℕ)) → 0 < length (pick q ([] ∷ ls) (in_front c ls))
    by_test true ls = omega arith
    by_test false [] = omega arith
    by_test false (l ∷ ls) = omega arith

pub lines_append : (a b : List ℕ) → lines_of ((a ++ newline ∷ []) ++ b) ≡ lines_of (a ++ newline ∷ []) ++ lines_of b
lines_append [] b = refl
lines_append (c ∷ a) b = by_test (eqb c newline) (lines_append a b)
  where
    by_test : (q : Bool) → lines_of ((a ++ newline ∷ []) ++ b) ≡ lines_of (a ++ newline ∷ []) ++ lines_of b
        → pick q ([] ∷ lines_of ((a ++ newline ∷ []) ++ b)) (in_front c (lines_of ((a ++ newline ∷ []) ++ b)))
        ≡ pick q ([] ∷ lines_of (a ++ newline ∷ [])) (in_front c (lines_of (a ++ newline ∷ []))) ++ lines_of b
    by_test true e = ap (λ (ls : List (List ℕ)). [] ∷ ls) e
    by_test false e = ap (in_front c) e ∙ sym (lines_front c (lines_of (a ++ newline ∷ [])) (lines_of b) (some_lines a newline))
