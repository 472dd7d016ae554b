-- No two outcomes satisfy the statement of a call: the answers are the same, and the lent output after it.
use mathlib.Core.Path.{◌≡◌, sym, ap, ◌∙◌}
use mathlib.Core.List.{List}
use Prim.Native.Nat.{ℕ}
use Rattle.choice.specs.Tells.{Placed}
use Rattle.choice.proofs.Tells.{whole_one, refused_at_one, whole_refused}
use Rattle.std.specs.Prelude.{Result, Ok, Err}
use Rattle.refusals.specs.declared.Refusal.{Refusal}
use Rattle.refusals.specs.declared.Refused.{Refused}
use Rattle.refusals.specs.Numbers.{number_of}
use Rattle.refusals.proofs.Laws.{number_of_one}
use Rattle.trace.specs.Check.{check_of}
use Rattle.trace.specs.Answers.{filled_tells, Fills}
use Rattle.trace.specs.Layout.{words_per_record}
use Rattle.trace.specs.Limits.{kept_length}
use Rattle.trace.specs.Reading.{Reads}
use Rattle.trace.specs.Writing.{Writes}

-- what an answer tells fixes it
pub filled_one : (x y : Result ℕ Refused) → filled_tells x ≡ filled_tells y → x ≡ y
filled_one (Ok n) (Ok m) e = ap Ok (whole_one n m e)
filled_one (Ok n) (Err r) e = absurd (whole_refused n (number_of r.refusal) r.index e)
filled_one (Err r) (Ok n) e = absurd (whole_refused n (number_of r.refusal) r.index (sym e))
filled_one (Err r) (Err s) e =
    let both = refused_at_one (number_of r.refusal) (number_of s.refusal) r.index s.index e in
    let refused : Refusal → ℕ → Refused = λ k i. record { refusal = k; index = i } in
    ap (λ (k : Refusal). Err (refused k r.index)) (number_of_one r.refusal s.refusal both.0) ∙ ap (λ (i : ℕ). Err (refused s.refusal i)) both.1

fills_one : (answer : Placed ℕ) (made before : List ℕ) (r s : Result ℕ Refused) (after after' : List ℕ) → Fills answer made r before after → Fills answer made s before after'
    → (r ≡ s) × (after ≡ after')
fills_one answer made before r s after after' f g = (filled_one r s (f.told ∙ sym g.told), f.written ∙ sym g.written)

pub read_unique : (trace before : List ℕ) (r s : Result ℕ Refused) (after after' : List ℕ) → Reads trace r before after → Reads trace s before after' → (r ≡ s) × (after ≡ after')
read_unique trace before r s after after' f g = fills_one _ _ before r s after after' f g

pub write_unique : (words before : List ℕ) (r s : Result ℕ Refused) (after after' : List ℕ) → Writes words r before after → Writes words s before after' → (r ≡ s) × (after ≡ after')
write_unique words before r s after after' f g = fills_one _ _ before r s after after' f g

pub check_unique : (bytes : List ℕ) (r s : ℕ) → r ≡ check_of bytes → s ≡ check_of bytes → r ≡ s
check_unique bytes r s e f = e ∙ sym f

pub kept_unique : (length r s : ℕ) → r ≡ kept_length words_per_record length → s ≡ kept_length words_per_record length → r ≡ s
kept_unique length r s e f = e ∙ sym f
