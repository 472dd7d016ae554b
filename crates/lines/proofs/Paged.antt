-- Which line of a page stands where.
-- The laws, in this order: `page_cycle`, `page_state`, `page_register`, `page_last`, `page_past`.
use mathlib.Core.Path.{◌≡◌, refl, sym, ap, ◌∙◌}
use mathlib.Core.List.{List, [], ◌∷◌, ◌++◌}
use Prim.Native.Nat.{ℕ, zero, suc, ◌+◌, ◌<◌}
use native.Mathlib.Nat.{add-zero, zero-add}
use native.Mathlib.Omega.{arith}
use lib.ListN.{length, get_or, get_or-append}
use lib.Seq.{get_or-append-add}
use Rattle.run.specs.declared.Ran.{Ran}
use Rattle.lines.specs.Lines.{state_line, register_line, last_line}
use Rattle.lines.specs.Pages.{report_line, lines_from, register_count, page_of}

module _ (line : ℕ → List ℕ) where
  pub length_lines : (i n : ℕ) → length (lines_from line i n) ≡ n
  length_lines i zero = refl
  length_lines i (suc n) = ap suc (length_lines (i + 1) n)

  line_at : (i n j : ℕ) → j < n → get_or (lines_from line i n) j [] ≡ line (i + j)
  line_at i zero j h = absurd (omega arith)
  line_at i (suc n) zero h = ap line (sym (add-zero i))
  line_at i (suc n) (suc j) h =
      let e : i + 1 + j ≡ i + suc j = omega arith in
      line_at (i + 1) n j (omega arith) ∙ ap line e

  -- n lines from 0 on, and others after them
  module _ (n : ℕ) (others : List (List ℕ)) where
    first_lines : (i : ℕ) → i < n → get_or (lines_from line 0 n ++ others) i [] ≡ line i
    first_lines i h =
        get_or-append (lines_from line 0 n) others [] i (omega (arith, length_lines 0 n)) ∙ line_at 0 n i h ∙ ap line (zero-add i)

    other_lines : (i k : ℕ) → i ≡ n + k → get_or (lines_from line 0 n ++ others) i [] ≡ get_or others k []
    other_lines i k e =
        let f : i ≡ length (lines_from line 0 n) + k = omega (arith, length_lines 0 n) in
        ap (λ (j : ℕ). get_or (lines_from line 0 n ++ others) j []) f ∙ get_or-append-add (lines_from line 0 n) others k []

module _ (r : Ran) (reports : List ℕ) where
  abbrev register_at : ℕ → List ℕ
  register_at k = register_line k (get_or r.machine.registers.ram k 0)

  abbrev end : List (List ℕ)
  end = last_line r.ending r.accepted ∷ []

  abbrev after : List (List ℕ)
  after = state_line r.machine.registers ∷ (lines_from register_at 0 register_count ++ end)

  pub page_cycle : (i : ℕ) → i < r.accepted → get_or (page_of r reports) i [] ≡ report_line reports i
  unfolding page_of
  page_cycle i h = first_lines (report_line reports) r.accepted after i h

  past_cycles : (i k : ℕ) → i ≡ r.accepted + k → get_or (page_of r reports) i [] ≡ get_or after k []
  unfolding page_of
  past_cycles i k e = other_lines (report_line reports) r.accepted after i k e

  pub page_state : (i : ℕ) → i ≡ r.accepted → get_or (page_of r reports) i [] ≡ state_line r.machine.registers
  page_state i e = past_cycles i 0 (omega arith)

  pub page_register : (i k : ℕ) → i ≡ r.accepted + suc k → k < register_count → get_or (page_of r reports) i [] ≡ register_at k
  page_register i k e h = past_cycles i (suc k) e ∙ first_lines register_at register_count end k h

  past_registers : (i k : ℕ) → i ≡ r.accepted + suc (register_count + k) → get_or (page_of r reports) i [] ≡ get_or end k []
  past_registers i k e = past_cycles i (suc (register_count + k)) e ∙ other_lines register_at register_count end (register_count + k) k refl

  pub page_last : (i : ℕ) → i ≡ r.accepted + 33 → get_or (page_of r reports) i [] ≡ last_line r.ending r.accepted
  page_last i e = past_registers i 0 (omega arith)

  pub page_past : (i k : ℕ) → i ≡ r.accepted + (34 + k) → get_or (page_of r reports) i [] ≡ []
  page_past i k e = past_registers i (suc k) (omega arith)
