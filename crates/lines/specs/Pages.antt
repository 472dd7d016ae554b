-- What is printed of a run, line after line (document 01, examples).
use Rattle.std.specs.Prelude.{ℕ, zero, suc, ◌+◌, ◌*◌, List, [], ◌∷◌, ◌++◌, get_or}
use Rattle.run.specs.declared.Ran.{Ran}
use Rattle.run.specs.Splitting.{words_per_report}
use Rattle.lines.specs.Lines.{cycle_line, state_line, register_line, last_line}

-- the line of cycle i, by its report
abbrev pub report_line : List ℕ → ℕ → List ℕ
report_line reports i =
    cycle_line i (get_or reports (words_per_report * i) 0) (get_or reports (words_per_report * i + 1) 0) (get_or reports (words_per_report * i + 2) 0) (get_or reports (words_per_report * i + 3) 0)

-- n lines, from number i on
abbrev pub lines_from : (ℕ → List ℕ) → ℕ → ℕ → List (List ℕ)
lines_from line i zero = []
lines_from line i (suc n) = line i ∷ lines_from line (i + 1) n

-- RAM has 32 registers (document 01, the machine)
abbrev pub register_count : ℕ
register_count = 32

-- the accepted cycles, the state, the registers, of which one that is 0 has no text, and the end
unfoldable pub page_of : Ran → List ℕ → List (List ℕ)
page_of r reports =
    lines_from (report_line reports) 0 r.accepted
    ++ state_line r.machine.registers
    ∷ (lines_from (λ (k : ℕ). register_line k (get_or r.machine.registers.ram k 0)) 0 register_count ++ last_line r.ending r.accepted ∷ [])
