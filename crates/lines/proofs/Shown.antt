-- The lines of document 01's example, and the length of a page.
use mathlib.Core.Path.{◌≡◌, refl, ap, ◌∙◌}
use mathlib.Core.List.{List, [], ◌∷◌}
use Prim.Native.Nat.{ℕ, ◌+◌}
use lib.ListN.{length, replicate, length-append}
use Rattle.choice.specs.Text.{hex, decimal}
use Rattle.machine.specs.declared.Waiting.TheVariants.{Nothing}
use Rattle.machine.specs.declared.Registers.{Registers}
use Rattle.run.specs.declared.Ending.TheVariants.{Done, Refused}
use Rattle.run.specs.declared.Ran.{Ran}
use Rattle.lines.specs.Lines.{cycle_line, state_line, register_line, refused_line, last_line}
use Rattle.lines.specs.Pages.{report_line, lines_from, page_of}
use Rattle.lines.proofs.Paged.{length_lines}

-- ACC 1200, status 03, and else 0
abbrev ended : Registers
ended = record { ram = replicate 32 0; acc = 0x1200; latch = 0; status = 3; waiting = Nothing }

-- "0 0000 0000 0 -", "1 12FF FFFF - 0" and "2 0000 00FF - 3"
pub cycle_lines :
    (cycle_line 0 0 0 0 16 ≡ 48 ∷ 32 ∷ 48 ∷ 48 ∷ 48 ∷ 48 ∷ 32 ∷ 48 ∷ 48 ∷ 48 ∷ 48 ∷ 32 ∷ 48 ∷ 32 ∷ 45 ∷ 10 ∷ [])
    × (cycle_line 1 0x12FF 0xFFFF 2 0 ≡ 49 ∷ 32 ∷ 49 ∷ 50 ∷ 70 ∷ 70 ∷ 32 ∷ 70 ∷ 70 ∷ 70 ∷ 70 ∷ 32 ∷ 45 ∷ 32 ∷ 48 ∷ 10 ∷ [])
    × (cycle_line 2 0 0x00FF 2 3 ≡ 50 ∷ 32 ∷ 48 ∷ 48 ∷ 48 ∷ 48 ∷ 32 ∷ 48 ∷ 48 ∷ 70 ∷ 70 ∷ 32 ∷ 45 ∷ 32 ∷ 51 ∷ 10 ∷ [])
unfolding hex decimal cycle_line
cycle_lines = (refl, refl, refl)

-- "acc 1200 d 0000 st 03 wait -"
pub state_line_lem :
    state_line ended
    ≡ 97 ∷ 99 ∷ 99 ∷ 32 ∷ 49 ∷ 50 ∷ 48 ∷ 48 ∷ 32 ∷ 100 ∷ 32 ∷ 48 ∷ 48 ∷ 48 ∷ 48 ∷ 32 ∷ 115 ∷ 116 ∷ 32 ∷ 48 ∷ 51 ∷ 32 ∷ 119 ∷ 97 ∷ 105 ∷ 116 ∷ 32 ∷ 45 ∷ 10 ∷ []
unfolding hex state_line
state_line_lem = refl

-- "r05 0001", and nothing for a register that is 0
pub register_lines : (register_line 5 1 ≡ 114 ∷ 48 ∷ 53 ∷ 32 ∷ 48 ∷ 48 ∷ 48 ∷ 49 ∷ 10 ∷ []) × (register_line 5 0 ≡ [])
unfolding hex register_line
register_lines = (refl, refl)

-- "done 3", and "refused 10 at 4095" with both numbers in decimal
pub last_lines :
    (last_line Done 3 ≡ 100 ∷ 111 ∷ 110 ∷ 101 ∷ 32 ∷ 51 ∷ 10 ∷ [])
    × (last_line (Refused 10 4095) 4095
    ≡ 114 ∷ 101 ∷ 102 ∷ 117 ∷ 115 ∷ 101 ∷ 100 ∷ 32 ∷ 49 ∷ 48 ∷ 32 ∷ 97 ∷ 116 ∷ 32 ∷ 52 ∷ 48 ∷ 57 ∷ 53 ∷ 10 ∷ [])
unfolding decimal refused_line last_line
last_lines = (refl, refl)

-- a page has the accepted cycles' lines and 34 more
pub page_length : (r : Ran) (reports : List ℕ) → length (page_of r reports) ≡ r.accepted + 34
unfolding page_of
page_length r reports = length-append (lines_from (report_line reports) 0 r.accepted) _ ∙ ap (λ (n : ℕ). n + 34) (length_lines (report_line reports) 0 r.accepted)
