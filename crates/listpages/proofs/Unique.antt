-- No two outcomes of a call satisfy its statement.
use mathlib.Core.Path.{◌≡◌, sym, ap, ◌∙◌}
use mathlib.Core.List.{List}
use Prim.Native.Nat.{ℕ}
use Rattle.std.proofs.Common.{Option}
use Rattle.lines.proofs.Answered.{makes_unique}
use Rattle.listpages.specs.declared.Reading.{Reading}
use Rattle.listpages.specs.declared.LinesRead.{LinesRead}
use Rattle.listpages.specs.Answering.{piece_lines, answers_of, ReadsLines}

pub read_lines_unique : (s : Reading) (bytes : List ℕ) (r q : LinesRead) (out out' out'' : List ℕ) → ReadsLines s bytes r out out' → ReadsLines s bytes q out out'' → (r ≡ q) × (out' ≡ out'')
read_lines_unique s bytes r q out out' out'' f g =
    let m = makes_unique (answers_of s (piece_lines bytes)) out r.output q.output out' out'' f.written g.written in
    (ap (λ (x : Reading). record { reading = x; output = r.output }) (f.reading ∙ sym g.reading) ∙ ap (λ (x : Option ℕ). record { reading = q.reading; output = x }) m.0, m.1)
