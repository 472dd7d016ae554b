-- No two outcomes of a call satisfy its statement.
use mathlib.Core.Path.{◌≡◌, sym, ap, ◌∙◌}
use mathlib.Core.List.{List}
use Prim.Native.Nat.{ℕ}
use lib.ListN.{length}
use Rattle.text.specs.declared.Reader.{Reader}
use Rattle.std.proofs.Common.{Option}
use Rattle.lines.proofs.Answered.{makes_unique}
use Rattle.pages.specs.declared.Written.{Written}
use Rattle.pages.specs.declared.PieceTaken.{PieceTaken}
use Rattle.pages.specs.Writing.{Writes}
use Rattle.pages.specs.Packing.{ended_from, packed_text, packed_said, piece_said, TakesPiece, EndsText}

same_written : (r q : Written) → r.output ≡ q.output → r.said ≡ q.said → r ≡ q
same_written r q e f = ap (λ (x : Option ℕ). record { output = x; said = r.said }) e ∙ ap (λ (x : Option ℕ). record { output = q.output; said = x }) f

pub writes_unique : (text said : List ℕ) (r q : Written) (out errors out' errors' out'' errors'' : List ℕ) → Writes text said r out errors out' errors' → Writes text said q out errors out'' errors''
    → (r ≡ q) × (out' ≡ out'') × (errors' ≡ errors'')
writes_unique text said r q out errors out' errors' out'' errors'' f g =
    let a = makes_unique text out r.output q.output out' out'' f.shown g.shown in
    let b = makes_unique said errors r.said q.said errors' errors'' f.told g.told in
    (same_written r q a.0 b.0, a.1, b.1)

pub take_text_unique : (s : Reader) (text : List ℕ) (r q : PieceTaken) (words errors words' errors' words'' errors'' : List ℕ) → TakesPiece s text r words errors words' errors' → TakesPiece s text q words errors words'' errors''
    → (r ≡ q) × (words' ≡ words'') × (errors' ≡ errors'')
take_text_unique s text r q words errors words' errors' words'' errors'' f g =
    let b = makes_unique (piece_said s text words) errors r.said q.said errors' errors'' f.told g.told in (
      ap (λ (x : Reader). record { reader = x; said = r.said }) (f.reader ∙ sym g.reader) ∙ ap (λ (x : Option ℕ). record { reader = q.reader; said = x }) b.0,
      f.kept ∙ sym g.kept,
      b.1,
    )

pub end_text_unique : (s : Reader) (r q : Written) (words out errors words' out' errors' words'' out'' errors'' : List ℕ) → EndsText s r words out errors words' out' errors' → EndsText s q words out errors words'' out'' errors''
    → (r ≡ q) × (words' ≡ words'') × (out' ≡ out'') × (errors' ≡ errors'')
end_text_unique s r q words out errors words' out' errors' words'' out'' errors'' f g =
    let w = writes_unique (packed_text (ended_from s words) (length out)) (packed_said s (ended_from s words) (length out)) r q out errors out' errors' out'' errors'' f.written g.written in
    (w.0, f.kept ∙ sym g.kept, w.1, w.2)
