-- What a call leaves in the two lent slices: text for standard output, and what is said on standard error. Document 01 has no such calls: they
-- are ours.
use Rattle.std.specs.Prelude.{ℕ, List}
use Rattle.lines.specs.Answers.{Makes}
use Rattle.pages.specs.declared.Written.{Written}

-- an answer and both slices, before the call and after it: each has its text and then what it had, or all of it where the text is too long
pub record Writes (text said : List ℕ) (r : Written) (out errors out' errors' : List ℕ) : Type 0 where
  pub shown : Makes text r.output out out'
  pub told : Makes said r.said errors errors'
