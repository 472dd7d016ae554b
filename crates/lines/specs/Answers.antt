-- What a function that makes a line answers, and what it leaves in the lent slice. Document 01 has no such calls: they are ours.
use Rattle.std.specs.Prelude.{◌≡◌, ℕ, List, ◌++◌, leb, length, drop, Option, Some, None}
use Rattle.choice.specs.Pick.{pick}

-- an answer and the lent slice, which has room if it is at least as long as the text: how many bytes the text has, or nothing where there is no
-- room; and the text and then the slice as it was, or all as it was
pub record Makes (text : List ℕ) (r : Option ℕ) (before after : List ℕ) : Type 0 where
  pub told : r ≡ pick (leb (length text) (length before)) (Some (length text)) None
  pub written : after ≡ pick (leb (length text) (length before)) (text ++ drop (length text) before) before
