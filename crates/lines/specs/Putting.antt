-- For the laws of private parts alone, those that put text: text put at a place of a longer text that is being made. There is room for it. It follows
-- from what each method of a `Draft` says of its text (proofs/Putting, `draft_puts`).
use Rattle.std.specs.Prelude.{◌≡◌, ℕ, ◌+◌, List, ◌++◌, length, take, drop}

-- from `at` to r stands the text, before it what was there, and after it too
pub record Puts (text : List ℕ) (at r : ℕ) (before after : List ℕ) : Type 0 where
  pub end : r ≡ at + length text
  pub put : take r after ≡ take at before ++ text
  pub rest : drop r after ≡ drop r before
