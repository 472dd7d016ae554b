-- What is kept of a trace that is read.
use Rattle.std.specs.Prelude.{◌≡◌, ◌<◌, ℕ, List, length}
use Rattle.trace.specs.Layout.{words_per_record}
use Rattle.trace.specs.Limits.{too_long, kept_length}

-- what is kept of an input: all of it, or of one that is too long so many bytes, of whatever value, that it is answered alike
pub record IsKeptOf (input kept : List ℕ) : Type 0 where
  pub size : length kept ≡ kept_length words_per_record (length input)
  pub short : length input < too_long words_per_record → kept ≡ input
