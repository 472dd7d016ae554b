-- A run told by its reports and the number of accepted cycles alone.
use Rattle.std.specs.Prelude.{◌≡◌, List, ◌++◌, ℕ, length, drop}
use Rattle.run.specs.Courses.{Course, reports_of}

-- the number of a course's steps, and a lent slice after the call: the steps' reports, and then the slice as it was
pub record Counts (c : Course) (r : ℕ) (before after : List ℕ) : Type 0 where
  pub accepted : r ≡ length c.steps
  pub written : after ≡ reports_of c.steps ++ drop (length (reports_of c.steps)) before
