-- `reading::count_rest`: what is kept stays short, and counts what was taken.
use Rattle.std.proofs.Common.{◌≡◌, ℕ, ◌+◌, ◌<◌, List, length}
use Rattle.std.specs.Io.KnownBytes.{Consumes}
use Rattle.trace.specs.Layout.{words_per_record, block_bytes}
use Rattle.trace.specs.Limits.{too_long, kept_length}
use Rattle.files.proofs.reading.count_rest.Given as goal

abbrev pub invariant-loop : goal.invariant-loop
invariant-loop g l =
    (l.kept < too_long words_per_record + block_bytes)
    × ((taken : List ℕ)
    × Consumes (g.R.Read.remaining l.initial.input) (g.R.Read.remaining l.input) taken
    × (l.kept ≡ kept_length words_per_record (l.first + length taken)))
