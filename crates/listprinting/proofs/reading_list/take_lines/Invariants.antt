-- `reading_list::take_lines`: what is held stands in the slice.
use Rattle.std.proofs.Common.{◌≡◌, ◌≤◌, length}
use Rattle.listprinting.proofs.reading_list.take_lines.Given as goal

abbrev pub invariant-loop : goal.invariant-loop
invariant-loop g l = (l.held ≤ length l.bytes) × (length l.bytes ≡ length l.initial.bytes)
