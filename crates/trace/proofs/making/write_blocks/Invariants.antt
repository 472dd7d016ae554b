-- `trace::making::write_blocks` meets its contract: the loop of proofs/Written.
use mathlib.Core.Path.{◌≡◌}
use Rattle.std.specs.Iterator.Adapters.{enumerate_source, enumerate_count}
use Rattle.std.specs.Slice.Iter.{chunks_rest, chunks_size}
use Rattle.trace.proofs.Written.{Before}
use Rattle.trace.proofs.making.write_blocks.Given as goal

abbrev pub invariant-loop-k : goal.invariant-loop-k
invariant-loop-k l =
    (chunks_size (enumerate_source l.k-iterator) ≡ 252) × Before 3 l.words l.initial.trace l.trace (chunks_rest (enumerate_source l.k-iterator)) (enumerate_count l.k-iterator)
