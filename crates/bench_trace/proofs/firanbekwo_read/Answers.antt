-- `bench_trace::firanbekwo_read` meets its contract: the number is what the reader's answer says is filled.
use mathlib.Core.Path.{◌≡◌, refl, ap, ◌∙◌}
use Prim.Native.Nat.{ℕ}
use Rattle.std.specs.Prelude.{Result, Ok, Err}
use Rattle.std.specs.Result.{result_unwrap_or}
use Rattle.refusals.specs.declared.Refused.{Refused}
use Rattle.trace.specs.Answers.{filled_tells}
use Rattle.bench_trace.specs.Filling.{filled_of}
use Rattle.bench_trace.proofs.firanbekwo_read.Goals as goal

filled_is : (r : Result ℕ Refused) → result_unwrap_or r 0 ≡ filled_of (filled_tells r)
filled_is (Ok n) = refl
filled_is (Err r) = refl

pub returns : goal.returns
returns c =
    let reads = c.read.ensures in
    record { filled = c.unwrap_or.ensures ∙ filled_is c.read.result ∙ ap filled_of reads.told; written = reads.written }
