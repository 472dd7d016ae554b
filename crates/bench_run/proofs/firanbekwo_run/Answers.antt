-- `bench_run::firanbekwo_run` meets its contract: the count is that of the run's answer.
use mathlib.Core.Path.{ap}
use Rattle.run.specs.Runs.{Summary}
use Rattle.bench_run.proofs.firanbekwo_run.Goals as goal

pub returns : goal.returns
returns c = record { accepted = ap (λ (s : Summary). s.accepted) c.run_from_zero-ran.ensures.answer; written = c.run_from_zero-ran.ensures.written }
