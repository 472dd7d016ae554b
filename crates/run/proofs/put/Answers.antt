-- `run::put` meets its contract: the part that is copied into is the report's.
use mathlib.Core.Path.{◌≡◌, refl}
use native.Mathlib.Omega.{arith}
use Rattle.std.proofs.lemmas.Slice.{put_mid-paste}
use Rattle.run.specs.Splitting.{report_words}
use Rattle.run.proofs.put.Goals as goal

pub returns : goal.returns
returns c =
    let copied : c.copy_from_slice.new.self ≡ report_words c.args.report = rw (c.copy_from_slice.ensures.after, c.into.ensures, c.into-2.ensures) in
    put_mid-paste _ _ _ _ (report_words c.args.report) 4 copied (omega arith) refl
