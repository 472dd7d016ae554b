-- `Files::write_both`: where the output does not go out, that is said before what there is to say.
use Rattle.std.proofs.Common.{inl, inr}
use Rattle.std.proofs.KnownBytes.{Appends-trans}
use Rattle.files.proofs.Files.write_both.Goals as goal
use Rattle.files.proofs.Files.write_both.Goals.{in-Err, in_default}

pub returns-clause-both : goal.returns-clause-both
returns-clause-both g c = elim c.match-write_made.branch [
  | in-Err w ↦
      let (m, refused) = w.say.ensures in
      let (n, told) = rw w.self-is at c.write_made-2.ensures.start in
      inr (rw w.self-is c.write_made.ensures.start, (m, (n, Appends-trans _ _ _ _ _ refused told)))
  | in_default w ↦
      let told = rw w.self-is at c.write_made-2.ensures.start in
      inl (w.in_default.ensures.whole, rw w.self-is w.in_default.ensures.all, told)
]
