-- `lines::draft::Draft::put_hex` meets its contract: two texts.
use Rattle.std.proofs.Common.{append_assoc}
use Rattle.lines.proofs.draft.Draft.put_hex.Goals as goal

pub returns-clause-text : goal.returns-clause-text
returns-clause-text g c = rw (c.put_word.ensures.text, c.put.ensures.text) (simp append_assoc)
