-- `lines::draft::Draft::put_word` meets its contract: four digits of base 16, and a byte.
use Rattle.std.proofs.Common.{append_assoc}
use Rattle.choice.specs.Text.{hex}
use Rattle.lines.proofs.draft.Draft.put_word.Goals as goal

pub returns-clause-text : goal.returns-clause-text
unfolding hex
returns-clause-text g c = rw (c.put_byte.ensures.text, c.put_numeral.ensures.text) (simp append_assoc)
