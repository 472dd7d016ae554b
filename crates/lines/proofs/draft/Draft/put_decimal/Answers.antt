-- `lines::draft::Draft::put_decimal` meets its contract: twenty digits, and of them those from the first on that is not a zero.
use Rattle.std.proofs.Common.{append_assoc}
use Rattle.choice.specs.Text.{decimal}
use Rattle.lines.proofs.draft.Draft.put_decimal.Goals as goal

pub returns-clause-text : goal.returns-clause-text
unfolding decimal
returns-clause-text g c = rw (c.put_byte.ensures.text, c.put.ensures.text, c.trimmed.ensures, c.text.ensures, c.put_numeral.ensures.text, c.new-number.ensures) (simp append_assoc)
