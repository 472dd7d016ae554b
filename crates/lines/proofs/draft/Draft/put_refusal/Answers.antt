-- `lines::draft::Draft::put_refusal` meets its contract: the number, the place, the reason and the end.
use Rattle.std.proofs.Common.{append_assoc}
use Rattle.lines.proofs.draft.Draft.put_refusal.Goals as goal

pub returns : goal.returns
returns g c = rw (c.put-2.ensures.text, c.put.ensures.text, c.put_place.ensures.text, c.put_number.ensures.text, c.meaning_of-subject.ensures.why, c.meaning_of-subject.ensures.subject) (simp append_assoc)
