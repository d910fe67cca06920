-- A note on either refusal.
use Rattle.std.proofs.Common.{arith, ap, ◌∙◌}
use Rattle.std.specs.Prelude.{Err}
use Rattle.text.proofs.Pens.{within}
use Rattle.picture_finds.proofs.put_found.Goals as goal

pub returns-in-Err-Refused : goal.returns-in-Err-Refused
returns-in-Err-Refused c = rw (c.in-Err-Refused.is ∙ ap Err (rw c.in-Err-Refused.is at c.in-Err-Refused.field-0-is))
    (within 288 c.put_note.ensures (omega arith))

pub returns-in-Err-OffCurve : goal.returns-in-Err-OffCurve
returns-in-Err-OffCurve c = rw (c.in-Err-OffCurve.is ∙ ap Err (rw c.in-Err-OffCurve.is at c.in-Err-OffCurve.field-0-is))
    (within 288 c.put_note-in-Err-OffCurve.ensures (omega arith))
