-- The parts, one after another.
use Rattle.std.proofs.Common.{arith}
use Rattle.text.proofs.Pens.{within, chained}
use Rattle.picture_notes.proofs.put_knot_tail.Goals as goal

pub returns : goal.returns
returns c = rw (← c.knot_column-x.ensures.answer) (within 80 (chained (chained c.put_number.ensures c.put_number-2.ensures) c.word.ensures) (omega arith))
