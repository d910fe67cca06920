-- The mark, then what is told of it.
use Rattle.std.proofs.Common.{arith}
use Rattle.text.proofs.Pens.{within, chained}
use Rattle.picture_finds.proofs.put_place.Goals as goal

pub returns : goal.returns
returns c = rw (← c.height-h.ensures.answer, ← c.row-row.ensures.answer, ← c.place_column-x.ensures, ← c.time-v.ensures.answer)
    (within 288 (chained c.put_mark.ensures c.put_told.ensures) (omega arith))
