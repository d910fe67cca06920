-- The parts, one after another.
use Rattle.std.proofs.Common.{arith}
use Rattle.text.proofs.Pens.{within, chained}
use Rattle.picture_axes.proofs.put_time.Goals as goal

pub returns : goal.returns
returns c = rw (← c.time_column-x.ensures) (within 128 (chained (chained (chained (chained c.put_number.ensures c.put_number-2.ensures) c.word.ensures)
    c.put_label.ensures) c.word-2.ensures) (omega arith))
