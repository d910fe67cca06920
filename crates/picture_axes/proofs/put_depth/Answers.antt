-- The parts, one after another.
use Rattle.std.proofs.Common.{arith}
use Rattle.text.proofs.Pens.{within, chained}
use Rattle.picture_axes.proofs.put_depth.Goals as goal

pub returns : goal.returns
returns c = rw (← c.row-y.ensures.answer) (within 128 (chained (chained (chained (chained (chained (chained c.put_number.ensures c.word.ensures)
    c.put_size.ensures) c.put_number-2.ensures) c.word-2.ensures) c.put_label.ensures) c.word-3.ensures) (omega arith))
