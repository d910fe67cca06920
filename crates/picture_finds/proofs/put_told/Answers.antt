-- The parts, one after another.
use Rattle.std.proofs.Common.{arith}
use Rattle.text.proofs.Pens.{within, chained}
use Rattle.picture_finds.proofs.put_told.Goals as goal

pub returns : goal.returns
returns c = rw (← c.saturating_sub-top.ensures, ← c.saturating_sub-left.ensures) (within 128 (chained (chained (chained (chained (chained (chained
    c.put_number.ensures c.word.ensures) c.put_label.ensures) c.put_number-2.ensures) c.word-2.ensures) c.put_label-2.ensures) c.word-3.ensures) (omega
    arith))
