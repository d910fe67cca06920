-- The parts, one after another.
use Rattle.std.proofs.Common.{arith}
use Rattle.text.proofs.Pens.{within, chained}
use Rattle.picture_notes.proofs.put_note.Goals as goal

pub returns : goal.returns
returns c = rw (← c.number.ensures) (within 160 (chained (chained (chained (chained c.put_number.ensures c.word.ensures) c.word-2.ensures)
    c.put_number-2.ensures) c.put_tail.ensures)
    (omega (arith, c.requires.who)))
