-- The word, the depth, when, and the two rows.
use Rattle.std.proofs.Common.{arith}
use Rattle.text.proofs.Pens.{within, chained}
use Rattle.ask_answers.proofs.put_reached.Goals as goal

pub returns : goal.returns
returns c = within 86 (chained c.word.ensures (chained c.put_digits.ensures (chained c.byte.ensures
    (chained c.put_when.ensures c.put_rows.ensures)))) (omega arith)
