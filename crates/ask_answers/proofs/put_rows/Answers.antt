-- Two labels, the end of the line.
use Rattle.std.proofs.Common.{arith}
use Rattle.text.proofs.Pens.{within, chained}
use Rattle.ask_answers.proofs.put_rows.Goals as goal

pub returns : goal.returns
returns c = within 35 (chained c.put_start.ensures (chained c.put_start-2.ensures c.byte.ensures)) (omega arith)
