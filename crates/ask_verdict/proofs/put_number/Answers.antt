-- The word, the number, the end of the line.
use Rattle.std.proofs.Common.{arith}
use Rattle.text.proofs.Pens.{within, chained}
use Rattle.ask_verdict.proofs.put_number.Goals as goal

pub returns : goal.returns
returns c = within _ (chained c.word.ensures (chained c.decimal.ensures c.byte.ensures)) (omega arith)
