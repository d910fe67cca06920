-- The word, the number, the reason.
use Rattle.std.proofs.Common.{arith}
use Rattle.text.proofs.Pens.{within, chained}
use Rattle.ask_verdict.specs.Contract.{longest}
use Rattle.ask_verdict.proofs.put_line.Goals as goal

pub returns : goal.returns
returns c = within longest (chained c.word.ensures (chained c.decimal.ensures c.put_reason.ensures)) (omega arith)
