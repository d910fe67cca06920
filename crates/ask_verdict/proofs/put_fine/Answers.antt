-- The word, the number, two depths.
use Rattle.std.proofs.Common.{arith}
use Rattle.text.proofs.Pens.{within, chained}
use Rattle.ask_verdict.specs.Contract.{longest}
use Rattle.ask_verdict.proofs.put_fine.Goals as goal

pub returns : goal.returns
returns c = within longest (chained c.word.ensures (chained c.decimal.ensures (chained c.byte.ensures (chained c.put_depth.ensures
    (chained c.byte-2.ensures (chained c.put_depth-2.ensures c.byte-3.ensures)))))) (omega arith)
