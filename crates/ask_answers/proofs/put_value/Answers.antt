-- The word, the second, the depth.
use Rattle.std.proofs.Common.{arith}
use Rattle.text.proofs.Pens.{within, chained}
use Rattle.ask_answers.proofs.put_value.Goals as goal

pub returns : goal.returns
returns c = within 40 (chained c.word.ensures (chained c.decimal.ensures c.put_side.ensures)) (omega arith)
