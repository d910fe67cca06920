-- The word, the depth, the end of the line.
use Rattle.std.proofs.Common.{arith}
use Rattle.text.proofs.Pens.{within, chained}
use Rattle.ask_answers.proofs.put_side.Goals as goal

pub returns : goal.returns
returns c = within _ (chained c.word.ensures (chained c.put_digits.ensures c.byte.ensures)) (omega arith)
