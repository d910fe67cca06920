-- The multiples, and the end.
use Rattle.std.proofs.Common.{arith}
use Rattle.text.proofs.Pens.{within, chained}
use Rattle.ask_verdict.proofs.Texts.{as_told, still}
use Rattle.ask_answers.proofs.Answers.{every_short, every_none, every_told}
use Rattle.ask_answers.proofs.put_every.Goals as goal

pub returns-then-n-lt60 : goal.returns-then-n-lt60
returns-then-n-lt60 c = as_told (every_short c.args.b c.args.knots.now c.args.span c.args.n (omega arith))
    (within 57640 c.put_refused.ensures (omega arith))

pub returns-then-span-lt1 : goal.returns-then-span-lt1
returns-then-span-lt1 c = as_told (every_none c.args.b c.args.knots.now c.args.span c.args.n (omega arith) (omega arith))
    (within 57640 c.put_refused-then-span-lt1.ensures (omega arith))

pub returns-else-span-lt1 : goal.returns-else-span-lt1
returns-else-span-lt1 c = as_told (every_told c.args.b c.args.knots.now c.args.span c.args.n (omega arith) (omega arith))
    (chained c.put_multiples.ensures c.put_moment.ensures)
