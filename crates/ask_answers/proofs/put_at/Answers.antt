-- Within the span, or 14.
use Rattle.std.proofs.Common.{arith}
use Rattle.text.proofs.Pens.{within, chained}
use Rattle.ask_verdict.proofs.Texts.{as_told, still}
use Rattle.ask_answers.proofs.Answers.{at_none, at_beyond, at_told}
use Rattle.ask_answers.proofs.put_at.Goals as goal

pub returns-then-span-lt1 : goal.returns-then-span-lt1
returns-then-span-lt1 c = as_told (at_none c.args.b c.args.knots.now c.args.span c.args.n (omega arith)) (within 40 c.put_refused.ensures (omega arith))

pub returns-then-span-n : goal.returns-then-span-n
returns-then-span-n c = as_told (at_beyond c.args.b c.args.knots.now c.args.span c.args.n (omega arith) (omega arith))
    (within 40 c.put_refused-then-span-n.ensures (omega arith))

pub returns-else-span-n : goal.returns-else-span-n
returns-else-span-n c = as_told (at_told c.args.b c.args.knots.now c.args.span c.args.n (omega arith) (omega arith)) c.put_moment.ensures
