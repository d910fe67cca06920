-- The depth, or a refusal.
use Rattle.std.proofs.Common.{arith}
use Rattle.text.proofs.Pens.{within, chained}
use Rattle.ask_verdict.proofs.Texts.{as_told, still}
use Rattle.ask_answers.proofs.Answers.{moment_value, moment_refused}
use Rattle.ask_answers.proofs.put_moment.Goals as goal

pub returns-in-Ok : goal.returns-in-Ok
returns-in-Ok c = as_told (moment_value c.args.b c.args.knots.now c.args.span c.args.n c.spline-e.ensures _ c.in-Ok.is) c.put_value.ensures

pub returns-in-Err : goal.returns-in-Err
returns-in-Err c = as_told (moment_refused c.args.b c.args.knots.now c.args.span c.args.n c.spline-e.ensures _ c.in-Err.is)
    (within 40 c.put_refused.ensures (omega arith))
