-- The verdict is the definition's. Where it passed it tells what the search asks for: lengths, a target that is no NaN, knots in range.
use Rattle.error.proofs.Exits.{exit}
use mathlib.Core.Path.{sym, ◌∙◌}
use Rattle.inverse.proofs.Verdicts.{admitted, refused_is, answer_is}
use Rattle.inverse.proofs.spline_inverse_by.Goals as goal

pub locate-requires : goal.locate-requires
locate-requires c = let p = admitted c.args.b c.args.y c.args.knots.now c.args.o.check c.args.o.limit
    c.args.o.precision (sym c.verdict.ensures ∙ c.in_ok-verdict.was) in
    record { enough = p.long; most = p.short; number = p.number; range = p.in_range_lem }

pub returns-in_err-verdict : goal.returns-in_err-verdict
returns-in_err-verdict c = exit _ _ c.from_residual.ensures.1 ∙ (refused_is c.args.o.ends c.args.o.method c.args.b c.args.y c.args.knots.now c.args.o.check
    c.args.o.limit c.args.o.precision c.verdict.ensures c.in_err-verdict.was)

pub returns : goal.returns
returns c = answer_is c.args.o.ends c.args.o.method c.args.b c.args.y c.args.knots.now c.args.o.check
    c.args.o.limit c.args.o.precision c.verdict.ensures c.in_ok-verdict.was c.locate.ensures
