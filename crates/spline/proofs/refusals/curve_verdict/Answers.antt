-- Each way out is the first row that applies: a length, then NaN, then the row of the knots.
use mathlib.Core.Path.{sym, ◌∙◌}
use Rattle.error.proofs.Exits.{exit}
use Rattle.checks.proofs.Verdicts.{length_passed}
use Rattle.spline.proofs.Verdicts.{curve_stops, curve_number, curve_knots}
use Rattle.spline.proofs.refusals.curve_verdict.Goals as goal

pub returns-in_err-curve_length : goal.returns-in_err-curve_length
returns-in_err-curve_length c = let a = c.args in
    exit _ _ c.from_residual.ensures.1 ∙ sym c.in_err-curve_length.was ∙ curve_stops a.b a.x a.knots.now c.curve_length.ensures c.in_err-curve_length.was

pub returns-then-x : goal.returns-then-x
returns-then-x c = let a = c.args in
    curve_number a.b a.x a.knots.now c.curve_length.ensures c.in_ok-curve_length.was c.if-x.true

pub knots-requires : goal.knots-requires
knots-requires c = (length_passed c.args.b _ (sym c.curve_length.ensures ∙ c.in_ok-curve_length.was)).most

pub returns : goal.returns
returns c = let a = c.args in
    curve_knots a.b a.x a.knots.now c.curve_length.ensures c.in_ok-curve_length.was c.if-x.false c.knots.ensures
