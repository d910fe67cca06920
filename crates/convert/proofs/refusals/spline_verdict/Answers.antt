-- A length that fails is told at once (`spline_stops`); otherwise the rows behind the lengths decide (`spline_goes_on`).
use Rattle.error.proofs.Exits.{exit}
use mathlib.Core.Path.{sym, ◌∙◌}
use Rattle.checks.proofs.Verdicts.{length_passed}
use Rattle.convert.proofs.Verdicts.{spline_stops, spline_goes_on}
use Rattle.convert.proofs.refusals.spline_verdict.Goals as goal

pub returns-in_err-curve_length : goal.returns-in_err-curve_length
returns-in_err-curve_length c = exit _ _ c.from_residual.ensures.1 ∙ sym c.in_err-curve_length.was ∙ (let a = c.args in
    spline_stops a.from a.to a.knots.now a.room c.curve_length.ensures c.in_err-curve_length.was)

pub output_length-requires : goal.output_length-requires
output_length-requires c = let h =
    length_passed c.args.from _ (sym c.curve_length.ensures ∙ c.in_ok-curve_length.was) in
    record { enough = h.least; most = h.most }

pub output_verdict-requires : goal.output_verdict-requires
output_verdict-requires c = (length_passed c.args.from _ (sym c.curve_length.ensures ∙ c.in_ok-curve_length.was)).most

pub returns : goal.returns
returns c = let a = c.args in
    spline_goes_on a.from a.to a.knots.now a.room c.curve_length.ensures c.in_ok-curve_length.was
    c.output_length.ensures c.output_verdict.ensures
