-- Each way out is the first row that applies: a length, then a parameter outside 0 to 1, then the row of the knots.
use Rattle.error.proofs.Exits.{exit}
use mathlib.Core.Path.{sym, ◌∙◌}
use Rattle.checks.proofs.Verdicts.{segment_length_passed}
use Rattle.spline.proofs.Verdicts.{segment_stops, segment_outside, segment_knots_lem}
use Rattle.spline.proofs.refusals.segment_verdict.Goals as goal

pub returns-in_err-segment_length : goal.returns-in_err-segment_length
returns-in_err-segment_length c = exit _ _ c.from_residual.ensures.1 ∙ sym c.in_err-segment_length.was ∙ (let a = c.args in
    segment_stops a.x a.cv.now c.segment_length.ensures c.in_err-segment_length.was)

pub returns-then-not-is_inside : goal.returns-then-not-is_inside
returns-then-not-is_inside c = let a = c.args in
    let outside = sym c.is_inside.ensures ∙ c.if-not-is_inside.true in
    segment_outside a.x a.cv.now c.segment_length.ensures c.in_ok-segment_length.was outside

pub knots-requires : goal.knots-requires
knots-requires c = segment_length_passed _ (sym c.segment_length.ensures ∙ c.in_ok-segment_length.was)

pub returns : goal.returns
returns c = let a = c.args in
    let inside = sym c.is_inside.ensures ∙ c.if-not-is_inside.false in
    segment_knots_lem a.x a.cv.now c.segment_length.ensures c.in_ok-segment_length.was inside c.knots.ensures
