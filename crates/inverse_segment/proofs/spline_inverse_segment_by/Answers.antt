-- The verdict is the definition's. Where it passed there are four knots, and the answer is the trial's: its place (`place_is`), or 2 evaluations off it
-- (`off_is`).
use mathlib.Core.Path.{sym, ◌∙◌}
use Rattle.error.proofs.Exits.{exit}
use Rattle.inverse_segment.specs.Method.{rule_of}
use Rattle.inverse_segment.proofs.Verdicts.{fits_for, refused_is, place_is, off_is}
use Rattle.inverse_segment.proofs.Trying.{on_curve, from_first}
use native.Mathlib.Omega.{arith}
use Rattle.inverse_segment.proofs.spline_inverse_segment_by.Goals as goal

pub enter-t-requires : goal.enter-t-requires
enter-t-requires c = let a = c.args in
    let four =
    fits_for (rule_of a.how) a.b a.y a.cv.now a.limit a.precision c.segment_verdict.ensures c.in_ok-segment_verdict.was in
    record { enough = four; count = omega arith }

pub returns-in_default : goal.returns-in_default
returns-in_default c = let a = c.args in
    off_is (rule_of a.how) a.b a.y a.cv.now a.limit a.precision c.segment_verdict.ensures
    c.in_ok-segment_verdict.was (on_curve a.how a.b a.cv.now a.cv.now a.y a.precision a.limit 0 0
    (from_first a.b a.cv.now) c.enter-t.ensures) c.in_default.is

pub returns-in_err-segment_verdict : goal.returns-in_err-segment_verdict
returns-in_err-segment_verdict c = exit _ _ c.from_residual.ensures.1 ∙ (let a = c.args in
    refused_is (rule_of a.how) a.b a.y a.cv.now a.limit a.precision c.segment_verdict.ensures
    c.in_err-segment_verdict.was)

pub returns : goal.returns
returns c = let a = c.args in
    place_is (rule_of a.how) a.b a.y a.cv.now a.limit a.precision
    c.segment_verdict.ensures c.in_ok-segment_verdict.was
    (on_curve a.how a.b a.cv.now a.cv.now a.y a.precision a.limit 0 0 (from_first a.b a.cv.now)
    c.enter-t.ensures)
    c.in-Inside.is c.place_of.ensures
