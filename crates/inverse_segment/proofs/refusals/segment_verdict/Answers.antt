-- Each way out is the first row that applies: a length, what is asked, the row of the knots.
use Rattle.error.proofs.Exits.{exit}
use mathlib.Core.Path.{sym, ◌∙◌}
use Rattle.checks.proofs.Verdicts.{segment_length_passed}
use Rattle.inverse_segment.proofs.Verdicts.{by_length, by_asked, by_knots}
use Rattle.inverse_segment.proofs.refusals.segment_verdict.Goals as goal

pub returns-in_err-segment_length : goal.returns-in_err-segment_length
returns-in_err-segment_length c = exit _ _ c.from_residual.ensures.1 ∙ sym c.in_err-segment_length.was ∙ (let a = c.args in
    by_length a.y a.cv.now a.limit a.precision c.segment_length.ensures c.in_err-segment_length.was)

pub returns-in_err-asked : goal.returns-in_err-asked
returns-in_err-asked c = exit _ _ c.from_residual-in_err-asked.ensures.1 ∙ sym c.in_err-asked.was ∙ (let a = c.args in
    by_asked a.y a.cv.now a.limit a.precision c.segment_length.ensures c.in_ok-segment_length.was
    c.asked.ensures c.in_err-asked.was)

pub knots-requires : goal.knots-requires
knots-requires c = segment_length_passed _
    (sym c.segment_length.ensures ∙ c.in_ok-segment_length.was)

pub returns : goal.returns
returns c = let a = c.args in
    by_knots a.y a.cv.now a.limit a.precision c.segment_length.ensures c.in_ok-segment_length.was c.asked.ensures
    c.in_ok-asked.was c.knots.ensures
