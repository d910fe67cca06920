-- A length that fails is told at once (`segment_stops`); otherwise the rows behind the lengths decide (`segment_goes_on`).
use Rattle.error.proofs.Exits.{exit}
use mathlib.Core.Path.{sym, ◌∙◌}
use Rattle.checks.proofs.Verdicts.{segment_length_passed}
use Rattle.convert.proofs.Verdicts.{segment_stops, segment_goes_on}
use Rattle.convert.proofs.refusals.segment_verdict.Goals as goal

pub returns-in_err-segment_length : goal.returns-in_err-segment_length
returns-in_err-segment_length c = exit _ _ c.from_residual.ensures.1 ∙ sym c.in_err-segment_length.was ∙ (let a = c.args in
    segment_stops a.to a.cv.now a.room c.segment_length.ensures c.in_err-segment_length.was)

pub output_verdict-requires : goal.output_verdict-requires
output_verdict-requires c = segment_length_passed _ (sym c.segment_length.ensures ∙ c.in_ok-segment_length.was)

pub returns : goal.returns
returns c = let a = c.args in
    segment_goes_on a.to a.cv.now a.room c.segment_length.ensures c.in_ok-segment_length.was c.output_verdict.ensures
