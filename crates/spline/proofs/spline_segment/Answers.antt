-- The verdict is the definition's. Where it passed, it tells that there are four knots, which is what the value's function asks for.
use Rattle.error.proofs.Exits.{exit}
use Rattle.std.specs.Prelude.{Ok}
use mathlib.Core.Path.{sym, ap, ◌∙◌}
use Rattle.spline.specs.Evaluation.{spline_segment_of}
use Rattle.spline.proofs.Verdicts.{segment_sound}
use Rattle.spline.proofs.spline_segment.Goals as goal

pub segment_value-requires : goal.segment_value-requires
segment_value-requires c = (segment_sound c.args.x c.args.cv.now (sym c.segment_verdict.ensures ∙ c.in_ok-segment_verdict.was)).many

pub returns-in_err-segment_verdict : goal.returns-in_err-segment_verdict
unfolding spline_segment_of
returns-in_err-segment_verdict c = exit _ _ c.from_residual.ensures.1 ∙ (simp (sym c.segment_verdict.ensures ∙ c.in_err-segment_verdict.was))

pub returns : goal.returns
unfolding spline_segment_of
returns c = rw (sym c.segment_verdict.ensures ∙ c.in_ok-segment_verdict.was) (ap Ok c.segment_value.ensures)
