-- The verdict is the definition's. Where it passed, it tells that the lengths suit, which is what the value's function asks for.
use Rattle.error.proofs.Exits.{exit}
use mathlib.Core.Path.{sym, ◌∙◌}
use Rattle.spline.specs.Evaluation.{spline_of}
use Rattle.spline.proofs.Verdicts.{curve_sound}
use Rattle.spline.proofs.spline.Goals as goal

pub curve_value-requires : goal.curve_value-requires
curve_value-requires c = let s =
    curve_sound c.args.b c.args.x
    c.args.knots.now (sym c.curve_verdict.ensures ∙ c.in_ok-curve_verdict.was)
    in record { enough = s.many; most = s.few }

pub returns-in_err-curve_verdict : goal.returns-in_err-curve_verdict
unfolding spline_of
returns-in_err-curve_verdict c = exit _ _ c.from_residual.ensures.1 ∙ (simp (sym c.curve_verdict.ensures ∙ c.in_err-curve_verdict.was))

pub returns : goal.returns
unfolding spline_of
returns c = simp (sym c.curve_verdict.ensures ∙ c.in_ok-curve_verdict.was, c.curve_value.ensures)
