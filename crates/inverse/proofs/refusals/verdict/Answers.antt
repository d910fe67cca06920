-- Each way out is the first row that applies: a length, what is asked, the two rows of the knots.
use Rattle.error.proofs.Exits.{exit}
use mathlib.Core.Path.{sym, ◌∙◌}
use Rattle.checks.proofs.Verdicts.{length_passed}
use Rattle.inverse.proofs.Verdicts.{by_length, by_asked, by_knots}
use Rattle.inverse.proofs.refusals.verdict.Goals as goal

pub returns-in_err-curve_length : goal.returns-in_err-curve_length
returns-in_err-curve_length c = exit _ _ c.from_residual.ensures.1 ∙ sym c.in_err-curve_length.was ∙ (let a = c.args in
    by_length a.b a.y a.knots.now a.check a.limit a.precision c.curve_length.ensures c.in_err-curve_length.was)

pub returns-in_err-asked : goal.returns-in_err-asked
returns-in_err-asked c = exit _ _ c.from_residual-in_err-asked.ensures.1 ∙ sym c.in_err-asked.was ∙ (let a = c.args in
    by_asked a.b a.y a.knots.now a.check a.limit a.precision c.curve_length.ensures
    c.in_ok-curve_length.was c.asked.ensures c.in_err-asked.was)

pub knots_verdict-requires : goal.knots_verdict-requires
knots_verdict-requires c = let p = length_passed c.args.b _ (sym c.curve_length.ensures ∙ c.in_ok-curve_length.was) in
    record { enough = p.least; most = p.most }

pub returns : goal.returns
returns c = let a = c.args in
    by_knots a.b a.y a.knots.now a.check a.limit a.precision c.curve_length.ensures c.in_ok-curve_length.was
    c.asked.ensures c.in_ok-asked.was c.knots_verdict.ensures
