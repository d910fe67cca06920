-- The lengths' rows, then the later ones. Assumes nothing.
use Rattle.error.proofs.Exits.{exit}
use mathlib.Core.Path.{sym, ◌∙◌}
use Rattle.checks.proofs.Verdicts.{length_passed}
use Rattle.convert_strict.proofs.Verdicts.{allowed_stops, allowed_goes_on}
use Rattle.convert_strict.proofs.refusals.allowed_verdict.Goals as goal

pub returns-in_err-curve_length : goal.returns-in_err-curve_length
returns-in_err-curve_length c = exit _ _ c.from_residual.ensures.1 ∙ sym c.in_err-curve_length.was ∙ (let a = c.args in
    allowed_stops a.from a.to a.knots.now a.allowance a.room c.curve_length.ensures c.in_err-curve_length.was)

pub later_verdict-requires : goal.later_verdict-requires
later_verdict-requires c = let h = length_passed c.args.from _ (sym c.curve_length.ensures ∙ c.in_ok-curve_length.was) in
    record { enough = h.least; most = h.most }

pub returns : goal.returns
returns c = let a = c.args in
    allowed_goes_on a.from a.to a.knots.now a.allowance a.room c.curve_length.ensures
    c.in_ok-curve_length.was c.later_verdict.ensures
