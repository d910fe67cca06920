-- The rows in the order of the table: lengths, target and place, precision, segment, knots.
use Rattle.error.proofs.Exits.{exit}
use mathlib.Core.Path.{sym, ◌∙◌}
use native.Mathlib.Omega.{arith}
use Rattle.checks.proofs.Verdicts.{length_passed}
use Rattle.claim.proofs.Cases.{claim_stops, claim_target, claim_place, claim_precision, claim_segment, claim_knots}
use Rattle.claim.proofs.refusals.verdict.Goals as goal

pub returns-in_err-curve_length : goal.returns-in_err-curve_length
returns-in_err-curve_length c = exit _ _ c.from_residual.ensures.1 ∙ sym c.in_err-curve_length.was
    ∙ (claim_stops c.args.b c.args.y c.args.s c.args.x c.args.precision c.args.knots.now
    c.curve_length.ensures c.in_err-curve_length.was)

pub returns-then-y : goal.returns-then-y
returns-then-y c = claim_target c.args.b c.args.y c.args.s c.args.x c.args.precision c.args.knots.now
    c.curve_length.ensures c.in_ok-curve_length.was c.if-y.true

pub returns-then-x : goal.returns-then-x
returns-then-x c = claim_place c.args.b c.args.y c.args.s c.args.x c.args.precision c.args.knots.now
    c.curve_length.ensures c.in_ok-curve_length.was c.if-y.false c.if-x.true

pub returns-then-not-is_precise : goal.returns-then-not-is_precise
returns-then-not-is_precise c = claim_precision c.args.b c.args.y c.args.s c.args.x c.args.precision c.args.knots.now
    c.curve_length.ensures c.in_ok-curve_length.was
    c.if-y.false c.if-x.false (sym c.is_precise.ensures ∙ c.if-not-is_precise.true)

pub segments-requires : goal.segments-requires
segments-requires c = (length_passed c.args.b _
    (sym c.curve_length.ensures ∙ c.in_ok-curve_length.was)).least

pub returns-then-segments-s : goal.returns-then-segments-s
returns-then-segments-s c = claim_segment c.args.b c.args.y c.args.s c.args.x c.args.precision c.args.knots.now
    c.curve_length.ensures c.in_ok-curve_length.was
    c.if-y.false c.if-x.false
    (sym c.is_precise.ensures ∙ c.if-not-is_precise.false) c.segments.ensures c.if-segments-s.true

pub knots-requires : goal.knots-requires
knots-requires c = (length_passed c.args.b _
    (sym c.curve_length.ensures ∙ c.in_ok-curve_length.was)).most

pub returns : goal.returns
returns c = claim_knots c.args.b c.args.y c.args.s c.args.x c.args.precision c.args.knots.now
    c.curve_length.ensures c.in_ok-curve_length.was
    c.if-y.false c.if-x.false
    (sym c.is_precise.ensures ∙ c.if-not-is_precise.false)
    c.segments.ensures (omega (arith, c.if-segments-s.false)) c.knots.ensures
