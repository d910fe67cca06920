-- Each way out is the first row that applies: those of the length, a NaN, too little room, the row of the knots.
use mathlib.Core.Path.{sym, ◌∙◌}
use Rattle.error.proofs.Exits.{exit}
use Rattle.std.proofs.Common.{length, sym, ◌∙◌, le-ltb, lt-ltb}
use Rattle.checks.proofs.Verdicts.{length_passed}
use Rattle.many.proofs.Verdicts.{many_stops, many_number, many_short, many_knots}
use Rattle.many.proofs.refusals.verdict.Goals as goal

pub returns-in_err-curve_length : goal.returns-in_err-curve_length
returns-in_err-curve_length c = exit _ _ c.from_residual.ensures.1 ∙ sym c.in_err-curve_length.was ∙ (let a = c.args in
    many_stops a.b a.xs.now a.knots.now a.room c.curve_length.ensures c.in_err-curve_length.was)

pub returns-then-some_nan : goal.returns-then-some_nan
returns-then-some_nan c = let a = c.args in
    many_number a.b a.xs.now a.knots.now a.room c.curve_length.ensures
    c.in_ok-curve_length.was (sym c.some_nan.ensures ∙ c.if-some_nan.true)

pub returns-then-room-xs : goal.returns-then-room-xs
returns-then-room-xs c = let a = c.args in
    many_short a.b a.xs.now a.knots.now a.room c.curve_length.ensures
    c.in_ok-curve_length.was (sym c.some_nan.ensures ∙ c.if-some_nan.false)
    (lt-ltb a.room (length a.xs.now) c.if-room-xs.true)

pub knots-requires : goal.knots-requires
knots-requires c = (length_passed c.args.b _ (sym
    c.curve_length.ensures ∙ c.in_ok-curve_length.was)).most

pub returns : goal.returns
returns c = let a = c.args in
    many_knots a.b a.xs.now a.knots.now a.room c.curve_length.ensures
    c.in_ok-curve_length.was (sym c.some_nan.ensures ∙ c.if-some_nan.false)
    (le-ltb a.room (length a.xs.now) c.if-room-xs.false) c.knots.ensures
