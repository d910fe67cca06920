-- Each way out is the first of the two rows that applies, with its place; the quick scan only tells that neither does.
use Rattle.error.proofs.Exits.{exit}
use mathlib.Core.Path.{sym, ◌∙◌}
use Rattle.checks.specs.Checks.{all_in_range, first_bad}
use Rattle.inverse_order.specs.Order.{turns_back, turning_knot}
use Rattle.inverse_order.proofs.Verdicts.{knots_unchecked, knots_sound, knots_stop, knots_turn}
use Rattle.inverse_order.proofs.knots_verdict.Goals as goal

pub returns-then-not-check : goal.returns-then-not-check
returns-then-not-check c = let a = c.args in
    let ks = a.knots.now in
    knots_unchecked (first_bad ks) (turning_knot ks) (all_in_range ks) (turns_back ks) a.check c.knots.ensures (c.if-not-check.true)

pub returns-then-is_sound : goal.returns-then-is_sound
returns-then-is_sound c = let a = c.args in
    let ks = a.knots.now in
    knots_sound (first_bad ks) (turning_knot ks) (all_in_range ks) (turns_back ks) a.check (sym c.is_sound.ensures ∙ c.if-is_sound.true)

pub returns-in_err-knots : goal.returns-in_err-knots
returns-in_err-knots c = exit _ _ c.from_residual.ensures.1 ∙ sym c.in_err-knots.was ∙ (let a = c.args in
    let ks = a.knots.now in
    knots_stop (first_bad ks) (turning_knot ks) (all_in_range ks) (turns_back ks) a.check c.knots-2.ensures c.in_err-knots.was)

pub returns : goal.returns
returns c = let a = c.args in
    let ks = a.knots.now in
    knots_turn (first_bad ks) (turning_knot ks) (all_in_range ks) (turns_back ks) a.check c.knots-2.ensures c.in_ok-knots.was
    (c.if-not-check.false) (sym c.is_sound.ensures ∙ c.if-is_sound.false) c.turning_knot.ensures
