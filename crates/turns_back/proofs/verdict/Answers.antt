-- Each way out is the first row that applies: a length, then the row of the knots. Assumes nothing.
use Rattle.error.proofs.Exits.{exit}
use mathlib.Core.Path.{sym, ap, ◌∙◌}
use Prim.Native.Nat.{ℕ}
use native.Mathlib.Omega.{arith}
use lib.ListN.{length}
use Rattle.error.specs.Refusals.{first}
use Rattle.checks.specs.Checks.{curve_length}
use Rattle.checks.proofs.Verdicts.{length_passed}
use Rattle.whole.specs.Held.{held_all}
use Rattle.whole.proofs.Held.{long}
use Rattle.turns_back.proofs.Verdicts.{short, too_large, passes}
use Rattle.turns_back.proofs.verdict.Goals as goal

pub returns-in_err-curve_length : goal.returns-in_err-curve_length
returns-in_err-curve_length c = exit _ _ c.from_residual.ensures.1 ∙ sym c.in_err-curve_length.was ∙ (let a = c.args in
    let ks = a.knots.now in
    short a.b (held_all ks) (c.curve_length.ensures ∙ ap (λ (n : ℕ). first (curve_length a.b n)) (sym (long ks)))
    c.in_err-curve_length.was)

pub overflow_cast-result : goal.overflow_cast-result
overflow_cast-result c = let h = length_passed c.args.b (length c.args.knots.now)
    (sym c.curve_length.ensures ∙ c.in_ok-curve_length.was) in
    omega (arith, h, c.in-Some.ensures)

pub returns-in-Some : goal.returns-in-Some
returns-in-Some c = let a = c.args in
    let ks = a.knots.now in
    too_large a.b (held_all ks) (c.curve_length.ensures ∙ ap (λ (n : ℕ). first (curve_length a.b n)) (sym (long ks)))
    c.in_ok-curve_length.was c.in-Some.i c.in-Some.ensures.0 (omega (arith, long ks, c.in-Some.ensures))

pub returns : goal.returns
returns c = let a = c.args in
    let ks = a.knots.now in
    passes a.b (held_all ks) (c.curve_length.ensures ∙ ap (λ (n : ℕ). first (curve_length a.b n)) (sym (long ks)))
    c.in_ok-curve_length.was (omega (arith, long ks, c.in_default.ensures))
