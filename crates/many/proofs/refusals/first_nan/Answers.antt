-- `position` stops at the first NaN.
use Rattle.std.proofs.Common.{rules, tests, ◌≡◌, ◌∙◌, true, false, is_nan}
use Rattle.std.proofs.lemmas.Iterator.{YieldsList-from_slice, IsFirst-from_position}
use Rattle.many.proofs.Scan.{nan_found}
use Rattle.many.proofs.refusals.first_nan.Goals as goal

pub returns : goal.returns
returns c = c.unwrap_or.ensures ∙ nan_found c.args.xs.now c.position.result
    (IsFirst-from_position _ _ _ (λ x. is_nan x ≡ true) (λ x. is_nan x ≡ false) c.position.ensures.ran
    (YieldsList-from_slice c.args.xs.now cc) (λ x q k. search (rules, tests)) (λ x q k. search (rules, tests)))
