-- `position` stops at the first knot that is too large. Assumes nothing.
use Rattle.std.proofs.Common.{rules, tests, ◌≡◌, true, false}
use Rattle.std.proofs.lemmas.Iterator.{YieldsList-from_slice, IsFirst-from_position}
use Rattle.valve.specs.Mix.{held, small}
use Rattle.valve.proofs.Refusals.{large_found}
use Rattle.valve.proofs.first_large.Goals as goal

pub returns : goal.returns
returns c = large_found c.args.knots.now c.position.result c.requires
    (IsFirst-from_position _ _ _ (λ z. small (held z) ≡ false) (λ z. small (held z) ≡ true) c.position.ensures.ran
    (YieldsList-from_slice c.args.knots.now cc) (λ x q k. search (rules, tests)) (λ x q k. search (rules, tests)))
