-- The verdict is the definition's; then the first segment that goes against the direction. Assumes nothing.
use Rattle.error.proofs.Exits.{exit}
use mathlib.Core.Path.{sym, ◌∙◌}
use native.Mathlib.Omega.{arith}
use Rattle.whole.specs.Held.{held_all}
use Rattle.turns_back.specs.Call.{turning_of, turns_back_by_of}
use Rattle.whole.proofs.Held.{long}
use Rattle.turns_back.proofs.Verdicts.{passed, refused, given}
use Rattle.turns_back.proofs.turns_back_by.Goals as goal

pub in_direction-requires : goal.in_direction-requires
in_direction-requires c = let a = c.args in
    let p = passed a.b (held_all a.knots.now) (sym c.verdict.ensures ∙ c.in_ok-verdict.was) in
    record { enough = omega (arith, p.many, long a.knots.now); few = omega (arith, p.few, long a.knots.now); small = p.small }

pub returns-in_err-verdict : goal.returns-in_err-verdict
unfolding turns_back_by_of
returns-in_err-verdict c = exit _ _ c.from_residual.ensures.1 ∙ (let a = c.args in
    let z = held_all a.knots.now in
    refused (turning_of a.b a.up z) c.verdict.ensures c.in_err-verdict.was)

pub returns : goal.returns
unfolding turns_back_by_of
returns c = let a = c.args in
    let z = held_all a.knots.now in
    given (turning_of a.b a.up z) c.verdict.ensures c.in_ok-verdict.was c.in_direction.ensures
