-- The verdict is the definition's; then the direction of the ends. Assumes nothing.
use Rattle.error.proofs.Exits.{exit}
use mathlib.Core.Path.{sym, ◌∙◌}
use native.Mathlib.Omega.{arith}
use Rattle.whole.specs.Held.{held_all}
use Rattle.turns_back.specs.Call.{start_of, end_of, by_ends, turns_back_of}
use Rattle.whole.proofs.Held.{long}
use Rattle.turns_back.proofs.Verdicts.{passed, refused, given}
use Rattle.turns_back.proofs.turns_back.Goals as goal

pub by_ends-requires : goal.by_ends-requires
by_ends-requires c = let a = c.args in
    let p = passed a.b (held_all a.knots.now) (sym c.verdict.ensures ∙ c.in_ok-verdict.was) in
    record { enough = omega (arith, p.many, long a.knots.now); few = omega (arith, p.few, long a.knots.now); small = p.small }

pub returns-in_err-verdict : goal.returns-in_err-verdict
unfolding turns_back_of
returns-in_err-verdict c = exit _ _ c.from_residual.ensures.1 ∙ (let a = c.args in
    let z = held_all a.knots.now in
    refused (by_ends (start_of a.b z) (end_of a.b z) a.b z) c.verdict.ensures c.in_err-verdict.was)

pub returns : goal.returns
unfolding turns_back_of
returns c = let a = c.args in
    let z = held_all a.knots.now in
    given (by_ends (start_of a.b z) (end_of a.b z) a.b z) c.verdict.ensures c.in_ok-verdict.was
    c.by_ends.ensures
