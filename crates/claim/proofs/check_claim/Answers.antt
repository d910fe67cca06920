-- A passed verdict says that the segment has its knots; the test is the answer.
use mathlib.Core.Path.{sym, ◌∙◌}
use Rattle.error.proofs.Exits.{exit}
use Rattle.claim.proofs.Cases.{sound, refused_is, answer_is}
use Rattle.claim.proofs.check_claim.Goals as goal

pub is_accepted-requires : goal.is_accepted-requires
is_accepted-requires c = let s =
    sound c.args.b c.args.y c.args.s
    c.args.x c.args.precision
    c.args.knots.now c.verdict.ensures c.in_ok-verdict.was in record { inside = s.four; most = s.few }

pub returns-in_err-verdict : goal.returns-in_err-verdict
returns-in_err-verdict c = exit _ _ c.from_residual.ensures.1 ∙ (refused_is c.args.b c.args.y c.args.s c.args.x c.args.precision c.args.knots.now
    c.verdict.ensures c.in_err-verdict.was)

pub returns : goal.returns
returns c = answer_is c.args.b c.args.y c.args.s c.args.x c.args.precision c.args.knots.now c.verdict.ensures c.in_ok-verdict.was c.is_accepted.ensures
