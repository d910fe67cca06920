-- A number that is no basis writes nothing; for any other the call's contract is carried over to what C sees (`found`).
use mathlib.Core.Path.{ap, ◌∙◌}
use Rattle.claim.specs.Claim.{claim_of}
use Rattle.exports_reply.specs.Replies.{no_basis}
use Rattle.exports_value.specs.Claims.{claimed_reply, holds_left}
use Rattle.exports_reply.proofs.Found.{found}
use Rattle.exports_value.proofs.check_claim.Goals as goal

pub returns : goal.returns
returns c = let old = c.args.holds.now in
    record {
      answer = found no_basis
          (λ b. claimed_reply (claim_of b c.args.y c.args.segment c.args.x c.args.precision c.args.knots.now))
          c.basis_of-c.ensures c.in-Some.is (c.claimed_told.ensures.answer ∙ ap claimed_reply c.check_claim.ensures);
      holds = found old
          (λ b. holds_left (claim_of b c.args.y c.args.segment c.args.x c.args.precision c.args.knots.now) old)
          c.basis_of-c.ensures c.in-Some.is (c.claimed_told.ensures.holds ∙ ap (λ e. holds_left e old) c.check_claim.ensures);
    }
