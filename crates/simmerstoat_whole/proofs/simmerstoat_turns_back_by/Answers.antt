-- A number that is no basis writes nothing; for any other the call's contract is carried over to what C sees (`found`). Assumes nothing.
use mathlib.Core.Path.{ap, ◌∙◌}
use Rattle.whole.specs.Held.{held_all}
use Rattle.turns_back.specs.Call.{turns_back_by_of}
use Rattle.exports_reply.specs.Replies.{no_basis}
use Rattle.exports_reply.proofs.Found.{found}
use Rattle.simmerstoat_whole.specs.Replies.{turning_reply, turning_left}
use Rattle.simmerstoat_whole.proofs.simmerstoat_turns_back_by.Goals as goal

pub returns : goal.returns
returns c = let args = c.args in
    let old = args.turning.now in
    let known = c.in-Some.is in
    record {
      answer = found no_basis (λ b. turning_reply (turns_back_by_of b args.up (held_all args.knots.now))) c.basis_of-c.ensures known
          (c.turning_told.ensures.answer ∙ ap turning_reply c.turns_back_by.ensures);
      turning = found old (λ b. turning_left (turns_back_by_of b args.up (held_all args.knots.now)) old) c.basis_of-c.ensures known
          (c.turning_told.ensures.turning ∙ ap (λ t. turning_left t old) c.turns_back_by.ensures);
    }
