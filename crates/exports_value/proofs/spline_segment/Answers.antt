-- A number that is no basis writes nothing (`unfound`); for any other the call's contract is carried over to what C sees (`found`).
use mathlib.Core.Path.{ap, ◌∙◌}
use Rattle.spline.specs.Evaluation.{spline_segment_of}
use Rattle.exports_reply.specs.Replies.{no_basis, value_left, evaluated_reply}
use Rattle.exports_reply.proofs.Found.{found}
use Rattle.exports_value.proofs.spline_segment.Goals as goal

pub returns : goal.returns
returns c = let args = c.args in
    let known = c.in-Some.is in
    let old = args.value.now in
    record {
      answer = found no_basis (λ b. evaluated_reply (spline_segment_of b args.x args.cv.now)) c.basis_of-c.ensures known
          (c.value_told.ensures.answer ∙ ap evaluated_reply c.spline_segment.ensures);
      value = found old (λ b. value_left (spline_segment_of b args.x args.cv.now) old) c.basis_of-c.ensures known (c.value_told.ensures.value
          ∙ ap (λ e. value_left e old) c.spline_segment.ensures);
    }
