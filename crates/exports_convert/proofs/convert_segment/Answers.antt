-- A number that is no basis writes nothing (`unfound`); for any other the call's contract is carried over to what C sees (`found`).
use mathlib.Core.Path.{ap, ◌∙◌}
use lib.ListN.{length}
use Rattle.convert.specs.Conversion.{converted_segment_of}
use Rattle.convert.specs.Buffer.{answer_of, buffer_of}
use Rattle.exports_reply.specs.Replies.{chosen_of, no_basis, chosen, converted_reply}
use Rattle.exports_reply.proofs.Found.{found, unfound}
use Rattle.exports_convert.proofs.convert_segment.Goals as goal

pub returns-in_default : goal.returns-in_default
returns-in_default c = let args = c.args in
    let out = args.out.now in
    let unknown = c.in_default.is in record {
      answer = unfound no_basis (λ f. chosen (chosen_of args.to) no_basis (λ t. converted_reply (answer_of (converted_segment_of f t args.cv.now
          (length out)))))
          c.basis_of-c.ensures unknown;
      buffer = unfound out (λ f. chosen (chosen_of args.to) out (λ t. buffer_of (converted_segment_of f t args.cv.now (length out)) out))
          c.basis_of-c.ensures unknown;
    }

pub returns-in_default-d : goal.returns-in_default-d
returns-in_default-d c = let args = c.args in
    let out = args.out.now in
    let known = c.in-Some.is in
    let from = c.in-Some.f in
    let unknown = c.in_default-d.is in record {
      answer = found no_basis (λ f. chosen (chosen_of args.to) no_basis (λ t. converted_reply (answer_of (converted_segment_of f t args.cv.now
          (length out))))) c.basis_of-c.ensures
          known (unfound no_basis (λ t. converted_reply (answer_of (converted_segment_of from t args.cv.now (length out)))) c.basis_of-d.ensures unknown);
      buffer = found out (λ f. chosen (chosen_of args.to) out (λ t. buffer_of (converted_segment_of f t args.cv.now (length out)) out))
          c.basis_of-c.ensures known
          (unfound out (λ t. buffer_of (converted_segment_of from t args.cv.now (length out)) out) c.basis_of-d.ensures unknown);
    }

pub returns : goal.returns
returns c = let args = c.args in
    let out = args.out.now in
    let known = c.in-Some.is in
    let from = c.in-Some.f in
    let known-to = c.in-Some-d.is in
    let reply = c.conversion_reply.ensures ∙ ap converted_reply c.convert_segment.ensures.answer in
    record {
      answer = found no_basis (λ f. chosen (chosen_of args.to) no_basis (λ t. converted_reply (answer_of (converted_segment_of f t args.cv.now
          (length out))))) c.basis_of-c.ensures
          known (found no_basis (λ t. converted_reply (answer_of (converted_segment_of from t args.cv.now (length out)))) c.basis_of-d.ensures known-to reply);
      buffer = found out (λ f. chosen (chosen_of args.to) out (λ t. buffer_of (converted_segment_of f t args.cv.now (length out)) out))
          c.basis_of-c.ensures known
          (found out (λ t. buffer_of (converted_segment_of from t args.cv.now (length out)) out) c.basis_of-d.ensures known-to c.convert_segment.ensures.out);
    }
