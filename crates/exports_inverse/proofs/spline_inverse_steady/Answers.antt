-- A number that is no basis writes nothing (`unfound`); for any other the call's contract is carried over to what C sees (`found`).
use mathlib.Core.Path.{ap, ◌∙◌}
use Rattle.inverse.specs.Inverse.{steady_of}
use Rattle.exports_reply.specs.Replies.{no_basis, place_left, whole_left, inverted_reply}
use Rattle.exports_reply.proofs.Found.{found, unfound}
use Rattle.exports_inverse.proofs.spline_inverse_steady.Goals as goal

pub returns-in_default : goal.returns-in_default
returns-in_default c = let args = c.args in
    let place = args.place.now in
    let whole = args.whole.now in
    let unknown = c.in_default.is in
    record {
      answer = unfound no_basis (λ b. inverted_reply (steady_of b args.y args.knots.now args.check)) c.basis_of-c.ensures unknown;
      place = unfound place (λ b. place_left (steady_of b args.y args.knots.now args.check) place) c.basis_of-c.ensures unknown;
      whole = unfound whole (λ b. whole_left (steady_of b args.y args.knots.now args.check) whole) c.basis_of-c.ensures unknown;
    }

pub returns : goal.returns
returns c = let args = c.args in
    let place = args.place.now in
    let whole = args.whole.now in
    let known = c.in-Some.is in
    record {
      answer = found no_basis (λ b. inverted_reply (steady_of b args.y args.knots.now args.check)) c.basis_of-c.ensures known
          (c.place_told.ensures.answer ∙ ap inverted_reply c.spline_inverse_steady.ensures);
      place = found place (λ b. place_left (steady_of b args.y args.knots.now args.check) place) c.basis_of-c.ensures known
          (c.place_told.ensures.place ∙ ap (λ a. place_left a place) c.spline_inverse_steady.ensures);
      whole = found whole (λ b. whole_left (steady_of b args.y args.knots.now args.check) whole) c.basis_of-c.ensures known
          (c.place_told.ensures.whole ∙ ap (λ a. whole_left a whole) c.spline_inverse_steady.ensures);
    }
