-- `exports_inverse::spline_inverse_by` meets its contract: the numbers name a basis and a way, or all stays. Assumes nothing.
use mathlib.Core.Path.{ap, ◌∙◌}
use Rattle.inverse.specs.Inverse.{inverse_by}
use Rattle.exports_reply.specs.Replies.{no_basis, inverted_reply, place_left, whole_left}
use Rattle.exports_reply.specs.Options.{way_of, way}
use Rattle.exports_reply.proofs.Found.{found, unfound, way_found, way_unfound}
use Rattle.exports_inverse.proofs.spline_inverse_by.Goals as goal

pub returns-in_default : goal.returns-in_default
returns-in_default c = let args = c.args in
    let place = args.place.now in
    let whole = args.whole.now in
    let w = way_of args.ends args.method in
    let unknown = c.in_default.is in record {
      answer = unfound no_basis (λ b. way w no_basis
          (λ e m. inverted_reply (inverse_by e m b args.y args.knots.now args.check args.limit args.precision))) c.basis_of-c.ensures unknown;
      place = unfound place (λ b. way w place
          (λ e m. place_left (inverse_by e m b args.y args.knots.now args.check args.limit args.precision) place)) c.basis_of-c.ensures unknown;
      whole = unfound whole (λ b. way w whole
          (λ e m. whole_left (inverse_by e m b args.y args.knots.now args.check args.limit args.precision) whole)) c.basis_of-c.ensures unknown;
    }

pub returns-in_default-w : goal.returns-in_default-w
returns-in_default-w c = let args = c.args in
    let place = args.place.now in
    let whole = args.whole.now in
    let w = way_of args.ends args.method in
    let known = c.in-Some.is in
    let basis = c.in-Some.b in
    let unknown = c.in_default-w.is in record {
      answer = found no_basis (λ b. way w no_basis (λ e m. inverted_reply (inverse_by e m b args.y args.knots.now args.check args.limit args.precision)))
          c.basis_of-c.ensures known (way_unfound no_basis
          (λ e m. inverted_reply (inverse_by e m basis args.y args.knots.now args.check args.limit args.precision)) c.way_of-w.ensures unknown);
      place = found place (λ b. way w place (λ e m. place_left (inverse_by e m b args.y args.knots.now args.check args.limit args.precision) place))
          c.basis_of-c.ensures known (way_unfound place
          (λ e m. place_left (inverse_by e m basis args.y args.knots.now args.check args.limit args.precision) place) c.way_of-w.ensures
          unknown);
      whole = found whole (λ b. way w whole (λ e m. whole_left (inverse_by e m b args.y args.knots.now args.check args.limit args.precision) whole))
          c.basis_of-c.ensures known (way_unfound whole
          (λ e m. whole_left (inverse_by e m basis args.y args.knots.now args.check args.limit args.precision) whole) c.way_of-w.ensures
          unknown);
    }

pub returns : goal.returns
returns c = let args = c.args in
    let place = args.place.now in
    let whole = args.whole.now in
    let w = way_of args.ends args.method in
    let known = c.in-Some.is in
    let basis = c.in-Some.b in
    let known-way = c.in-Some-w.is in
    record {
      answer = found no_basis (λ b. way w no_basis (λ e m. inverted_reply (inverse_by e m b args.y args.knots.now args.check args.limit args.precision)))
          c.basis_of-c.ensures known (way_found no_basis
          (λ e m. inverted_reply (inverse_by e m basis args.y args.knots.now args.check args.limit args.precision)) c.way_of-w.ensures known-way
          (c.place_told.ensures.answer ∙ ap inverted_reply c.spline_inverse_by.ensures));
      place = found place (λ b. way w place (λ e m. place_left (inverse_by e m b args.y args.knots.now args.check args.limit args.precision) place))
          c.basis_of-c.ensures known (way_found place
          (λ e m. place_left (inverse_by e m basis args.y args.knots.now args.check args.limit args.precision) place) c.way_of-w.ensures
          known-way (c.place_told.ensures.place ∙ ap (λ a. place_left a place) c.spline_inverse_by.ensures));
      whole = found whole (λ b. way w whole (λ e m. whole_left (inverse_by e m b args.y args.knots.now args.check args.limit args.precision) whole))
          c.basis_of-c.ensures known (way_found whole
          (λ e m. whole_left (inverse_by e m basis args.y args.knots.now args.check args.limit args.precision) whole) c.way_of-w.ensures
          known-way (c.place_told.ensures.whole ∙ ap (λ a. whole_left a whole) c.spline_inverse_by.ensures));
    }
