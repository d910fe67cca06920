-- A number that is no basis writes nothing (`unfound`); for any other the call's contract is carried over to what C sees (`found`).
use mathlib.Core.Path.{ap, ◌∙◌}
use Rattle.inverse_segment.specs.Answer.{default_limit, default_precision}
use Rattle.inverse_order.specs.declared.EndsBy.TheVariants.{Knots}
use Rattle.inverse_segment.specs.declared.Method.TheVariants.{AsCrate}
use Rattle.table.specs.Calls.{table_inverse_by}
use Rattle.exports_reply.specs.Replies.{no_basis}
use Rattle.exports_table.specs.Tables.{table_of, timed_reply, timed_place, timed_whole}
use Rattle.exports_reply.proofs.Found.{found, unfound}
use Rattle.exports_table.proofs.table_spline_inverse.Goals as goal

pub returns-in_default : goal.returns-in_default
returns-in_default c = let args = c.args in
    let place = args.place.now in
    let whole = args.whole.now in
    let unknown = c.in_default.is in record {
      answer = unfound no_basis (λ b. timed_reply
          (table_inverse_by Knots AsCrate (table_of args.span b) args.y args.knots.now args.check default_limit default_precision))
          c.basis_of-c.ensures unknown;
      place = unfound place (λ b. timed_place
          (table_inverse_by Knots AsCrate (table_of args.span b) args.y args.knots.now args.check default_limit default_precision) place) c.basis_of-c.ensures
          unknown;
      whole = unfound whole (λ b. timed_whole
          (table_inverse_by Knots AsCrate (table_of args.span b) args.y args.knots.now args.check default_limit default_precision) whole) c.basis_of-c.ensures
          unknown;
    }

pub returns : goal.returns
returns c = let args = c.args in
    let place = args.place.now in
    let whole = args.whole.now in
    let known = c.in-Some.is in
    record {
      answer = found no_basis (λ b. timed_reply
          (table_inverse_by Knots AsCrate (table_of args.span b) args.y args.knots.now args.check default_limit default_precision)) c.basis_of-c.ensures known
          (c.timed_told.ensures.answer ∙ ap timed_reply c.table_spline_inverse.ensures);
      place = found place (λ b. timed_place
          (table_inverse_by Knots AsCrate (table_of args.span b) args.y args.knots.now args.check default_limit default_precision) place) c.basis_of-c.ensures
          known (c.timed_told.ensures.place ∙ ap (λ a. timed_place a place) c.table_spline_inverse.ensures);
      whole = found whole (λ b. timed_whole
          (table_inverse_by Knots AsCrate (table_of args.span b) args.y args.knots.now args.check default_limit default_precision) whole) c.basis_of-c.ensures
          known (c.timed_told.ensures.whole ∙ ap (λ a. timed_whole a whole) c.table_spline_inverse.ensures);
    }
