-- From left − 1, at least 0, at most two segments are tried; they lie below k.
use native.Mathlib.Omega.{arith}
use Rattle.inverse_search.proofs.Glue.{fits_le, last_tried}
use Rattle.inverse_search.proofs.last_tries.Goals as goal

pub tries-requires : goal.tries-requires
tries-requires c = record {
  inside = fits_le c.min-end.result c.args.k _ _ (omega arith) c.requires.inside;
  most = c.requires.most;
  last = omega arith;
  first = omega arith;
  count = omega arith;
}

pub returns : goal.returns
returns c = let a = c.args in
    last_tried a.how a.b a.knots.now a.y a.precision a.limit a.k a.left c.saturating_sub-first.result c.min-end.result c.saturating_sub-first.ensures
    c.min-end.ensures
    c.tries.ensures
