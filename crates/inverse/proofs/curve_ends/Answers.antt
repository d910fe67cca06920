-- The first and the last segment lie inside the knots; their values at 0 and at 1 are what the rule goes by.
use lib.Ieee.{of_bits}
use native.Mathlib.Omega.{arith}
use lib.ListN.{length}
use Rattle.inverse.proofs.Curve.{segments_some, segment_fits}
use Rattle.inverse.proofs.Glue.{ends_are}
use Prim.Native.Nat.{◌-◌}
use Rattle.inverse.proofs.curve_ends.Goals as goal

pub row_sums_at-requires : goal.row_sums_at-requires
row_sums_at-requires c = record {
  inside = segment_fits c.args.b (length c.args.knots.now) 0 c.requires.enough
      (omega (arith, c.requires.segments, segments_some c.args.b (length c.args.knots.now)));
  most = c.requires.most;
}

pub row_sums_at-requires-2 : goal.row_sums_at-requires-2
row_sums_at-requires-2 c = record {
  inside = segment_fits c.args.b (length c.args.knots.now) (c.args.k - 1) c.requires.enough
      (omega (arith, c.requires.segments, segments_some c.args.b (length c.args.knots.now)));
  most = c.requires.most;
}

pub returns : goal.returns
unfolding of_bits
returns c = ends_are c.args.b c.args.knots.now c.args.k c.row_sums_at.ensures
    c.horner-start.ensures c.row_sums_at-2.ensures c.horner-end.ensures
