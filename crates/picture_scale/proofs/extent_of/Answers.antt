-- The margin keeps the greatest above the least.
use native.Mathlib.Omega.{arith}
use mathlib.Core.Path.{ap}
use Prim.Native.Nat.{◌+◌, ◌-◌}
use Rattle.picture_scale.specs.Scale.{extent_of}
use Rattle.picture_scale.specs.declared.Extent.{Extent}
use Rattle.picture_scale.proofs.extent_of.Goals as goal

pub returns : goal.returns
unfolding extent_of
returns c = record {
  answer = ap (λ (x : Extent). record { lo = x.lo - 1; hi = x.hi + 1 })
      (rw (c.curve_extent-c.ensures.answer, c.pieces-p.ensures.answer) at
      c.knots_extent-e.ensures.answer);
  open_after = record {
    low = omega (arith, c.knots_extent-e.ensures.narrow_after.low);
    ordered = omega (arith, c.knots_extent-e.ensures.narrow_after.ordered);
    high = omega (arith, c.knots_extent-e.ensures.narrow_after.high);
  };
}
