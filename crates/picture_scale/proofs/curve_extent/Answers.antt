-- The invariant: the extent of the curve at 0/p to i/p is known.
use native.Mathlib.Omega.{arith}
use Rattle.picture_scale.proofs.Heights.{curve_begins, curve_goes_on}
use Rattle.picture_scale.proofs.curve_extent.Goals as goal

pub loop-i-init : goal.loop-i-init
loop-i-init c = (
  curve_begins _ _ _ c.curve_height-h.ensures.answer,
  record { low = c.curve_height-h.ensures.between.0; ordered = omega arith; high = c.curve_height-h.ensures.between.1 },
)

pub loop-i-preserved : goal.loop-i-preserved
loop-i-preserved c = (
  curve_goes_on _ _ _ c.loop-i.i c.loop-i.invariant.0 c.curve_height.ensures.answer c.widen-e.ensures.answer,
  c.widen-e.ensures.narrow_after,
)
