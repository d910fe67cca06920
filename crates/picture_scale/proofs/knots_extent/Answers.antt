-- The invariant: the extent with the first j knots is known.
use Rattle.picture_scale.proofs.Heights.{no_knots, knots_go_on}
use Rattle.picture_scale.proofs.knots_extent.Goals as goal

pub loop-j-init : goal.loop-j-init
loop-j-init c = (no_knots _ _ _, c.requires)

pub loop-j-preserved : goal.loop-j-preserved
loop-j-preserved c = (knots_go_on _ _ _ c.loop-j.j c.loop-j.invariant.0 c.with_knot-e.ensures.answer, c.with_knot-e.ensures.narrow_after)
