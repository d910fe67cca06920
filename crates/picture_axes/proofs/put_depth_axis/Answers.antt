-- The labels, and the greatest depth.
use Rattle.std.proofs.Common.{arith}
use Rattle.text.proofs.Pens.{within, chained}
use Rattle.picture_axes.specs.Axes.{depth_axis}
use Rattle.picture_axes.proofs.put_depth_axis.Goals as goal

pub returns : goal.returns
unfolding depth_axis
returns c = rw (← c.step-s.ensures.answer, ← c.multiple_above-first.ensures.answer)
    (within 1024 (chained c.put_depths.ensures c.put_depth.ensures) (omega arith))
