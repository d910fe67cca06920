-- The labels, and the last time.
use Rattle.std.proofs.Common.{arith}
use Rattle.text.proofs.Pens.{within, chained}
use Rattle.picture_axes.specs.Axes.{time_axis}
use Rattle.picture_axes.proofs.put_time_axis.Goals as goal

pub returns : goal.returns
unfolding time_axis
returns c = rw (← c.stretch-end.ensures.answer, ← c.step-s.ensures.answer, ← c.saturating_sub.ensures)
    (within 1024 (chained c.put_times.ensures c.put_time.ensures) (omega arith))
