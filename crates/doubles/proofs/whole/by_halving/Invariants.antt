-- The invariant says that the answer lies from `low` to `high`; each comparison keeps it, and the distance between the two falls.
use Rattle.std.proofs.Common.{◌-◌}
use Rattle.doubles.proofs.WholePart.{Halving}
use Rattle.doubles.proofs.whole.by_halving.Given as goal

abbrev pub invariant-loop-low : goal.invariant-loop-low
invariant-loop-low l = Halving l.m l.y l.low l.high

abbrev pub decreases-loop-low : goal.decreases-loop-low
decreases-loop-low l = l.high - l.low
