-- The invariant: the scaled parameters until i stand at the front, and behind them the output is as it was lent.
use Rattle.std.proofs.Common.{◌≡◌, ◌-◌, ◌≤◌, map, length}
use Rattle.spline.specs.Curve.{scaled}
use Rattle.many.specs.Contract.{laid}
use Rattle.many.proofs.values.put_scaled.Given as goal

abbrev pub invariant-loop-i : goal.invariant-loop-i
invariant-loop-i l = (l.i ≤ length l.xs) × (length l.out ≡ length l.initial.out) × (l.out ≡ laid l.i (map (scaled l.k) l.xs) l.initial.out)

abbrev pub decreases-loop-i : goal.decreases-loop-i
decreases-loop-i l = length l.xs - l.i
