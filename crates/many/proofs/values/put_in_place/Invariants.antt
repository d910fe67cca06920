-- The invariant: the values until i stand at the front, and behind them what stood there: the scaled parameters.
use Rattle.std.proofs.Common.{◌≡◌, ◌-◌, ◌≤◌, map, length}
use Rattle.many.specs.Contract.{laid, value_at}
use Rattle.many.proofs.values.put_in_place.Given as goal

abbrev pub invariant-loop-i : goal.invariant-loop-i
invariant-loop-i g l = (l.i ≤ l.m) × (length l.out ≡ length l.initial.out)
    × (l.out ≡ laid l.i (map (value_at g.B.Known.basis l.knots) l.initial.out) l.initial.out)

abbrev pub decreases-loop-i : goal.decreases-loop-i
decreases-loop-i g l = l.m - l.i
