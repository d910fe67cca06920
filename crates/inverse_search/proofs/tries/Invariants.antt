-- The invariant: the segments before s do not enclose the target, two evaluations were made for each, and the tries left are those from s
-- on.
use Prim.Native.Nat.{◌+◌, ◌-◌, ◌*◌, ◌≤◌}
use Rattle.inverse_search.proofs.Glue.{Carried}
use Rattle.inverse_search.proofs.tries.Given as goal

abbrev pub invariant-loop-s : goal.invariant-loop-s
invariant-loop-s l = (l.made ≤ l.count + 2 * (l.s - l.first))
    × Carried l.how l.b l.knots l.y l.precision l.limit l.first l.end l.count l.s l.made
