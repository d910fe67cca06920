-- The invariant: the flag, together with the test of the knots still to come, is the test of all knots.
use Rattle.std.proofs.Common.{◌≡◌, ◌&&◌, drop}
use Rattle.checks.specs.Checks.{all_in_range}
use Rattle.checks.proofs.all_in_range.Given as goal

abbrev pub invariant-loop-x : goal.invariant-loop-x
invariant-loop-x l = (l.good && all_in_range (drop l.x-index l.knots)) ≡ all_in_range l.knots
