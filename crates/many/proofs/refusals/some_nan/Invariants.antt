-- The invariant: the flag, together with the test of the parameters still to come, is the test of all.
use Rattle.std.proofs.Common.{◌≡◌, ◌||◌, drop}
use Rattle.many.specs.Many.{some_nan}
use Rattle.many.proofs.refusals.some_nan.Given as goal

abbrev pub invariant-loop-x : goal.invariant-loop-x
invariant-loop-x l = (l.found || some_nan (drop l.x-index l.xs)) ≡ some_nan l.xs
