-- The invariant: the extent with the first j knots is known.
use mathlib.Core.Path.{◌≡◌}
use Rattle.picture_scale.specs.Scale.{knots_extent}
use Rattle.picture_scale.specs.Bounds.{Narrow}
use Rattle.picture_scale.proofs.knots_extent.Given as goal

abbrev pub invariant-loop-j : goal.invariant-loop-j
invariant-loop-j l = (l.e ≡ knots_extent l.b l.knots l.initial.e l.j) × Narrow l.e
