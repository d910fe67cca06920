-- The invariant: the extent of the curve at 0/p to i/p is known.
use mathlib.Core.Path.{◌≡◌}
use Rattle.picture_scale.specs.Scale.{curve_extent}
use Rattle.picture_scale.specs.Bounds.{Narrow}
use Rattle.picture_scale.proofs.curve_extent.Given as goal

abbrev pub invariant-loop-i : goal.invariant-loop-i
invariant-loop-i l = (l.e ≡ curve_extent l.b l.knots l.p l.i) × Narrow l.e
