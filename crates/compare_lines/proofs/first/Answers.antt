-- Before a `curve` every other record is refused: a case for each.
use native.Mathlib.Omega.{arith}
use mathlib.Core.Path.{refl}
use Rattle.compare_lines.specs.Listings.{heard, entered}
use Rattle.compare_lines.proofs.first.Goals as goal

pub returns-in-Curve : goal.returns-in-Curve
unfolding heard entered
returns-in-Curve c = record { held = rw c.in-Curve.is refl; told = rw c.in-Curve.is refl; few = omega arith }

pub returns-in-Span : goal.returns-in-Span
unfolding heard entered
returns-in-Span c = record { held = rw c.in-Span.is refl; told = rw c.in-Span.is refl; few = omega arith }

pub returns-in-Knot : goal.returns-in-Knot
unfolding heard entered
returns-in-Knot c = record { held = rw c.in-Knot.is refl; told = rw c.in-Knot.is refl; few = omega arith }

pub returns-in-Other : goal.returns-in-Other
unfolding heard entered
returns-in-Other c = record { held = rw c.in-Other.is refl; told = rw c.in-Other.is refl; few = omega arith }

pub returns-in-Bad : goal.returns-in-Bad
unfolding heard entered
returns-in-Bad c = record { held = rw c.in-Bad.is refl; told = rw c.in-Bad.is refl; few = omega arith }
