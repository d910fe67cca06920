-- A case for each record; a span and a knot are their own functions' contracts.
use native.Mathlib.Omega.{arith}
use mathlib.Core.Path.{refl}
use Rattle.compare_lines.specs.Listings.{heard, entered}
use Rattle.compare_lines.proofs.later.Goals as goal

pub returns-in-Curve : goal.returns-in-Curve
unfolding heard entered
returns-in-Curve c = record { held = rw c.in-Curve.is refl; told = rw c.in-Curve.is refl; few = omega arith }

pub returns-in-Span : goal.returns-in-Span
returns-in-Span c = rw c.in-Span.is c.spanned.ensures

pub returns-in-Knot : goal.returns-in-Knot
returns-in-Knot c = rw c.in-Knot.is c.add.ensures

pub returns-in-Other : goal.returns-in-Other
unfolding heard entered
returns-in-Other c = record { held = rw c.in-Other.is refl; told = rw c.in-Other.is refl; few = omega arith }

pub returns-in-Bad : goal.returns-in-Bad
unfolding heard entered
returns-in-Bad c = record { held = rw c.in-Bad.is refl; told = rw c.in-Bad.is refl; few = omega arith }
