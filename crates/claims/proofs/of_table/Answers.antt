-- A case for each record.
use mathlib.Core.Path.{refl}
use Rattle.claims.proofs.of_table.Goals as goal

pub returns-in-Curve : goal.returns-in-Curve
returns-in-Curve c = rw c.in-Curve.is refl

pub returns-in-Span : goal.returns-in-Span
returns-in-Span c = rw c.in-Span.is refl

pub returns-in-Knot : goal.returns-in-Knot
returns-in-Knot c = rw c.in-Knot.is refl
