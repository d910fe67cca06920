-- A case for each record.
use mathlib.Core.Path.{refl}
use Rattle.picture.proofs.finds_after.Goals as goal

pub returns-in-Curve : goal.returns-in-Curve
returns-in-Curve c = rw c.in-Curve.is c.none.ensures

pub returns-in-Span : goal.returns-in-Span
returns-in-Span c = rw c.in-Span.is refl

pub returns-in-Knot : goal.returns-in-Knot
returns-in-Knot c = rw c.in-Knot.is refl

pub returns-in-Ends : goal.returns-in-Ends
returns-in-Ends c = rw c.in-Ends.is refl

pub returns-in-At : goal.returns-in-At
returns-in-At c = rw c.in-At.is refl

pub returns-in-Find : goal.returns-in-Find
returns-in-Find c = rw c.in-Find.is c.ask.ensures

pub returns-in-Turn : goal.returns-in-Turn
returns-in-Turn c = rw c.in-Turn.is refl

pub returns-in-Bad : goal.returns-in-Bad
returns-in-Bad c = rw c.in-Bad.is refl
