-- A case for each record.
use mathlib.Core.Path.{refl}
use Rattle.picture.proofs.fault_after.Goals as goal

pub returns-in-Curve : goal.returns-in-Curve
returns-in-Curve c = λ l. rw c.in-Curve.is refl

pub returns-in-Span : goal.returns-in-Span
returns-in-Span c = λ l. rw c.in-Span.is (c.fault_in.ensures l)

pub returns-in-Knot : goal.returns-in-Knot
returns-in-Knot c = λ l. rw c.in-Knot.is (c.fault_in-in-Knot.ensures l)

pub returns-in-Ends : goal.returns-in-Ends
returns-in-Ends c = λ l. rw c.in-Ends.is (c.fault_in-in-Ends.ensures l)

pub returns-in-At : goal.returns-in-At
returns-in-At c = λ l. rw c.in-At.is (c.fault_in-in-At.ensures l)

pub returns-in-Find : goal.returns-in-Find
returns-in-Find c = λ l. rw c.in-Find.is (c.fault_in-in-Find.ensures l)

pub returns-in-Turn : goal.returns-in-Turn
returns-in-Turn c = λ l. rw c.in-Turn.is (c.fault_in-in-Turn.ensures l)

pub returns-in-Bad : goal.returns-in-Bad
returns-in-Bad c = λ l. rw c.in-Bad.is (c.fault_in-in-Bad.ensures l)
