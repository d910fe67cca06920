-- A case for each of the tests: the direction, then the two comparisons of that direction.
use Rattle.inverse_segment.proofs.encloses.Goals as goal

pub returns-then-v0-y : goal.returns-then-v0-y
returns-then-v0-y c = simp (c.if-v0-v1.true, c.if-v0-y.true)

pub returns-else-v0-y : goal.returns-else-v0-y
returns-else-v0-y c = simp (c.if-v0-v1.true, c.if-v0-y.false)

pub returns-then-v1-y : goal.returns-then-v1-y
returns-then-v1-y c = simp (c.if-v0-v1.false, c.if-v1-y.true)

pub returns-else-v1-y : goal.returns-else-v1-y
returns-else-v1-y c = simp (c.if-v0-v1.false, c.if-v1-y.false)
