-- A case for each direction; the definition makes the same test.
use Rattle.stopped.proofs.is_beyond.Goals as goal

pub returns-then-e : goal.returns-then-e
returns-then-e c = simp c.if-e.true

pub returns-else-e : goal.returns-else-e
returns-else-e c = simp c.if-e.false
