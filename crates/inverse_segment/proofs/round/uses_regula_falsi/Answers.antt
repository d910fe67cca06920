-- A case for each side of the first comparison; the second is the definition's.
use borrow.Author.Tests.{lt-ltb, le-ltb}
use Rattle.inverse_segment.proofs.round.uses_regula_falsi.Goals as goal

pub returns-then-i-early : goal.returns-then-i-early
returns-then-i-early c = simp (lt-ltb _ _ c.if-i-early.true)

pub returns-else-i-early : goal.returns-else-i-early
returns-else-i-early c = simp (le-ltb _ _ c.if-i-early.false)
