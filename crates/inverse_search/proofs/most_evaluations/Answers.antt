-- A case for each side of 12; the sums fit 32 bits because the limit has 16 and the bits are at most 64.
use borrow.Author.Tests.{le-leb, lt-leb}
use Rattle.inverse_search.proofs.most_evaluations.Goals as goal

pub returns-then-k-le-IN_ORDER : goal.returns-then-k-le-IN_ORDER
returns-then-k-le-IN_ORDER c = simp (le-leb _ _ c.if-k-le-IN_ORDER.true)

pub returns-else-k-le-IN_ORDER : goal.returns-else-k-le-IN_ORDER
returns-else-k-le-IN_ORDER c = simp (lt-leb _ _ c.if-k-le-IN_ORDER.false, c.bits.ensures.answer)
