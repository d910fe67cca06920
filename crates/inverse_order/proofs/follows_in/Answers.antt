-- A case for each direction; the definition makes the same test.
use Rattle.inverse_order.proofs.follows_in.Goals as goal

pub returns-then-rising : goal.returns-then-rising
returns-then-rising c = simp c.if-rising.true

pub returns-else-rising : goal.returns-else-rising
returns-else-rising c = simp c.if-rising.false
