-- A case for each side of the first comparison; the definition makes both in the same order.
use lib.Ieee.{of_bits}
use Rattle.spline.proofs.refusals.is_inside.Goals as goal

pub returns-then-x : goal.returns-then-x
unfolding of_bits
returns-then-x c = simp c.if-x.true

pub returns-else-x : goal.returns-else-x
unfolding of_bits
returns-else-x c = simp c.if-x.false
