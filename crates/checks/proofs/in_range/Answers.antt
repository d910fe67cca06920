-- A case for each side of the first comparison; the definition makes both in the same order.
use lib.Ieee.{of_bits, neg}
use Rattle.checks.specs.Checks.{in_range}
use Rattle.checks.proofs.in_range.Goals as goal

pub returns-then-x : goal.returns-then-x
unfolding in_range of_bits neg
returns-then-x c = simp c.if-x.true

pub returns-else-x : goal.returns-else-x
unfolding in_range of_bits neg
returns-else-x c = simp c.if-x.false
