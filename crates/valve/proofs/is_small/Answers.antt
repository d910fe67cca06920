-- `valve::is_small` meets its contract: two comparisons tell a magnitude. Assumes nothing.
use Rattle.std.proofs.Common.{◌∙◌}
use Rattle.valve.proofs.Refusals.{small_high, small_low}
use Rattle.valve.proofs.is_small.Goals as goal

pub returns-then-k-geminus1000000 : goal.returns-then-k-geminus1000000
returns-then-k-geminus1000000 c = small_high c.args.k c.ranges.k c.if-k-geminus1000000.true

pub returns-else-k-geminus1000000 : goal.returns-else-k-geminus1000000
returns-else-k-geminus1000000 c = c.if-k-geminus1000000.false ∙ small_low c.args.k c.ranges.k c.if-k-geminus1000000.false
