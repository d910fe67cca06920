-- A case for each end; the operations are the definition's.
use lib.Ieee.{of_bits}
use Rattle.inverse_segment.specs.Round.{toward}
use Rattle.inverse_segment.proofs.choice.toward.Goals as goal

pub returns-then-lower_moved_last : goal.returns-then-lower_moved_last
unfolding toward of_bits
returns-then-lower_moved_last c = simp c.if-lower_moved_last.true

pub returns-else-lower_moved_last : goal.returns-else-lower_moved_last
unfolding toward of_bits
returns-else-lower_moved_last c = simp c.if-lower_moved_last.false
