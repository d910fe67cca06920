-- A case for each side of the test; the greater of the two is what the width is compared with.
use lib.Ieee.{of_bits}
use Rattle.inverse_segment.specs.Round.{narrow}
use Rattle.inverse_segment.proofs.round.is_narrow.Goals as goal

pub returns-then-least-precision : goal.returns-then-least-precision
unfolding narrow of_bits
returns-then-least-precision c = simp (← c.magnitude-width.ensures, c.if-least-precision.true)

pub returns-else-least-precision : goal.returns-else-least-precision
unfolding narrow of_bits
returns-else-least-precision c = simp (← c.magnitude-width.ensures, c.if-least-precision.false)
