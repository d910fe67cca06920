-- The library's clamp makes the definition's two tests, in the same order.
use lib.Ieee.{of_bits}
use Rattle.doubles.specs.Numbers.{clamp}
use Rattle.doubles.proofs.clamped.Goals as goal

pub returns : goal.returns
unfolding clamp of_bits
returns c = c.clamp.ensures.value
