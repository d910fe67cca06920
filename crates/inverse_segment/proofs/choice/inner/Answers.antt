-- A place strictly between the ends is kept; any other becomes the midpoint, as in the definition.
use lib.Ieee.{of_bits}
use Rattle.inverse_segment.specs.Steady.{inner}
use Rattle.inverse_segment.proofs.choice.inner.Goals as goal

pub returns-then-x-b : goal.returns-then-x-b
unfolding inner of_bits
returns-then-x-b c = simp (c.if-b-x.true, c.if-x-b.true)

pub returns-then-b-x : goal.returns-then-b-x
unfolding inner of_bits
returns-then-b-x c = simp (c.if-b-x.true, c.if-x-b.false) c.lerp.ensures

pub returns : goal.returns
unfolding inner of_bits
returns c = simp c.if-b-x.false c.lerp-2.ensures
