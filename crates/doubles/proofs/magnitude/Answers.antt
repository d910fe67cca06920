-- A case for each side of the test; the definition makes the same one.
use lib.Ieee.{of_bits}
use Rattle.doubles.specs.Numbers.{magnitude_of}
use Rattle.doubles.proofs.magnitude.Goals as goal

pub returns-then-x : goal.returns-then-x
unfolding magnitude_of of_bits
returns-then-x c = simp c.if-x.true

pub returns-else-x : goal.returns-else-x
unfolding magnitude_of of_bits
returns-else-x c = simp c.if-x.false
