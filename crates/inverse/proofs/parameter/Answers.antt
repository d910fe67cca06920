-- The code is the definition; both whole numbers fit a double.
use lib.Ieee.{of_bits}
use Rattle.inverse.specs.Curve.{parameter_of}
use Rattle.inverse.proofs.parameter.Goals as goal

pub returns : goal.returns
unfolding parameter_of of_bits
returns c = rw (c.double_of.ensures, c.double_of-2.ensures)
