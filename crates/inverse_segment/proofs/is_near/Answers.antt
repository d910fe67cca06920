-- The code is the definition; the magnitude is the callee's contract.
use lib.Ieee.{of_bits}
use Rattle.inverse_segment.proofs.is_near.Goals as goal

pub returns : goal.returns
unfolding of_bits
returns c = simp c.magnitude.ensures
