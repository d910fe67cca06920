-- The check runs the elimination of the definition on the basis's matrix and compares each double, signs of zero among them, with the
-- constant.
use mathlib.Core.Path.{refl}
use lib.Ieee.{of_bits}
use Rattle.convert_matrix.specs.Elimination.{inverse_of}
use Rattle.convert_matrix.proofs.constants.hermite.Goals as goal

pub returns : goal.returns
unfolding inverse_of of_bits
returns c = refl
