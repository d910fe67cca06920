-- Linear's matrix has no pivot in some column: the elimination of the definition stops there, and its zeros are these.
use mathlib.Core.Path.{refl}
use lib.Ieee.{of_bits}
use Rattle.convert_matrix.specs.Elimination.{inverse_of}
use Rattle.convert_matrix.proofs.constants.none.Goals as goal

pub returns : goal.returns
unfolding inverse_of of_bits
returns c = refl
