-- Each entry of the code is the very double of the definition, and the check computes that both are one matrix.
use lib.Ieee.{of_bits}
use Rattle.basis.specs.Basis.{matrix_of}
use Rattle.basis.proofs.basis_macros.BsplineKnown.terms.Goals as goal

pub returns : goal.returns
unfolding matrix_of of_bits
returns c = cc
