-- The code is the definition; a half of two sizes is no larger than they. Assumes nothing.
use native.Mathlib.Omega.{arith}
use Rattle.monotone.specs.Slope.{limited}
use Rattle.monotone.proofs.limit.Goals as goal

pub returns : goal.returns
unfolding limited
returns c = record { is = omega arith; most = omega arith }
