-- The code is the definition, operation by operation; what is left are the indices, all below 4.
use mathlib.Core.Path.{refl}
use Rattle.convert.proofs.output.last_sum.Goals as goal

pub returns : goal.returns
returns c = refl
