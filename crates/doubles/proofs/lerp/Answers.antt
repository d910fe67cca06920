-- The code is the definition, operation by operation.
use Rattle.std.proofs.Common.{refl}
use Rattle.doubles.specs.Lerp.{lerp_of}
use Rattle.doubles.proofs.lerp.Goals as goal

pub returns : goal.returns
unfolding lerp_of
returns c = refl
