-- The code is the definition; the magnitude is the callee's contract.
use mathlib.Core.Path.{ap}
use lib.Ieee.{Float, lt}
use Rattle.convert_strict.proofs.seams.is_apart.Goals as goal

pub returns : goal.returns
returns c = ap (λ (x : Float). lt c.args.allowance x) c.magnitude.ensures
