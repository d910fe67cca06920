-- What is left of l by the step is below the step.
use native.Mathlib.Omega.{arith}
use mathlib.Core.Path.{refl}
use Rattle.picture_scale.specs.Scale.{above_of}
use native.Mathlib.Nat.{mod-lt}
use Rattle.picture_scale.proofs.multiple_above.Goals as goal

pub overflow_sub-result : goal.overflow_sub-result
overflow_sub-result c = omega (arith, mod-lt c.args.l {m = c.args.s} (omega arith))

pub returns : goal.returns
unfolding above_of
returns c = record { answer = refl; most = omega arith }
