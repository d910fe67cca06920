-- The clamp keeps it in the frame.
use native.Mathlib.Omega.{arith}
use mathlib.Core.Path.{ap}
use Prim.Native.Nat.{◌-◌}
use Rattle.picture_scale.specs.Scale.{row_of}
use Rattle.picture_scale.proofs.row.Goals as goal

pub returns : goal.returns
unfolding row_of
returns c = record { answer = ap (λ x. 6400 - x) (omega (arith, rw c.saturating_sub.ensures at c.min.ensures)); most = omega arith }
