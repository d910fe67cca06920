-- 256 for each segment, as far as they go.
use native.Mathlib.Omega.{arith}
use Rattle.picture_scale.specs.Scale.{pieces_of}
use Rattle.picture_scale.proofs.pieces.Goals as goal

pub returns : goal.returns
unfolding pieces_of
returns c = record { answer = rw (← c.segments.ensures.answer) (omega (arith, c.min.ensures)); most = omega (arith, c.min.ensures) }
