-- Fewer than four knots stand as one segment.
use native.Mathlib.Omega.{arith}
use Rattle.picture_scale.proofs.Steps.{few_segments, one_segment}
use Rattle.picture_scale.proofs.segments.Goals as goal

pub returns-then-n-lt4 : goal.returns-then-n-lt4
returns-then-n-lt4 c = record { answer = one_segment c.args.b c.args.n (omega arith); most = omega arith }

pub returns : goal.returns
returns c = record { answer = c.segments.ensures; most = omega (arith, c.segments.ensures, few_segments c.args.b c.args.n) }
