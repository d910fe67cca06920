-- The depths' refusals as the code has them: from their evaluation, and whether both tables have as many segments. Definitions only.
use Rattle.inverse_segment.specs.Inversion.{Inversion}
use Rattle.inverse_segment.specs.declared.Miss.TheVariants.{Refused, OffCurve}
use Rattle.spline.specs.Evaluation.{Evaluation}
use Rattle.error.specs.Refusals.{Verdict}
use Rattle.std.specs.Prelude.{Bool, cond, Float, Ok, Err}
use Rattle.error.specs.declared.Refusal.TheVariants.{UnequalSegments}
use Rattle.doubles.specs.Numbers.{nought}

-- where the depths are evaluated
abbrev pub asked_at : Inversion → Float
asked_at (Err m) = nought
asked_at (Ok p) = p.parameter

abbrev pub verdict_of : Evaluation → Bool → Verdict
verdict_of (Err r) equal = Err r
verdict_of (Ok d) equal = cond equal (Ok tt) (Err UnequalSegments)
