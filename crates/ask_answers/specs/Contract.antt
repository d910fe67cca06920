-- What code knows of a job that is to be told. Definitions only.
use Rattle.stopped.specs.declared.Job.{Job}
use Rattle.inverse_segment.specs.declared.Miss.{Miss}
use Rattle.stopped.specs.declared.Job.TheVariants.{UnderWay, Flat, Before, Start, End, Beyond}
use Rattle.inverse_segment.specs.declared.Miss.TheVariants.{Refused, OffCurve}
use Rattle.std.specs.Prelude.{◌≤◌, ◌<◌, Err, Ok, Result}
use Rattle.basis.specs.Basis.{most_knots}
use Rattle.table_span.specs.Second.{day}

-- a job that is under way is at a second of the day, in a segment of the curve
abbrev pub Placed : Result Job Miss → Type 0
Placed (Err (Refused r)) = Unit
Placed (Err (OffCurve n)) = Unit
Placed (Ok Flat) = Unit
Placed (Ok Before) = Unit
Placed (Ok Start) = Unit
Placed (Ok (UnderWay s p)) = (s ≤ day) × (p.segment < most_knots)
Placed (Ok End) = Unit
Placed (Ok Beyond) = Unit
