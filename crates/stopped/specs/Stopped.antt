-- What the depth at which a job stopped says of the job, by the curve's own ends. Definitions only.
use Rattle.stopped.specs.declared.Job.{Job}
use Rattle.stopped.specs.declared.Job.TheVariants.{Flat, Before, Start, UnderWay, End, Beyond}
use Rattle.inverse_segment.specs.declared.Miss.{Miss}
use Rattle.inverse_segment.specs.declared.Place.{Place}
use Rattle.inverse_segment.specs.declared.Miss.TheVariants.{Refused, OffCurve}
use Rattle.std.specs.Prelude.{Bool, cond, List, length, Float, Ok, Err, Result, ℕ}
use Rattle.std.specs.Float.Ieee.{lt, eq}
use Rattle.basis.specs.declared.Basis.{Basis}
use Rattle.basis.specs.Basis.{segments_of}
use Rattle.error.specs.Refusals.{Uses, Verdict}
use Rattle.inverse.specs.declared.Ends.{Ends}
use Rattle.inverse.specs.EndRule.{curve_rule}
use Rattle.inverse.specs.Inverse.{inverse_uses}
use Rattle.inverse_segment.specs.declared.Method.TheVariants.{Steady}
use Rattle.inverse_segment.specs.Method.{steady_limit}
use Rattle.inverse_order.specs.declared.EndsBy.TheVariants.{Curve}
use Rattle.inverse_segment.specs.Answer.{default_precision}
use Rattle.spline.specs.Segment.{segment_of}
use Rattle.table.specs.Calls.{verdict_of, table_inverse_by}
use Rattle.table_span.specs.declared.Table.{Table}

-- the curve's own ends: its evaluated start, its evaluated end, and whether it rises from the one to the other
abbrev pub ends_of : Basis → List Float → Ends
ends_of b ks = (curve_rule (segment_of b ks) (segments_of b (length ks))).ends

-- before the start and beyond the end, by that direction
abbrev pub is_before : Ends → Float → Bool
is_before e y = cond e.rising (lt y e.low) (lt e.low y)

abbrev pub is_beyond : Ends → Float → Bool
is_beyond e y = cond e.rising (lt e.high y) (lt y e.high)

-- strictly between the ends: what the inversion answers
abbrev pub between : Result (Place × ℕ) Miss → Result Job Miss
between (Err m) = Err m
between (Ok (p, s)) = Ok (UnderWay s p)

-- equal ends say nothing; then at an end, then outside both
abbrev pub said_of : Ends → Float → Result (Place × ℕ) Miss → Result Job Miss
said_of e y found =
    cond (eq e.low e.high) (Ok Flat)
    (cond (eq y e.low) (Ok Start)
    (cond (eq y e.high) (Ok End)
    (cond (is_before e y) (Ok Before)
    (cond (is_beyond e y) (Ok Beyond) (between found)))))

-- the rows of a table's inversion, by the steady method's defaults
abbrev pub stopped_uses : Table → Float → List Float → Bool → Uses
stopped_uses t y ks check = inverse_uses t.basis y ks check steady_limit default_precision

abbrev pub said_unless : Verdict → Result Job Miss → Result Job Miss
said_unless (Ok _) j = j
said_unless (Err r) j = Err (Refused r)

unfoldable pub stopped_of : Table → Float → List Float → Bool → Result Job Miss
stopped_of t y ks check =
    said_unless (verdict_of t (stopped_uses t y ks check))
    (said_of (ends_of t.basis ks) y (table_inverse_by Curve Steady t y ks check steady_limit default_precision))
