-- What a record gets, and the curve after it. Definitions only.
use Rattle.inverse_segment.specs.Inversion.{Inversion}
use Rattle.inverse_segment.specs.declared.Miss.TheVariants.{Refused, OffCurve}
use Rattle.std.specs.Prelude.{true, cond, List, [], ℕ, Float, Ok, Err}
use Rattle.basis.specs.declared.Basis.{Basis}
use Rattle.convert.specs.Conversion.{Conversion, gives, refuses, converted_of}
use Rattle.error.specs.declared.Refusal.TheVariants.{TooMany, BadSpan, OffCurve, BadLine}
use Rattle.inverse_order.specs.declared.EndsBy.{EndsBy}
use Rattle.inverse_order.specs.declared.EndsBy.TheVariants.{Knots}
use Rattle.inverse.specs.Inverse.{inverse_by}
use Rattle.inverse_segment.specs.Answer.{default_limit, default_precision}
use Rattle.inverse_segment.specs.declared.Method.TheVariants.{AsCrate}
use Rattle.keeper.specs.Table as table
use Rattle.keeper.specs.Table.{has_room, kept}
use Rattle.lines_record.specs.declared.Record.{Record}
use Rattle.lines_record.specs.declared.Record.TheVariants.{Curve as CurveOf, Span, Knot, Ends, At, Find, Turn, Bad}
use Rattle.lines_reply.specs.Reply.{Reply, silence, refused, value, place, curve}
use Rattle.spline.specs.Evaluation.{spline_of, Evaluation}
use Rattle.table_span.specs.declared.Table.{Table}
use Rattle.table_span.specs.Second.{good_span, spans_of, seconds_of}

-- the places of the table, and those that `turn` lends
abbrev pub places : ℕ
places = table.places

-- the curve: none before the first `curve`, then a table with its span, by which ends it is inverted, and its knots
pub data Curve : Type 0 where
  none : Curve
  on : Table → EndsBy → List Float → Curve

-- a table without a span
abbrev pub bare : Basis → Table
bare b = record { basis = b; span = 0 }

-- ---- the replies of the three calls

abbrev pub value_reply : Evaluation → Reply
value_reply (Ok x) = value x
value_reply (Err r) = refused r

-- the default limit and precision, the order check on
abbrev pub found_of : EndsBy → Basis → Float → List Float → Inversion
found_of m b y ks = inverse_by m AsCrate b y ks true default_limit default_precision

-- with the second of the place, where there is a span
abbrev pub place_reply : ℕ → Inversion → Reply
place_reply span (Err (Refused r)) = refused r
place_reply span (Err (OffCurve n)) = refused OffCurve
place_reply span (Ok p) = place p.parameter p.ground p.count (seconds_of span p.parameter)

-- the span is handed on
abbrev pub curve_reply : ℕ → Basis → Conversion → Reply
curve_reply span c (gives l) = curve c (spans_of span) l
curve_reply span c (refuses r) = refused r

-- ---- records

-- what a record gets
unfoldable pub reply_to : Curve → Record → Reply
reply_to none (CurveOf c) = silence
reply_to none (Span s) = refused BadLine
reply_to none (Knot x) = refused BadLine
reply_to none (Ends k) = refused BadLine
reply_to none (At x) = refused BadLine
reply_to none (Find y) = refused BadLine
reply_to none (Turn c) = refused BadLine
reply_to none Bad = refused BadLine
reply_to (on t m ks) (CurveOf c) = silence
reply_to (on t m ks) (Span s) = cond (good_span s) silence (refused BadSpan)
reply_to (on t m ks) (Knot x) = cond (has_room ks) silence (refused TooMany)
reply_to (on t m ks) (Ends k) = silence
reply_to (on t m ks) (At x) = value_reply (spline_of t.basis x ks)
reply_to (on t m ks) (Find y) = place_reply t.span (found_of m t.basis y ks)
reply_to (on t m ks) (Turn c) = curve_reply t.span c (converted_of t.basis c ks places)
reply_to (on t m ks) Bad = refused BadLine

-- the curve after it: `curve` clears knots and span and keeps the ends; `span` and `ends` replace theirs;
-- `knot` adds one where there is a place left
unfoldable pub after_of : Curve → Record → Curve
after_of none (CurveOf c) = on (bare c) Knots []
after_of none (Span s) = none
after_of none (Knot x) = none
after_of none (Ends k) = none
after_of none (At x) = none
after_of none (Find y) = none
after_of none (Turn c) = none
after_of none Bad = none
after_of (on t m ks) (CurveOf c) = on (bare c) m []
after_of (on t m ks) (Span s) = cond (good_span s) (on (record { basis = t.basis; span = s }) m ks) (on t m ks)
after_of (on t m ks) (Knot x) = on t m (kept ks x)
after_of (on t m ks) (Ends k) = on t k ks
after_of (on t m ks) (At x) = on t m ks
after_of (on t m ks) (Find y) = on t m ks
after_of (on t m ks) (Turn c) = on t m ks
after_of (on t m ks) Bad = on t m ks
