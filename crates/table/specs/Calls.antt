-- The calls on a table with its span: the rows of the call without a span, and 14; where none applies, what that call answers,
-- with the second beside a place and the span handed on. Definitions only.
use Rattle.inverse_segment.specs.declared.Miss.{Miss}
use Rattle.inverse_segment.specs.declared.Place.{Place}
use Rattle.inverse_segment.specs.Inversion.{Inversion}
use Rattle.inverse_segment.specs.declared.Miss.TheVariants.{Refused, OffCurve}
use Rattle.error.specs.declared.Refusal.{Refusal}
use Rattle.std.specs.Prelude.{Bool, List, ◌∷◌, ℕ, Float, Ok, Err, Result}
use Rattle.basis.specs.declared.Basis.{Basis}
use Rattle.convert.specs.Conversion.{Conversion, refuses, convert_uses, converted_of}
use Rattle.convert_strict.specs.Strict.{strict_uses, strict_of}
use Rattle.error.specs.Refusals.{Uses, first, Verdict}
use Rattle.inverse_order.specs.declared.EndsBy.{EndsBy}
use Rattle.inverse_order.specs.declared.EndsBy.TheVariants.{Knots}
use Rattle.inverse.specs.Inverse.{inverse_uses, inverse_by}
use Rattle.inverse_segment.specs.Answer.{default_precision}
use Rattle.inverse_segment.specs.declared.Method.{Method}
use Rattle.inverse_segment.specs.declared.Method.TheVariants.{Steady}
use Rattle.inverse_segment.specs.Method.{steady_limit}
use Rattle.spline.specs.Evaluation.{spline_uses, spline_of, Evaluation}
use Rattle.table_span.specs.declared.Table.{Table}
use Rattle.table_span.specs.Second.{bad_span, second_of}

-- whether a row applies to a call on a table
abbrev pub verdict_of : Table → Uses → Verdict
verdict_of t us = first (bad_span t.span ∷ us)

-- ---- evaluation
abbrev pub value_unless : Verdict → Evaluation → Evaluation
value_unless (Ok _) a = a
value_unless (Err r) a = Err r

unfoldable pub table_spline_of : Table → Float → List Float → Evaluation
table_spline_of t x ks = value_unless (verdict_of t (spline_uses t.basis x ks)) (spline_of t.basis x ks)

-- ---- inversion
-- the answer of the call without a span, with the second of its place
abbrev pub timed_of : ℕ → Inversion → Result (Place × ℕ) Miss
timed_of span (Err m) = Err m
timed_of span (Ok p) = Ok (p, second_of span p.parameter)

abbrev pub timed_unless : Verdict → Result (Place × ℕ) Miss → Result (Place × ℕ) Miss
timed_unless (Ok _) a = a
timed_unless (Err r) a = Err (Refused r)

unfoldable pub table_inverse_by : EndsBy → Method → Table → Float → List Float → Bool → ℕ → Float → Result (Place × ℕ) Miss
table_inverse_by m how t y ks check limit ε =
    timed_unless (verdict_of t (inverse_uses t.basis y ks check limit ε))
    (timed_of t.span (inverse_by m how t.basis y ks check limit ε))

-- by the knots and by the steady method, with its defaults
abbrev pub table_steady_of : Table → Float → List Float → Bool → Result (Place × ℕ) Miss
table_steady_of t y ks check = table_inverse_by Knots Steady t y ks check steady_limit default_precision

-- ---- conversion
abbrev pub conversion_unless : Verdict → Conversion → Conversion
conversion_unless (Ok _) c = c
conversion_unless (Err r) c = refuses r

unfoldable pub table_converted_of : Table → Basis → List Float → ℕ → Conversion
table_converted_of t to ks room = conversion_unless (verdict_of t (convert_uses t.basis to ks room)) (converted_of t.basis to ks room)

-- the strict one, with an allowance
unfoldable pub table_strict_of : Table → Basis → List Float → Float → ℕ → Conversion
table_strict_of t to ks allowance room =
    conversion_unless (verdict_of t (strict_uses t.basis to ks allowance room)) (strict_of t.basis to ks allowance room)

-- the new table has the old one's span
abbrev pub handed_of : ℕ → Basis → Result ℕ Refusal → Result (Table × ℕ) Refusal
handed_of span to (Ok n) = Ok ((record { basis = to; span = span }), n)
handed_of span to (Err r) = Err r
