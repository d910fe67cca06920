-- What a line after the verdict of a fine sheet prints, and the span after it. The sheet: a kind of curve, its knots as doubles, the labels
-- of its rows, and the span in whole seconds, 0 where no `row` was given. Definitions only.
use Rattle.stopped.specs.declared.Job.{Job}
use Rattle.inverse_segment.specs.declared.Miss.{Miss}
use Rattle.stopped.specs.declared.Job.TheVariants.{UnderWay, Flat, Before, Start, End, Beyond}
use Rattle.inverse_segment.specs.declared.Miss.TheVariants.{Refused, OffCurve}
use Rattle.std.specs.Prelude.{false, cond, ◌&&◌, List, [], ◌∷◌, ◌++◌, ℕ, zero, suc, ◌+◌, ◌-◌, ◌*◌, ◌/◌, leb, Float, length, get_or}
use Rattle.std.specs.Prelude.{Ok, Err, Result}
use Rattle.std.specs.Float.Ieee.{to_bits, div}
use Rattle.std.specs.Float.{binary64}
use Rattle.doubles.specs.Whole.{double}
use Rattle.basis.specs.declared.Basis.{Basis}
use Rattle.basis.specs.Basis.{segments_of}
use Rattle.error.specs.declared.Refusal.TheVariants.{BadSpan, OffCurve, BadLine}
use Rattle.spline.specs.Evaluation.{spline_of, Evaluation}
use Rattle.inverse_segment.specs.declared.Place.{Place}
use Rattle.stopped.specs.Stopped.{stopped_of}
use Rattle.table_span.specs.declared.Table.{Table}
use Rattle.table_span.specs.Second.{good_span}
use Rattle.text.specs.Text.{bytes, LF, TAB, dec_text}
use Rattle.text_rounded.specs.Rounded.{rounded_text}
use Rattle.lines_reply.specs.Reply.{refused_text, curve, text_of}
use Rattle.lines_machine.specs.Program.{Line}
use Rattle.ask_sheet.specs.declared.Kind.{Kind}
use Rattle.ask_verdict.specs.Curve.{basis_of, first_row, row_step}
use Rattle.ask_verdict.specs.Told.{depth_text}
use Rattle.ask_answers.specs.declared.Question.{Question}
use Rattle.ask_answers.specs.declared.Question.TheVariants as Q
use Rattle.ask_answers.specs.Question.{question_of}

-- a word with its tab, and a depth
abbrev pub side_text : List ℕ → Float → List ℕ
side_text w y = w ++ (depth_text y ++ (LF ∷ []))

-- ---- row: seconds from a row on the curve to the next, and so the seconds of the whole curve
abbrev pub curve_seconds : Kind → List Float → ℕ → ℕ
curve_seconds k ks n = n * segments_of (basis_of k) (length ks)

abbrev pub row_text : Kind → List Float → ℕ → List ℕ
row_text k ks n = cond (good_span (curve_seconds k ks n)) [] (refused_text BadSpan)

-- ---- at: the depth at a second, the parameter being second / span, divided once
abbrev pub parameter_at : ℕ → ℕ → Float
parameter_at span n = div binary64 (double n) (double span)

abbrev pub value_text : ℕ → Float → List ℕ
value_text n y = bytes "at\t" ++ (dec_text 4 n ++ side_text (bytes "\t") y)

abbrev pub moment_by : ℕ → Evaluation → List ℕ
moment_by n (Ok y) = value_text n y
moment_by n (Err r) = refused_text r

unfoldable pub moment_text : Basis → List Float → ℕ → ℕ → List ℕ
moment_text b ks span n = moment_by n (spline_of b (parameter_at span n) ks)

abbrev pub at_text : Basis → List Float → ℕ → ℕ → List ℕ
at_text b ks span n = cond (leb 1 span && leb n span) (moment_text b ks span n) (refused_text BadSpan)

-- ---- every: 0, n, 2n and so on below the span, and the span itself
-- the first so many multiples of n
unfoldable pub multiples_text : Basis → List Float → ℕ → ℕ → ℕ → List ℕ
multiples_text b ks span n zero = []
multiples_text b ks span n (suc i) = multiples_text b ks span n i ++ moment_text b ks span (i * n)

-- how many multiples of n are below the span: 0 is one, and the others are those up to the span less one
abbrev pub multiples_below : ℕ → ℕ → ℕ
multiples_below span n = (span - 1) / n + 1

-- steps below a minute ask nothing
abbrev pub every_text : Basis → List Float → ℕ → ℕ → List ℕ
every_text b ks span n =
    cond (leb 60 n)
    (cond (leb 1 span) (multiples_text b ks span n (multiples_below span n) ++ moment_text b ks span span) (refused_text BadSpan))
    (refused_text BadLine)

-- ---- find: what the depth at which a job stopped says of it, without the order check, which the verdict replaces
-- the row at which segment s begins, which is that at which the one before it ends
abbrev pub row_of : Kind → ℕ → ℕ
row_of k s = first_row k + s * row_step k

-- its label; none where the sheet has no such row, as behind the last segment of Power
abbrev pub label_of : Kind → List (List ℕ) → ℕ → List ℕ
label_of k ls s = get_or ls (row_of k s) []

-- the whole second; where there is no span, the parameter with six digits behind the point
abbrev pub when_text : ℕ → ℕ → Float → List ℕ
when_text span s x = cond (leb 1 span) (dec_text 4 s) (rounded_text 6 (to_bits binary64 x))

-- the labels of the two rows between which segment s lies, each behind a tab
abbrev pub start_text : Kind → List (List ℕ) → ℕ → List ℕ
start_text k ls s = (TAB ∷ []) ++ label_of k ls s

abbrev pub rows_text : Kind → List (List ℕ) → ℕ → List ℕ
rows_text k ls s = start_text k ls s ++ (start_text k ls (s + 1) ++ (LF ∷ []))

abbrev pub reached_text : Kind → List (List ℕ) → ℕ → Float → ℕ → Place → List ℕ
reached_text k ls span y s p =
    bytes "reached\t" ++ (depth_text y ++ ((TAB ∷ []) ++ (when_text span s p.parameter ++ rows_text k ls p.segment)))

abbrev pub job_text : Kind → List (List ℕ) → ℕ → Float → Result Job Miss → List ℕ
job_text k ls span y (Err (Refused r)) = refused_text r
job_text k ls span y (Err (OffCurve n)) = refused_text OffCurve
job_text k ls span y (Ok Flat) = bytes "flat\n"
job_text k ls span y (Ok Before) = side_text (bytes "before\t") y
job_text k ls span y (Ok Start) = side_text (bytes "start\t") y
job_text k ls span y (Ok (UnderWay s p)) = reached_text k ls span y s p
job_text k ls span y (Ok End) = side_text (bytes "end\t") y
job_text k ls span y (Ok Beyond) = side_text (bytes "beyond\t") y

-- a span of one second where none was given
abbrev pub table_by : Kind → ℕ → Table
table_by k span = record { basis = basis_of k; span = cond (leb 1 span) span 1 }

abbrev pub find_text : Kind → List Float → List (List ℕ) → ℕ → Float → List ℕ
find_text k ks ls span y = job_text k ls span y (stopped_of (table_by k span) y ks false)

-- ---- the answer to a question, and the span after it
unfoldable pub text_by : Kind → List Float → List (List ℕ) → ℕ → Question → List ℕ
text_by k ks ls span Q.Table = text_of (curve (basis_of k) [] ks)
text_by k ks ls span (Q.Row n) = row_text k ks n
text_by k ks ls span (Q.Find y) = find_text k ks ls span y
text_by k ks ls span (Q.At n) = at_text (basis_of k) ks span n
text_by k ks ls span (Q.Every n) = every_text (basis_of k) ks span n
text_by k ks ls span Q.Nothing = refused_text BadLine

unfoldable pub span_by : Kind → List Float → ℕ → Question → ℕ
span_by k ks span Q.Table = span
span_by k ks span (Q.Row n) = cond (good_span (curve_seconds k ks n)) (curve_seconds k ks n) span
span_by k ks span (Q.Find y) = span
span_by k ks span (Q.At n) = span
span_by k ks span (Q.Every n) = span
span_by k ks span Q.Nothing = span

unfoldable pub answer_text : Kind → List Float → List (List ℕ) → ℕ → Line → List ℕ
answer_text k ks ls span o = text_by k ks ls span (question_of o)

unfoldable pub span_after : Kind → List Float → ℕ → Line → ℕ
span_after k ks span o = span_by k ks span (question_of o)
