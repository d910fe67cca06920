-- What a caller from C sees of the calls on a table with a span: the reply, and what stands behind each pointer when a call returns.
-- Definitions only.
use Rattle.error.specs.declared.Refusal.{Refusal}
use Rattle.inverse_segment.specs.declared.Miss.{Miss}
use Rattle.inverse_segment.specs.declared.Place.{Place}
use Rattle.inverse_segment.specs.declared.Miss.TheVariants.{Refused, OffCurve}
use Rattle.std.specs.Prelude.{List, [], ◌∷◌, ℕ, set, Float, Err, Ok, Result}
use Rattle.error.specs.declared.Refusal.TheVariants.{OffCurve as OffCurveRow}
use Rattle.error.specs.Refusals.{reply_of}
use Rattle.basis.specs.declared.Basis.{Basis}
use Rattle.table_span.specs.declared.Table.{Table}
use Rattle.exports_reply.specs.Replies.{ground_number}

abbrev pub table_of : ℕ → Basis → Table
table_of span b = record { basis = b; span = span }

-- ---- inversion: a place leaves all, refusal 11 its count, another refusal nothing
abbrev pub timed_reply : Result (Place × ℕ) Miss → ℕ
timed_reply (Ok (p, s)) = 0
timed_reply (Err (OffCurve n)) = reply_of OffCurveRow
timed_reply (Err (Refused r)) = reply_of r

abbrev pub timed_place : Result (Place × ℕ) Miss → List Float → List Float
timed_place (Ok (p, s)) old = p.parameter ∷ p.local ∷ p.lower ∷ p.upper ∷ []
timed_place (Err (OffCurve n)) old = old
timed_place (Err (Refused r)) old = old

-- ground, segment, count, second
abbrev pub timed_whole : Result (Place × ℕ) Miss → List ℕ → List ℕ
timed_whole (Ok (p, s)) old = ground_number p.ground ∷ p.segment ∷ p.count ∷ s ∷ []
timed_whole (Err (OffCurve n)) old = set old 2 n
timed_whole (Err (Refused r)) old = old

-- ---- conversion: 0, the new table's span and its length, or the refusal's reply and what stood there
abbrev pub handed_reply : Result (Table × ℕ) Refusal → ℕ
handed_reply (Ok (t, n)) = 0
handed_reply (Err r) = reply_of r

abbrev pub handed_span : Result (Table × ℕ) Refusal → ℕ → ℕ
handed_span (Ok (t, n)) old = t.span
handed_span (Err r) old = old

abbrev pub handed_length : Result (Table × ℕ) Refusal → ℕ → ℕ
handed_length (Ok (t, n)) old = n
handed_length (Err r) old = old
