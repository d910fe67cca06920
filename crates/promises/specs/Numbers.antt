-- The number that a call owes by the rows that it uses, and the number that a reply tells. Definitions only.
use Rattle.uneven.specs.declared.DepthMiss.{DepthMiss}
use Rattle.uneven.specs.declared.Depth.{Depth}
use Rattle.uneven.specs.declared.DepthMiss.TheVariants.{Refused, OffCurve}
use Rattle.table_span.specs.declared.Table.{Table}
use Rattle.inverse_segment.specs.declared.Miss.{Miss}
use Rattle.inverse_segment.specs.declared.Place.{Place}
use Rattle.inverse_segment.specs.declared.Miss.TheVariants.{Refused, OffCurve}
use Rattle.error.specs.declared.Refusal.{Refusal}
use Rattle.std.specs.Prelude.{◌≡◌, ℕ, Ok, Err, Result, ℤ, true, false, Bool}
use Rattle.error.specs.declared.Refusal.TheVariants as R
use Rattle.error.specs.Refusals.{number_of, Uses, first, Verdict}

-- 0 where every row was passed, else the number of the one that was not
abbrev pub number_in : Verdict → ℕ
number_in (Ok _) = 0
number_in (Err r) = number_of r

-- of the first row that applies; 0 where none does
abbrev pub number_by : Uses → ℕ
number_by us = number_in (first us)

-- of a call with two tables: the first row of the first table, or where it passes of the second
abbrev pub either_of : Verdict → Verdict → Verdict
either_of (Ok _) w = w
either_of (Err r) w = Err r

abbrev pub number_by_both : Uses → Uses → ℕ
number_by_both us vs = number_in (either_of (first us) (first vs))

-- ---- what a reply tells, where the crates have no word for it
abbrev pub timed_number : Result (Place × ℕ) Miss → ℕ
timed_number (Ok (p, s)) = 0
timed_number (Err (OffCurve n)) = number_of R.OffCurve
timed_number (Err (Refused r)) = number_of r

abbrev pub handed_number : Result (Table × ℕ) Refusal → ℕ
handed_number (Ok (t, n)) = 0
handed_number (Err r) = number_of r

-- whichever table refuses
abbrev pub sounded_number : Result Depth DepthMiss → ℕ
sounded_number (Ok d) = 0
sounded_number (Err (OffCurve n)) = number_of R.OffCurve
sounded_number (Err (Refused t r)) = number_of r

abbrev pub mixture_number : Result ℤ Refusal → ℕ
mixture_number (Ok z) = 0
mixture_number (Err r) = number_of r

abbrev pub claimed_number : Result Bool Refusal → ℕ
claimed_number (Ok true) = 0
claimed_number (Ok false) = 0
claimed_number (Err r) = number_of r

-- a reply is the case that carries a count
abbrev pub Counts : {Z : Type 0} → (ℕ → Z) → Z → Type 0
Counts off z = (n : ℕ) × (z ≡ off n)
