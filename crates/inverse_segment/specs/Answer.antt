-- The answer of an inversion, and the call that inverts one segment: what it refuses, and what it answers. Definitions only.
use Rattle.inverse_segment.specs.Inversion.{Inversion}
use Rattle.inverse_segment.specs.declared.Miss.TheVariants.{Refused, OffCurve}
use Rattle.std.specs.Prelude.{List, [], ◌∷◌, ◌++◌, ℕ, length, Float, Ok, Err}
use Rattle.std.specs.Float.{binary64}
use Rattle.std.specs.Float.Ieee.{of_bits}
use Rattle.error.specs.declared.Refusal.TheVariants.{OffCurve as OffCurveRow}
use Rattle.error.specs.Refusals.{number_of, Uses, first, Verdict}
use Rattle.basis.specs.declared.Basis.{Basis}
use Rattle.spline.specs.Segment.{segment_of}
use Rattle.checks.specs.Checks.{segment_length, asked, bad_knot}
use Rattle.inverse_segment.specs.declared.Ground.{Ground}
use Rattle.inverse_segment.specs.declared.Place.{Place}
use Rattle.inverse_segment.specs.Evaluations.{Evaluations}
use Rattle.inverse_segment.specs.Round.{Rule, as_crate}
use Rattle.inverse_segment.specs.Rounds.{Arrival}
use Rattle.inverse_segment.specs.Segment.{Outcome, off, placed, evaluations_of, enter, outcome_of}

-- ---- what an answer tells
-- the refusal's number; 0 for a place
abbrev pub number_told : Inversion → ℕ
number_told (Err (Refused r)) = number_of r
number_told (Err (OffCurve n)) = number_of OffCurveRow
number_told (Ok p) = 0

-- the count, which a place and refusal 11 have; 0 for the other refusals
abbrev pub count_told : Inversion → ℕ
count_told (Err (Refused r)) = 0
count_told (Err (OffCurve n)) = n
count_told (Ok p) = p.count

-- the count is the length of the list of evaluations; the parameter is found from the segment and the local place
abbrev pub place_of : (ℕ → Float → Float) → Arrival → Place
place_of parameter p =
    let ground : Ground = p.ground in record {
      parameter = parameter p.segment p.local;
      ground = ground;
      segment = p.segment;
      local = p.local;
      lower = p.lower;
      upper = p.upper;
      count = length p.made;
    }

abbrev pub answered : (ℕ → Float → Float) → Outcome → Inversion
answered parameter (off ev) = Err (OffCurve (length ev))
answered parameter (placed p) = Ok (place_of parameter p)

-- for one segment the parameter is the local place
abbrev pub alone : ℕ → Float → Float
alone s x = x

abbrev pub inverted : Verdict → Inversion → Inversion
inverted (Ok _) a = a
inverted (Err r) a = Err (Refused r)

-- ---- the rows of the refusal table that the call uses
abbrev pub inverse_segment_uses : Float → List Float → ℕ → Float → Uses
inverse_segment_uses y cv limit ε = segment_length (length cv) ++ asked y limit ε ++ (bad_knot cv ∷ [])

-- ---- the call, by the rule R
-- the defaults: 32 rounds, and the double nearest to 1e-10
abbrev pub default_limit : ℕ
default_limit = 32

abbrev pub default_precision : Float
default_precision = of_bits binary64 0x3ddb_7cdf_d9d7_bdbb

unfoldable pub inverse_segment_by : Rule → Basis → Float → List Float → ℕ → Float → Inversion
inverse_segment_by R b y cv limit ε =
    inverted (first (inverse_segment_uses y cv limit ε)) (answered alone (outcome_of (enter R (segment_of b cv 0) 0 y ε limit [])))

-- the evaluations that it makes, the latest first: none where it refuses by a row
abbrev pub unless_refused : Verdict → Evaluations → Evaluations
unless_refused (Ok _) ev = ev
unless_refused (Err r) ev = []

unfoldable pub segment_evaluations_by : Rule → Basis → Float → List Float → ℕ → Float → Evaluations
segment_evaluations_by R b y cv limit ε =
    unless_refused (first (inverse_segment_uses y cv limit ε)) (evaluations_of (outcome_of (enter R (segment_of b cv 0) 0 y ε limit [])))

-- as the crate inverts
abbrev pub inverse_segment_of : Basis → Float → List Float → ℕ → Float → Inversion
inverse_segment_of = inverse_segment_by as_crate
