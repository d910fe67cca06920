-- The definitions' results as the code has them: a count stands for each list of evaluations. Definitions only.
use Rattle.std.specs.Prelude.{◌≡◌, List, Bool, ℕ, length, Float}
use Rattle.basis.specs.declared.Basis.{Basis}
use Rattle.basis.specs.Basis.{matrix_of}
use Rattle.doubles.specs.Numbers.{nought, one}
use Rattle.spline.specs.declared.RowSums.{RowSums}
use Rattle.spline.specs.Segment.{horner_of, segment_value}
use Rattle.inverse_segment.specs.declared.Ground.{Ground}
use Rattle.inverse_segment.specs.declared.Bracket.{Bracket}
use Rattle.inverse_segment.specs.declared.State.{State}
use Rattle.inverse_segment.specs.declared.Method.{Method}
use Rattle.inverse_segment.specs.declared.Method.TheVariants.{AsCrate, Taught, Steady}
use Rattle.inverse_segment.specs.declared.NextPlace.{NextPlace}
use Rattle.inverse_segment.specs.declared.SegmentEnds.{SegmentEnds}
use Rattle.inverse_segment.specs.declared.RoundResult.{RoundResult}
use Rattle.inverse_segment.specs.declared.RoundResult.TheVariants.{Done, Next}
use Rattle.inverse_segment.specs.declared.Stop.{Stop}
use Rattle.inverse_segment.specs.declared.Trial.{Trial}
use Rattle.inverse_segment.specs.declared.Trial.TheVariants.{Outside, Inside}
use Rattle.inverse_segment.specs.declared.Place.{Place}
use Rattle.inverse_segment.specs.Evaluations.{Evaluations}
use Rattle.inverse_segment.specs.Round.{Weighting, halving, toward, uses_regula_falsi, Rule, chord, Round, found, on, round_of}
use Rattle.inverse_segment.specs.Rounds.{Arrival, rounds}
use Rattle.inverse_segment.specs.Segment.{start, entered, Entry, outside, inside, enter}
use Rattle.inverse_segment.specs.Steady.{allowed, steady}
use Rattle.inverse_segment.specs.Method.{rule_of}

abbrev pub shown : Round → RoundResult
shown (found g x b ev) = Done g x b (length ev)
shown (on st ev) = Next st (length ev)

-- how often the side was repeated, and the count, after a round
abbrev pub repeats_after : RoundResult → ℕ
repeats_after (Done g x b n) = 0
repeats_after (Next st n) = st.repeats

abbrev pub count_after : RoundResult → ℕ
count_after (Done g x b n) = n
count_after (Next st n) = n

abbrev pub stop_at : (ground : Ground) → Float → Bracket → ℕ → Stop
stop_at g x b n = record { ground = g; local = x; lower = b.lower; upper = b.upper; count = n }

-- the segment's number is known where it was entered; the count is the length of the list of evaluations
abbrev pub stop_of : Arrival → Stop
stop_of p = record { ground = p.ground; local = p.local; lower = p.lower; upper = p.upper; count = length p.made }

-- the place that a stop in segment s is, with its parameter
abbrev pub place_at : Float → ℕ → Stop → Place
place_at x s e =
    record {
      parameter = x;
      ground = e.ground;
      segment = s;
      local = e.local;
      lower = e.lower;
      upper = e.upper;
      count = e.count;
    }

-- what trying a segment came to; how many evaluations were made until then is the caller's to know
abbrev pub trial_of : Entry → Trial
trial_of (outside v ev) = Outside v
trial_of (inside p) = Inside (stop_of p)

-- ---- the next place
-- the weighting of each method
abbrev pub weighting_of : Method → Weighting
weighting_of AsCrate = halving
weighting_of Taught = toward
weighting_of Steady = toward

-- r is what the rule chooses in round i
abbrev pub Chooses : Rule → ℕ → ℕ → Float → State → NextPlace → Type 0
Chooses R limit i y st r = (r.bracket ≡ (R limit i y st).bracket) × (r.place ≡ (R limit i y st).place)

-- whether a round goes by regula falsi, and the width allowed in it, stand for its number
abbrev pub ChordIs : Method → Float → Bool → State → NextPlace → Type 0
ChordIs how y regula_falsi st r = (limit i : ℕ) → regula_falsi ≡ uses_regula_falsi limit i st → Chooses
    (chord (weighting_of how)) limit i y st r

abbrev pub PacedIs : Float → Float → State → NextPlace → Type 0
PacedIs y width st r = (limit i : ℕ) → width ≡ allowed i → Chooses steady limit i y st r

abbrev pub ChoiceIs : Method → Float → Bool → Float → State → NextPlace → Type 0
ChoiceIs how y regula_falsi width st r = (limit i : ℕ) → regula_falsi ≡ uses_regula_falsi limit i st → width ≡ allowed i
    → Chooses (rule_of how) limit i y st r

-- ---- the rounds: r is what the definition gives, whatever the segment's number and the n evaluations before it were
abbrev pub RoundIs : Method → RowSums → Float → Float → Bool → Bool → Float → State → ℕ → RoundResult → Type 0
RoundIs how w y ε rising regula_falsi width st n r = (limit i : ℕ) → regula_falsi ≡ uses_regula_falsi limit i st → width ≡ allowed i
    → (s : ℕ) (ev : Evaluations) → length ev ≡ n
    → r ≡ shown (round_of (rule_of how) (horner_of w) s y ε rising limit i st ev)

abbrev pub RoundsIs : Method → RowSums → Float → Float → Bool → Bracket → ℕ → ℕ → Stop → Type 0
RoundsIs how w y ε rising b limit n r = (s : ℕ) (ev : Evaluations) → length ev ≡ n
    → r ≡ stop_of (rounds (rule_of how) (horner_of w) s y ε rising limit limit 0 (on (start b) ev))

-- ---- the segment
abbrev pub EnteredIs : Method → RowSums → Float → Float → ℕ → Float → Float → ℕ → Stop → Type 0
EnteredIs how w y ε limit v0 v1 n r = (s : ℕ) (ev : Evaluations) → length ev ≡ n
    → r ≡ stop_of (entered (rule_of how) (horner_of w) s y ε limit v0 v1 ev)

-- a segment's row sums, and the values of both its ends
abbrev pub ends_of : RowSums → SegmentEnds
ends_of w = record { sums = w; v0 = horner_of w nought; v1 = horner_of w one }

-- what trying the segment with the knots cv comes to, whatever its number and the n evaluations before it were
abbrev pub EnterIs : Method → Basis → List Float → Float → Float → ℕ → ℕ → Trial → Type 0
EnterIs how b cv y ε limit n r = (s : ℕ) (ev : Evaluations) → length ev ≡ n
    → r ≡ trial_of (enter (rule_of how) (segment_value (matrix_of b) cv) s y ε limit ev)
