-- One round of the inversion of a segment. Definitions only.
use Rattle.std.specs.Prelude.{Bool, true, false, cond, ◌&&◌, ℕ, suc, ◌*◌, ◌/◌, ltb, Option, None, Some, Float}
use Rattle.std.specs.Bool.{beq}
use Rattle.std.specs.Float.{binary64}
use Rattle.std.specs.Float.Ieee.{add, sub, mul, div, lt}
use Rattle.doubles.specs.Numbers.{half, hundredth, ninety_nine_hundredths, trillionth, magnitude_of}
use Rattle.doubles.specs.Lerp.{lerp_of}
use Rattle.inverse_segment.specs.declared.Ground.{Ground}
use Rattle.inverse_segment.specs.declared.Ground.TheVariants.{Value, Width}
use Rattle.inverse_segment.specs.declared.Bracket.{Bracket}
use Rattle.inverse_segment.specs.declared.Side.{Side}
use Rattle.inverse_segment.specs.declared.Side.TheVariants.{Lower, Upper}
use Rattle.inverse_segment.specs.declared.State.{State}
use Rattle.inverse_segment.specs.Evaluations.{Evaluations, see}

-- ---- the width test
abbrev pub greater : Float → Float → Float
greater ε t = cond (lt t ε) ε t

-- the width is below the greater of the precision and width × 1e-12
unfoldable pub narrow : Float → Bracket → Bool
narrow ε b =
    let width = magnitude_of (sub binary64 b.upper b.lower) in
    lt width (greater ε (mul binary64 width trillionth))

-- the place with the fraction 0.5
abbrev pub midpoint : Bracket → Float
midpoint b = lerp_of b.lower b.upper half

-- ---- the end that moved last
abbrev pub is_last : Side → Option Side → Bool
is_last e None = false
is_last Lower (Some Lower) = true
is_last Lower (Some Upper) = false
is_last Upper (Some Lower) = false
is_last Upper (Some Upper) = true

-- how often an end that moves has moved in a row before: one more than is counted, or 0 where the other moved last
abbrev pub repeats_of : Side → State → ℕ
repeats_of e st = cond (is_last e st.side) (suc st.repeats) 0

-- ---- the weighting
-- what it makes of the bracket, given the target and whether the lower end moved last
abbrev pub Weighting : Type 0
Weighting = Float → Bool → Bracket → Bracket

-- the weighed value of the end that moved last is halved
unfoldable pub halving : Weighting
halving y true b = record { lower = b.lower; upper = b.upper; v0 = mul binary64 b.v0 half; v1 = b.v1 }
halving y false b = record { lower = b.lower; upper = b.upper; v0 = b.v0; v1 = mul binary64 b.v1 half }

-- as it is taught: the distance to the target is halved at the end that did not move last
abbrev pub nearer : Float → Float → Float
nearer y w = add binary64 y (mul binary64 (sub binary64 w y) half)

unfoldable pub toward : Weighting
toward y true b = record { lower = b.lower; upper = b.upper; v0 = b.v0; v1 = nearer y b.v1 }
toward y false b = record { lower = b.lower; upper = b.upper; v0 = nearer y b.v0; v1 = b.v1 }

-- ---- the fraction
-- whether a round goes by regula falsi: its number, from 0, is below 3·limit/4 rounded down, and the same-side count below 3
abbrev pub uses_regula_falsi : ℕ → ℕ → State → Bool
uses_regula_falsi limit i st = ltb i (3 * limit / 4) && ltb st.repeats 3

-- in such a round, with a count above 0, the weighting comes first
unfoldable pub weighed : Weighting → Float → Bool → State → Bracket
weighed W y regula_falsi st = cond (regula_falsi && ltb 0 st.repeats) (W y (is_last Lower st.side) st.bracket) st.bracket

-- strictly between 0.01 and 0.99; a half stands for any other, and for NaN
unfoldable pub kept : Float → Float
kept t = cond (lt hundredth t && lt t ninety_nine_hundredths) t half

-- (y − v0)/(v1 − v0) in a round by regula falsi; a half in any other
unfoldable pub fraction : Float → Bool → Bracket → Float
fraction y regula_falsi b = cond regula_falsi (kept (div binary64 (sub binary64 y b.v0) (sub binary64 b.v1 b.v0))) half

-- ---- the rule
-- what a round goes by: the bracket as weighed, and the place that is evaluated
pub record Choice : Type 0 where
  pub bracket : Bracket
  pub place : Float

-- given the limit, the round's number from 0, the target and the state
abbrev pub Rule : Type 0
Rule = ℕ → ℕ → Float → State → Choice

-- the weighted chord's place, over the weighting
unfoldable pub chord : Weighting → Rule
chord W limit i y st =
    let regula_falsi = uses_regula_falsi limit i st in
    let b = weighed W y regula_falsi st in
    record { bracket = b; place = lerp_of b.lower b.upper (fraction y regula_falsi b) }

-- by the weighting that halves: the crate's rule
abbrev pub as_crate : Rule
as_crate = chord halving

-- ---- the move
-- the lower end moves to x, whose value is v, or else the upper; the count grows on a repeated side and is 0 otherwise
unfoldable pub moved : Bool → Bracket → State → Float → Float → State
moved true b st x v =
    record {
      bracket = record { lower = x; upper = b.upper; v0 = v; v1 = b.v1 };
      side = Some Lower;
      repeats = repeats_of Lower st;
    }
moved false b st x v =
    record {
      bracket = record { lower = b.lower; upper = x; v0 = b.v0; v1 = v };
      side = Some Upper;
      repeats = repeats_of Upper st;
    }

-- ---- the round
-- what it leaves: a ground, a local place and the bracket; or the next round's state
pub data Round : Type 0 where
  found : Ground → Float → Bracket → Evaluations → Round
  on : State → Evaluations → Round

-- the lower end moves when (value < y) agrees with rising; then the value test
unfoldable pub settled : Float → Float → Bool → Bracket → State → Float → Float → Evaluations → Round
settled y ε rising b st x v ev =
    let next = moved (beq (lt v y) rising) b st x v in
    cond (lt (magnitude_of (sub binary64 v y)) ε) (found Value x next.bracket ev) (on next ev)

-- the segment is evaluated at the place that the rule chooses
unfoldable pub probed : Rule → (Float → Float) → ℕ → Float → Float → Bool → ℕ → ℕ → State → Evaluations → Round
probed R f s y ε rising limit i st ev =
    let c = R limit i y st in
    let seen = see f s c.place ev in
    settled y ε rising c.bracket st c.place seen.value seen.made

-- the width test comes first, and the midpoint is its answer
unfoldable pub round_of : Rule → (Float → Float) → ℕ → Float → Float → Bool → ℕ → ℕ → State → Evaluations → Round
round_of R f s y ε rising limit i st ev =
    let r = probed R f s y ε rising limit i st ev in
    cond (narrow ε st.bracket) (found Width (midpoint st.bracket) st.bracket ev) r
