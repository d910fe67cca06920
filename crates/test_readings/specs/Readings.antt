-- The readings: one table of what is asked and what is told. proofs/Readings.antt has the one statement that the definitions give it.
-- Definitions only.
use Rattle.inverse_segment.specs.Inversion.{Inversion}
use Rattle.inverse_segment.specs.declared.Miss.TheVariants.{Refused, OffCurve}
use Rattle.std.specs.Prelude.{◌≡◌, Bool, true, false, List, [], ◌∷◌, ◌++◌, map, reverse, ℕ, zero, suc, ◌*◌, pos, Float, Ok, Err}
use Rattle.std.specs.Float.{binary64}
use Rattle.std.specs.Float.Ieee.{of_bits, of_int, round}
use Rattle.error.specs.declared.Refusal.{Refusal}
use Rattle.error.specs.Refusals.{number_of, places_of, first, Verdict}
use Rattle.basis.specs.declared.Basis.{Basis}
use Rattle.basis.specs.declared.Basis.TheVariants.{Bspline, Bezier, CatmullRom, Hermite, Linear, Power}
use Rattle.doubles.specs.Numbers.{nought, one, half}
use Rattle.checks.specs.Checks.{curve_length}
use Rattle.spline.specs.Evaluation.{spline_of, Evaluation}
use Rattle.inverse_segment.specs.declared.Ground.{Ground}
use Rattle.inverse_segment.specs.declared.Ground.TheVariants.{End, Edge, Value, Spent}
use Rattle.inverse_segment.specs.Answer.{inverse_segment_by, default_limit, default_precision}
use Rattle.inverse.specs.Inverse.{inverse_by, inverse_of, inverse_evaluations}
use Rattle.inverse_order.specs.declared.EndsBy.TheVariants.{Curve}
use Rattle.inverse_segment.specs.declared.Method.{Method}
use Rattle.inverse_segment.specs.declared.Method.TheVariants.{AsCrate, Taught, Steady}
use Rattle.inverse_segment.specs.Method.{rule_of}
use Rattle.convert.specs.Conversion.{Conversion, gives, refuses, converted_of}

-- ---- what a reading tells: a value or the knots, a place by its parameter, ground and count, a bracket,
-- or a refusal's number, 11 with its count; that a length is accepted; segments
pub data ReadingAnswer : Type 0 where
  value : Float → ReadingAnswer
  place : Float → Ground → ℕ → ReadingAnswer
  -- the bracket's two ends, the ground and the count
  bracket : Float → Float → Ground → ℕ → ReadingAnswer
  knots : List Float → ReadingAnswer
  refused : ℕ → ReadingAnswer
  -- with the knot's number
  refused_at : ℕ → ℕ → ReadingAnswer
  off : ℕ → ReadingAnswer
  accepted : ReadingAnswer
  segments : List ℕ → ReadingAnswer

abbrev pub told : ℕ → List ℕ → ReadingAnswer
told n [] = refused n
told n (i ∷ is) = refused_at n i

abbrev pub of_refusal : Refusal → ReadingAnswer
of_refusal r = told (number_of r) (places_of r)

abbrev pub of_evaluation : Evaluation → ReadingAnswer
of_evaluation (Ok x) = value x
of_evaluation (Err r) = of_refusal r

abbrev pub of_inversion : Inversion → ReadingAnswer
of_inversion (Err (Refused r)) = of_refusal r
of_inversion (Err (OffCurve n)) = off n
of_inversion (Ok p) = place p.parameter p.ground p.count

abbrev pub of_bracket : Inversion → ReadingAnswer
of_bracket (Err (Refused r)) = of_refusal r
of_bracket (Err (OffCurve n)) = off n
of_bracket (Ok p) = bracket p.lower p.upper p.ground p.count

abbrev pub of_conversion : Conversion → ReadingAnswer
of_conversion (gives l) = knots l
of_conversion (refuses r) = of_refusal r

abbrev pub of_verdict : Verdict → ReadingAnswer
of_verdict (Ok _) = accepted
of_verdict (Err r) = of_refusal r

-- ---- a reading: what is asked, and what is told
pub data Question : Type 0 where
  -- whether a number of knots suits a basis
  knots_of_lem : Basis → ℕ → Question
  -- a curve's value at a parameter
  at : Basis → List Float → Float → Question
  -- the place of a target: with the order check or without, to a precision
  place_of : Basis → List Float → Float → Bool → Float → Question
  -- the same by the curve's own ends
  own_place_of : Basis → List Float → Float → Bool → Float → Question
  -- the bracket that an inversion of one segment leaves, by a method, with a limit
  bracket_of : Method → Basis → List Float → Float → ℕ → Question
  -- the segments that are evaluated for it, the first one first
  visited : Basis → List Float → Float → Question
  -- a knot vector in another basis
  converted : Basis → Basis → List Float → Question

pub data Reading : Type 0 where
  tells : Question → ReadingAnswer → Reading

abbrev pub answer : Question → ReadingAnswer
answer (knots_of_lem b n) = of_verdict (first (curve_length b n))
answer (at b ks x) = of_evaluation (spline_of b x ks)
answer (place_of b ks y check ε) = of_inversion (inverse_of b y ks check default_limit ε)
answer (own_place_of b ks y check ε) = of_inversion (inverse_by Curve AsCrate b y ks check default_limit ε)
answer (bracket_of how b cv y limit) = of_bracket (inverse_segment_by (rule_of how) b y cv limit default_precision)
answer (visited b ks y) = segments (reverse (map (λ e. e.0) (inverse_evaluations b y ks true default_limit default_precision)))
answer (converted from to ks) = of_conversion (converted_of from to ks 4096)

-- each tells what is answered
abbrev pub Hold : List Reading → Type 0
Hold [] = Unit
Hold (tells a t ∷ rs) = (answer a ≡ t) × Hold rs

-- ---- doubles
-- −0.4, 0.4, 0.9 and 1.9, by their bits
abbrev pub minus_four_tenths : Float
minus_four_tenths = of_bits binary64 0xbfd9_9999_9999_999a

abbrev pub four_tenths : Float
four_tenths = of_bits binary64 0x3fd9_9999_9999_999a

abbrev pub nine_tenths : Float
nine_tenths = of_bits binary64 0x3fec_cccc_cccc_cccd

abbrev pub nineteen_tenths : Float
nineteen_tenths = of_bits binary64 0x3ffe_6666_6666_6666

abbrev whole : ℕ → Float
whole n = of_int binary64 (pos n)

abbrev eighth : Float
eighth = round binary64 false 1 8

abbrev quarter : Float
quarter = round binary64 false 1 4

-- 2^40, and the next double up
abbrev bound : Float
bound = of_bits binary64 0x4270_0000_0000_0000

abbrev beyond : Float
beyond = of_bits binary64 0x4270_0000_0000_0001

unfoldable copies : ℕ → Float → List Float
copies zero x = []
copies (suc n) x = x ∷ copies n x

-- 6·i, 6·(i + 1), and so on
unfoldable sixes : ℕ → ℕ → List Float
sixes i zero = []
sixes i (suc n) = whole (6 * i) ∷ sixes (suc i) n

-- ---- the table, in groups
-- lengths
unfoldable pub lengths : List Reading
lengths =
    tells (knots_of_lem Bezier 4) accepted
    ∷ tells (knots_of_lem Bezier 7) accepted
    ∷ tells (knots_of_lem Bezier 3) (refused 1)
    ∷ tells (knots_of_lem Bezier 5) (refused 2)
    ∷ tells (knots_of_lem Bezier 11) (refused 2)
    ∷ tells (knots_of_lem Linear 4096) accepted
    ∷ tells (knots_of_lem Linear 4097) (refused 3)
    ∷ []

-- a value, and lengths and knots at their bounds
unfoldable pub values : List Reading
unfolding copies
values =
    tells (at CatmullRom (minus_four_tenths ∷ nought ∷ four_tenths ∷ half ∷ nine_tenths ∷ one ∷ nineteen_tenths ∷ []) quarter)
    (value (four_tenths))
    ∷ tells (at Bezier (copies 4 one) half) (value one)
    ∷ tells (at Bezier (copies 7 one) half) (value one)
    ∷ tells (at Bezier (copies 3 one) half) (refused 1)
    ∷ tells (at Bezier (copies 5 one) half) (refused 2)
    ∷ tells (at Bezier (copies 11 one) half) (refused 2)
    ∷ tells (at Linear (copies 4 bound) half) (value bound)
    ∷ tells (at Linear (copies 4 beyond) half) (refused_at 4 0)
    ∷ []

-- the most knots, and one more
unfoldable pub longest : List Reading
unfolding copies
longest =
    tells (at Linear (copies 4096 one) half) (value one)
    ∷ tells (at Linear (copies 4097 one) half) (refused 3)
    ∷ []

-- places by value, edge and end, and the order check
unfoldable pub places : List Reading
places =
    tells (place_of Linear (nought ∷ nought ∷ half ∷ half ∷ []) quarter true default_precision) (place half Value 3)
    ∷ tells (place_of Linear (nought ∷ nought ∷ one ∷ one ∷ []) eighth true eighth) (place nought Edge 2)
    ∷ tells (place_of Linear (nought ∷ nought ∷ one ∷ one ∷ []) quarter true eighth) (place quarter Value 3)
    ∷ tells (place_of Bezier (nought ∷ half ∷ half ∷ one ∷ []) quarter false default_precision) (place nought End 0)
    ∷ tells (place_of Bezier (nought ∷ half ∷ half ∷ one ∷ []) quarter true default_precision) (refused_at 10 2)
    ∷ tells (place_of CatmullRom (nought ∷ nought ∷ whole 3 ∷ whole 2 ∷ whole 5 ∷ whole 5 ∷ []) one true default_precision) (refused_at 10 2)
    ∷ []

-- a target that no segment encloses: 13 segments by halving, with the last tries at segments 0 and 1; 12 in order
unfoldable pub halvings : List Reading
unfolding sixes
halvings =
    tells (place_of Bspline (nought ∷ sixes 0 15) half true default_precision) (off 10)
    ∷ tells (own_place_of Bspline (nought ∷ sixes 0 15) half true default_precision) (place nought End 2)
    ∷ tells (visited Bspline (nought ∷ sixes 0 15) half) (segments (6 ∷ 6 ∷ 2 ∷ 2 ∷ 0 ∷ 0 ∷ 0 ∷ 0 ∷ 1 ∷ 1 ∷ []))
    ∷ tells (place_of Bspline (nought ∷ sixes 0 14) half true default_precision) (off 24)
    ∷ []

-- the square of the local place, at 1/4, after four rounds: three methods, three brackets
unfoldable pub brackets : List Reading
brackets =
    tells (bracket_of AsCrate Power (nought ∷ one ∷ nought ∷ nought ∷ []) quarter 4)
    (bracket (of_bits binary64 0x3fdd_25d7_ee30_f953) (of_bits binary64 0x3fe0_590b_2164_2c86) Spent 6)
    ∷ tells (bracket_of Taught Power (nought ∷ one ∷ nought ∷ nought ∷ []) quarter 4)
    (bracket (of_bits binary64 0x3fdd_50ed_d50e_dd51) (of_bits binary64 0x3fe0_8421_0842_1084) Spent 6)
    ∷ tells (bracket_of Steady Power (nought ∷ one ∷ nought ∷ nought ∷ []) quarter 4)
    (bracket (of_bits binary64 0x3fdf_e327_a976_fc65) (of_bits binary64 0x3fe0_8421_0842_1084) Spent 6)
    ∷ []

-- conversions; the last loses a slope at its seam
unfoldable pub conversions : List Reading
conversions =
    tells (converted Bezier Power (nought ∷ nought ∷ nought ∷ one ∷ [])) (knots (one ∷ nought ∷ nought ∷ nought ∷ []))
    ∷ tells (converted Linear Power (whole 9 ∷ one ∷ whole 3 ∷ whole 9 ∷ [])) (knots (nought ∷ nought ∷ whole 2 ∷ one ∷ []))
    ∷ tells (converted Bezier Hermite (nought ∷ nought ∷ nought ∷ nought ∷ one ∷ one ∷ one ∷ []))
    (knots (nought ∷ nought ∷ nought ∷ nought ∷ one ∷ nought ∷ []))
    ∷ []

abbrev pub table : List Reading
table = lengths ++ (values ++ (longest ++ (places ++ (halvings ++ (brackets ++ conversions)))))
