-- The two calls of evaluation: what each refuses, and what it answers. Definitions only.
use Rattle.error.specs.declared.Refusal.{Refusal}
use Rattle.std.specs.Prelude.{not, ◌&&◌, List, [], ◌∷◌, ◌++◌, ℕ, length, Float, Ok, Err, Result}
use Rattle.std.specs.Float.Ieee.{le, is_nan}
use Rattle.error.specs.declared.Refusal.TheVariants.{NotANumber}
use Rattle.error.specs.Refusals.{number_of, Uses, first, Verdict}
use Rattle.basis.specs.declared.Basis.{Basis}
use Rattle.basis.specs.Basis.{matrix_of}
use Rattle.doubles.specs.Numbers.{nought, one}
use Rattle.spline.specs.Segment.{segment_value}
use Rattle.checks.specs.Checks.{curve_length, segment_length, bad_knot}
use Rattle.spline.specs.Curve.{curve_value}

-- a value, or a refusal
abbrev pub Evaluation : Type 0
Evaluation = Result Float Refusal

-- the number that an answer tells: the refusal's; 0 for a value
abbrev pub evaluated_number : Evaluation → ℕ
evaluated_number (Ok v) = 0
evaluated_number (Err r) = number_of r

abbrev pub evaluated : Verdict → Float → Evaluation
evaluated (Ok _) v = Ok v
evaluated (Err r) v = Err r

-- a curve
abbrev pub spline_uses : Basis → Float → List Float → Uses
spline_uses b x ks = curve_length b (length ks) ++ ((NotANumber, is_nan x) ∷ bad_knot ks ∷ [])

unfoldable pub spline_of : Basis → Float → List Float → Evaluation
spline_of b x ks = evaluated (first (spline_uses b x ks)) (curve_value b x ks)

-- one segment: a parameter outside 0 to 1 is refused too, and NaN lies outside
abbrev pub spline_segment_uses : Float → List Float → Uses
spline_segment_uses x cv = segment_length (length cv) ++ ((NotANumber, not (le nought x && le x one)) ∷ bad_knot cv ∷ [])

unfoldable pub spline_segment_of : Basis → Float → List Float → Evaluation
spline_segment_of b x cv = evaluated (first (spline_segment_uses x cv)) (segment_value (matrix_of b) cv x)
