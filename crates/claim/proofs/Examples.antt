-- Answers of our own that fail the check: one by `width`, where the curve is steep, and one by `end`, where the curve stays away from its knots. Assumes
-- nothing.
use Rattle.std.specs.Prelude.{Ok, false}
use mathlib.Core.Path.{◌≡◌, refl}
use mathlib.Core.Bool.{true, false}
use mathlib.Core.List.{List, [], ◌∷◌}
use lib.IntN.{pos, negsuc}
use lib.Ieee.{Float, fin, round, of_int, of_bits, add, sub, mul, div, lt, le, eq, ne, neg, is_nan}
use Rattle.basis.specs.declared.Basis.TheVariants.{Bspline, Bezier}
use Rattle.basis.specs.Basis.{frac, row, matrix_of}
use Rattle.doubles.specs.Numbers.{nought, half, magnitude_of}
use Rattle.doubles.specs.Lerp.{lerp_of}
use Rattle.checks.specs.Checks.{in_range, all_in_range, precise}
use Rattle.inverse_segment.specs.declared.Ground.TheVariants.{End, Width}
use Rattle.inverse_segment.specs.Round.{narrow, halving, weighed, chord, kept, fraction, moved, settled, probed, round_of}
use Rattle.inverse_segment.specs.Rounds.{rounds}
use Rattle.inverse_segment.specs.Segment.{entered, enter}
use Rattle.inverse_segment.specs.Answer.{default_limit, default_precision}
use Rattle.inverse_search.specs.Search.{tries, last, halve, find}
use Rattle.inverse_order.specs.Order.{ordered}
use Rattle.inverse.specs.Curve.{parameter_of, located}
use Rattle.inverse.specs.Inverse.{inverse_by, inverse_of}
use Rattle.claim.specs.Claim.{claim_of}

abbrev eighth : Float
eighth = fin false 1 (negsuc 2)

abbrev quarter : Float
quarter = fin false 1 (negsuc 1)

abbrev four : Float
four = fin false 1 (pos 2)

-- 0, 8, 12, 16
pub steep : List Float
steep = nought ∷ fin false 1 (pos 3) ∷ fin false 3 (pos 2) ∷ fin false 1 (pos 4) ∷ []

-- target 4 to a precision of 1/2: the bracket 0 to 1/4 is narrow, and its midpoint is told, where the curve is at 361/128
pub width_fails : (inverse_of Bezier four steep true default_limit half ≡ Ok
    (record { parameter = eighth; ground = Width; segment = 0; local = eighth; lower = nought; upper = quarter; count = 3 }))
    × (claim_of Bezier four 0 eighth half steep ≡ Ok false)
unfolding steep matrix_of row frac round of_int of_bits add sub mul div lt le eq ne neg is_nan in_range all_in_range precise ordered magnitude_of lerp_of narrow
    halving weighed chord kept fraction moved settled probed round_of rounds entered enter tries last halve find parameter_of located inverse_by claim_of
width_fails = (refl, refl)

-- 0, 0, 6, 12
pub away : List Float
away = nought ∷ nought ∷ fin false 3 (pos 1) ∷ fin false 3 (pos 2) ∷ []

-- target 0: the second knot is 0, and the curve begins at 1
pub end_fails : (inverse_of Bspline nought away true default_limit default_precision ≡ Ok
    (record { parameter = nought; ground = End; segment = 0; local = nought; lower = nought; upper = nought; count = 0 }))
    × (claim_of Bspline nought 0 nought default_precision away ≡ Ok false)
unfolding away matrix_of row frac round of_bits add sub mul div lt le eq ne neg is_nan in_range all_in_range precise ordered magnitude_of lerp_of parameter_of
    located inverse_by claim_of
end_fails = (refl, refl)
