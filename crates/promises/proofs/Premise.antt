-- The premise of "not on the curve", above 12 segments: a curve and a target that meet it at the call, and a curve that shows why it is asked. Assumes nothing.
use Rattle.inverse_segment.specs.declared.Miss.TheVariants.{OffCurve}
use Rattle.std.specs.Prelude.{Err}
use mathlib.Core.Path.{◌≡◌, refl}
use mathlib.Core.Bool.{true, false}
use mathlib.Core.List.{List, [], ◌∷◌}
use Prim.Native.Nat.{ℕ, zero, suc, ◌*◌}
use native.Mathlib.Omega.{arith}
use lib.Dec.{T}
use lib.IntN.{pos}
use lib.Ieee.{Float, binary64, of_int, of_bits, round, add, sub, mul, div, lt, le, eq, ne, neg, is_nan}
use lib.Count.{count_leading_zeros}
use Rattle.basis.specs.declared.Basis.TheVariants.{Bspline, Power}
use Rattle.basis.specs.Basis.{frac, row, matrix_of}
use Rattle.doubles.specs.Numbers.{nought, one, half, magnitude_of}
use Rattle.doubles.specs.Lerp.{lerp_of}
use Rattle.doubles.proofs.Tests.{each, each_at}
use Rattle.spline.specs.Segment.{segment_of}
use Rattle.checks.specs.Checks.{in_range, all_in_range, first_bad, precise}
use Rattle.inverse_segment.specs.Round.{narrow, halving, weighed, kept, fraction, moved, settled, probed, round_of}
use Rattle.inverse_segment.specs.Rounds.{rounds}
use Rattle.inverse_segment.specs.Segment.{entered, enter}
use Rattle.inverse_segment.specs.Answer.{default_limit, default_precision}
use Rattle.inverse_order.specs.Order.{ordered, turns_at}
use Rattle.inverse_segment.specs.declared.Method.TheVariants.{AsCrate}
use Rattle.inverse_search.specs.Bound.{bits_of}
use Rattle.inverse_search.specs.Search.{tries, last, halve, find}
use Rattle.inverse_search.proofs.Found.{Holds, Straight}
use Rattle.inverse_order.specs.declared.EndsBy.TheVariants.{Knots}
use Rattle.inverse.specs.Curve.{parameter_of, located}
use Rattle.inverse.specs.Inverse.{inverse_by, inverse_of}
use Rattle.inverse.proofs.Promises.{Pass, Quiet, Premise}

-- 6·a, 6·(a + 1), and so on
sixes : ℕ → ℕ → List Float
sixes a zero = []
sixes a (suc n) = of_int binary64 (pos (6 * a)) ∷ sixes (suc a) n

-- ---- met: the B-spline 0, 0, 6, 12, … 84, of 13 segments
pub sloping : List Float
unfolding sixes of_int
sloping = nought ∷ sixes 0 15

abbrev g : ℕ → Float → Float
g = segment_of Bspline sloping

starts : T (each (λ i. le (g i nought) (g (suc i) nought)) 12)
unfolding each sixes sloping matrix_of row frac round of_int add mul lt le eq
starts = tt

ends : T (each (λ i. le (g i one) (g (suc i) one)) 12)
unfolding each sixes sloping matrix_of row frac round of_int add mul lt le eq
ends = tt

pub premise_met : Straight (segment_of Bspline sloping) half 13 true
premise_met =
    record {
      starts = λ i l. each_at (λ i. le (g i nought) (g (suc i) nought)) 12 i starts (omega arith);
      ends = λ i l. each_at (λ i. le (g i one) (g (suc i) one)) 12 i ends (omega arith);
    }

-- of the call: no row applies, the end rule is silent, and neither starts nor ends turn against the direction
passes : Pass Knots AsCrate Bspline half sloping true default_limit default_precision
unfolding sixes sloping in_range all_in_range first_bad precise ordered turns_at of_int of_bits round lt le eq neg is_nan
passes = refl

quiet : Quiet Knots AsCrate Bspline half sloping true default_limit default_precision
unfolding sixes sloping of_int of_bits round lt le eq neg
quiet = (tt, tt)

straight : Premise Knots AsCrate Bspline half sloping true default_limit default_precision
unfolding sixes sloping of_int round lt le eq
straight _ = premise_met

pub premise_met_at_the_call : Pass Knots AsCrate Bspline half sloping true default_limit default_precision
    × Quiet Knots AsCrate Bspline half sloping true default_limit default_precision
    × Premise Knots AsCrate Bspline half sloping true default_limit default_precision
premise_met_at_the_call = (passes, quiet, straight)

-- ---- needed: a Power curve of 13 segments, the first from 0 to 1, the last from 1 to 2, and 0 in between. Its ends turn back after the first;
-- so the halving goes right past it, and refuses the target 1/2 after 12 evaluations, which the first segment's ends enclose
zeros : ℕ → List Float → List Float
zeros zero l = l
zeros (suc n) l = nought ∷ zeros n l

pub jumping : List Float
unfolding zeros
jumping = nought ∷ nought ∷ one ∷ nought ∷ zeros 44 (nought ∷ nought ∷ one ∷ one ∷ [])

pub premise_needed : T (Holds (segment_of Power jumping) half 13 0) × (inverse_of Power half jumping false default_limit default_precision ≡ Err (OffCurve 12))
unfolding zeros jumping matrix_of row frac round of_int of_bits add sub mul div lt le eq ne neg is_nan in_range all_in_range precise ordered bits_of
    count_leading_zeros
    magnitude_of lerp_of narrow halving weighed kept fraction moved settled probed round_of rounds entered enter tries last halve find parameter_of located
    inverse_by
premise_needed = (tt, refl)
