-- Why the B-spline is left out, by example: four knots of 1, at place 0. The cubic gives 1; the three sixths, each rounded, come to the double below 1. Assumes
-- nothing.
use Rattle.std.specs.Prelude.{Ok}
use mathlib.Core.Path.{◌≡◌, refl, sym, ap, ◌∙◌, subst}
use mathlib.Core.Bool.{Bool, false}
use mathlib.Core.List.{List, [], ◌∷◌}
use Prim.Native.Nat.{ℕ, ◌*◌, ◌^◌}
use lib.IntN.{ℤ, pos, negsuc, nat_abs}
use lib.Ieee.{Float, fin, neg, add, mul, lt, le, eq}
use lib.Ieee.Fits.{eq→eqb}
use Rattle.basis.specs.declared.Basis.TheVariants.{Bspline}
use Rattle.basis.specs.Basis.{matrix_of, whole_of}
use Rattle.doubles.specs.Numbers.{nought, one}
use Rattle.doubles.specs.Number.{signed, Number}
use Rattle.spline.specs.Segment.{segment_value}
use Rattle.checks.specs.Checks.{in_range, all_in_range, first_bad}
use Rattle.spline.specs.Evaluation.{spline_segment_of}
use Rattle.spline_exact.specs.Cubic.{whole_sum, cubic}
use Rattle.spline_exact.specs.Exact.{parts}

abbrev pub ones : List Float
ones = one ∷ one ∷ one ∷ one ∷ []

abbrev pub whole_ones : List ℤ
whole_ones = pos 1 ∷ pos 1 ∷ pos 1 ∷ pos 1 ∷ []

-- 1 − 2^-53
abbrev pub below_one : Float
below_one = fin false 9007199254740991 (negsuc 52)

-- in whole numbers, multiplied by 6 × 256³: 1
pub bspline_cubic : cubic (whole_of Bspline) whole_ones 0 ≡ pos (6 * 256 ^ 3)
unfolding cubic whole_sum
bspline_cubic = refl

pub bspline_value : segment_value (matrix_of Bspline) ones nought ≡ below_one
unfolding matrix_of add mul
bspline_value = refl

pub bspline_answers : spline_segment_of Bspline nought ones ≡ Ok below_one
unfolding spline_segment_of in_range all_in_range first_bad matrix_of neg add mul lt le eq
bspline_answers = refl

-- 2^25 times that is no 2^25
pub bspline_rounds : Number (segment_value (matrix_of Bspline) ones nought) (pos (2 ^ 25)) parts → ⊥
bspline_rounds v = not_one (subst (λ (x : Float). Number x (pos (2 ^ 25)) parts) bspline_value v)
  where
    not_one : Number below_one (pos (2 ^ 25)) parts → ⊥
    not_one v =
        let s : v.size ≡ 33554432 = ap nat_abs (subst (λ (b : Bool). signed b v.size ≡ pos 33554432) (sym v.is.0) v.same) in
        eq→eqb (v.is.1 ∙ ap (λ (n : ℕ). n * 9007199254740992) s)
