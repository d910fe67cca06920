-- The worked reading of a bend, and which allowances are good: computed. Assumes nothing.
use mathlib.Core.Path.{◌≡◌, refl}
use mathlib.Core.Bool.{true, false}
use mathlib.Core.List.{List, [], ◌∷◌}
use lib.IntN.{pos}
use lib.Ieee.{Float, nan, inf, fin, binary64, of_bits, round, add, sub, mul, div, lt, le, eq, neg}
use Rattle.error.specs.declared.Refusal.TheVariants.{LostSeam}
use Rattle.basis.specs.declared.Basis.TheVariants.{Bezier, Hermite}
use Rattle.basis.specs.Basis.{matrix_of}
use Rattle.doubles.specs.Numbers.{nought, one, magnitude_of}
use Rattle.checks.specs.Checks.{in_range, all_in_range, first_bad}
use Rattle.convert.specs.Output.{windows, spline_output}
use Rattle.convert.specs.Conversion.{gives, refuses}
use Rattle.convert_strict.specs.Seams.{any, lowest}
use Rattle.convert_strict.specs.Strict.{allowable, lost_seam_of, strict_of}

-- 0, -0 and the greatest double are good; NaN, both infinities and the least double below 0 are not
pub allowances : (allowable nought ≡ true) × (allowable (fin true 0 (pos 0)) ≡ true) × (allowable (of_bits binary64 0x7fef_ffff_ffff_ffff) ≡ true)
    × (allowable nan ≡ false) × (allowable (inf false) ≡ false) × (allowable (inf true) ≡ false) × (allowable (of_bits binary64 0x8000_0000_0000_0001) ≡ false)
unfolding allowable of_bits lt le eq
allowances = (refl, refl, refl, refl, refl, refl, refl)

abbrev bend : List Float
bend = nought ∷ nought ∷ nought ∷ nought ∷ one ∷ one ∷ one ∷ []

abbrev three : Float
three = fin false 3 (pos 0)

-- the slope 3 at the seam would be lost
pub bend_refused : strict_of Bezier Hermite bend nought 6 ≡ refuses (LostSeam 1)
unfolding strict_of lost_seam_of allowable any lowest windows spline_output in_range all_in_range first_bad magnitude_of matrix_of of_bits round add sub mul div
    lt le eq neg
bend_refused = refl

pub bend_allowed : strict_of Bezier Hermite bend three 6 ≡ gives (nought ∷ nought ∷ nought ∷ nought ∷ one ∷ nought ∷ [])
unfolding strict_of lost_seam_of allowable any lowest windows spline_output in_range all_in_range first_bad magnitude_of matrix_of of_bits round add sub mul div
    lt le eq neg
bend_allowed = refl
