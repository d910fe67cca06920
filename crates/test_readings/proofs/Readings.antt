-- The readings hold: one statement over the whole table. Assumes nothing.
use mathlib.Core.Path.{◌≡◌, refl}
use mathlib.Core.Bool.{true, false}
use mathlib.Core.List.{List, [], ◌∷◌, ◌++◌}
use lib.Count.{count_leading_zeros}
use lib.Ieee.{binary64, of_bits, of_int, round, add, sub, mul, div, lt, le, eq, neg, is_nan}
use Rattle.basis.specs.Basis.{matrix_of}
use Rattle.doubles.specs.Numbers.{magnitude_of, clamp}
use Rattle.doubles.specs.Lerp.{lerp_of}
use Rattle.doubles.specs.Whole.{whole_up_to}
use Rattle.checks.specs.Checks.{in_range, all_in_range, first_bad, precise}
use Rattle.spline.specs.Curve.{curve_value}
use Rattle.spline.specs.Evaluation.{spline_of}
use Rattle.inverse_segment.specs.Answer.{inverse_segment_by}
use Rattle.inverse_segment.specs.Round.{narrow, halving, toward, weighed, chord, kept, fraction, moved, settled, probed, round_of}
use Rattle.inverse_segment.specs.Rounds.{rounds}
use Rattle.inverse_segment.specs.Segment.{entered, enter}
use Rattle.inverse_segment.specs.Steady.{allowed, inner, secant, paced}
use Rattle.inverse_search.specs.Bound.{bits_of}
use Rattle.inverse_search.specs.Search.{tries, last, halve, find}
use Rattle.inverse_order.specs.Order.{ordered, turns_at}
use Rattle.inverse.specs.Curve.{parameter_of, located, evaluations}
use Rattle.inverse.specs.Inverse.{inverse_by, evaluations_by}
use Rattle.convert.specs.Conversion.{converted_of}
use Rattle.test_readings.specs.Readings.{
  minus_four_tenths,
  four_tenths,
  nine_tenths,
  nineteen_tenths,
  Reading,
  tells,
  Hold,
  lengths,
  values,
  longest,
  places,
  halvings,
  brackets,
  conversions,
  table,
}

-- each is the double nearest to its decimal
pub decimals : (minus_four_tenths ≡ round binary64 true 4 10) × (four_tenths ≡ round binary64 false 4 10) × (nine_tenths ≡ round binary64 false 9 10)
    × (nineteen_tenths ≡ round binary64 false 19 10)
unfolding of_bits round
decimals = (refl, refl, refl, refl)

-- ---- the statement
lengths_hold : Hold lengths
unfolding lengths
lengths_hold = (refl, (refl, (refl, (refl, (refl, (refl, (refl, tt)))))))

values_hold : Hold values
unfolding values spline_of in_range all_in_range first_bad curve_value whole_up_to clamp matrix_of of_bits of_int round add sub mul lt le eq neg is_nan
values_hold = (refl, (refl, (refl, (refl, (refl, (refl, (refl, (refl, tt))))))))

longest_hold : Hold longest
unfolding longest spline_of in_range all_in_range first_bad curve_value whole_up_to clamp matrix_of of_bits of_int round add sub mul lt le eq neg is_nan
longest_hold = (refl, (refl, tt))

places_hold : Hold places
unfolding places inverse_by located find tries last halve bits_of enter entered rounds round_of probed settled moved fraction kept weighed halving chord narrow
    ordered turns_at precise parameter_of in_range all_in_range first_bad magnitude_of lerp_of matrix_of of_bits of_int round add sub mul div lt le
    eq neg is_nan
    count_leading_zeros
places_hold = (refl, (refl, (refl, (refl, (refl, (refl, tt))))))

halvings_hold : Hold halvings
unfolding halvings inverse_by evaluations_by located evaluations find tries last halve bits_of enter entered rounds round_of probed settled moved fraction kept
    weighed halving chord narrow ordered turns_at precise parameter_of in_range all_in_range first_bad magnitude_of lerp_of matrix_of of_bits of_int
    round add sub mul
    div lt le eq neg is_nan count_leading_zeros
halvings_hold = (refl, (refl, (refl, (refl, tt))))

brackets_hold : Hold brackets
unfolding brackets inverse_segment_by enter entered rounds round_of probed settled moved fraction kept weighed halving toward chord narrow allowed inner secant
    paced precise in_range all_in_range first_bad magnitude_of lerp_of matrix_of of_bits of_int round add sub mul div lt le eq neg is_nan
brackets_hold = (refl, (refl, (refl, tt)))

conversions_hold : Hold conversions
unfolding conversions converted_of in_range all_in_range first_bad matrix_of of_bits of_int round add sub mul div lt le eq neg is_nan
conversions_hold = (refl, (refl, (refl, tt)))

both : (rs qs : List Reading) → Hold rs → Hold qs → Hold (rs ++ qs)
both [] qs h k = k
both (tells a t ∷ rs) qs h k = (h.0, both rs qs h.1 k)

pub readings : Hold table
readings =
    both lengths _ lengths_hold
    (both values _ values_hold
    (both longest _ longest_hold (both places _ places_hold (both halvings _ halvings_hold (both brackets _ brackets_hold conversions_hold)))))
