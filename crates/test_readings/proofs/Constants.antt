-- The constants of inversion are the doubles nearest to their decimals, and the defaults: computed. Assumes nothing.
use mathlib.Core.Path.{◌≡◌, refl}
use mathlib.Core.Bool.{false}
use Prim.Native.Nat.{◌^◌}
use lib.Ieee.{binary64, of_bits, round}
use Rattle.doubles.specs.Numbers.{half, two, hundredth, ninety_nine_hundredths, trillionth}
use Rattle.inverse_segment.specs.Answer.{default_limit, default_precision}
use Rattle.inverse_segment.specs.Method.{steady_limit}

pub constants : (half ≡ round binary64 false 1 2) × (two ≡ round binary64 false 2 1) × (hundredth ≡ round binary64 false 1 100)
    × (ninety_nine_hundredths ≡ round binary64 false 99 100) × (trillionth ≡ round binary64 false 1 (10 ^ 12))
    × (default_precision ≡ round binary64 false 1 (10 ^ 10))
unfolding of_bits round
constants = (refl, refl, refl, refl, refl, refl)

-- the rounds and the precision that a call goes by where it is told none
pub defaults : (default_limit ≡ 32) × (default_precision ≡ round binary64 false 1 (10 ^ 10)) × (steady_limit ≡ 64)
unfolding of_bits round
defaults = (refl, refl, refl)
