-- Doubles by name, the magnitude, and the clamp to 0..1. Definitions only.
use Rattle.std.specs.Prelude.{false, cond, pos, negsuc, Float}
use Rattle.std.specs.Float.{fin}
use Rattle.std.specs.Float.Ieee.{neg, lt}

abbrev pub nought : Float
nought = fin false 0 (pos 0)

abbrev pub one : Float
one = fin false 1 (pos 0)

abbrev pub two : Float
two = fin false 1 (pos 1)

abbrev pub half : Float
half = fin false 1 (negsuc 0)

-- the doubles nearest to 0.01, 0.99 and 1e-12
abbrev pub hundredth : Float
hundredth = fin false 5764607523034235 (negsuc 58)

abbrev pub ninety_nine_hundredths : Float
ninety_nine_hundredths = fin false 4458563631096791 (negsuc 51)

abbrev pub trillionth : Float
trillionth = fin false 4951760157141521 (negsuc 91)

-- the sign is dropped; -0 stays
unfoldable pub magnitude_of : Float → Float
unfolding lt neg
magnitude_of x = cond (lt x nought) (neg x) x

-- 0 for what is below 0, 1 for what is above 1; -0 stays
unfoldable pub clamp : Float → Float
unfolding lt
clamp x = cond (lt x nought) nought (cond (lt one x) one x)
