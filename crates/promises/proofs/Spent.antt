-- The premise on the precision cannot be dropped: with 2^-53, and a curve that jumps, the ends become neighbours among the doubles, and no number of rounds
-- helps. Assumes nothing.
use mathlib.Core.Path.{◌≡◌, refl}
use mathlib.Core.Bool.{true, false, cond}
use mathlib.Core.List.{[]}
use lib.IntN.{negsuc}
use lib.Ieee.{Float, fin, round, add, sub, mul, div, neg, lt, le, eq}
use Rattle.doubles.specs.Numbers.{nought, one, half, magnitude_of}
use Rattle.doubles.specs.Lerp.{lerp_of}
use Rattle.inverse_segment.specs.declared.Ground.TheVariants.{Width, Spent}
use Rattle.inverse_segment.specs.Round.{toward, narrow, weighed, moved, settled, probed, round_of}
use Rattle.inverse_segment.specs.Rounds.{rounds}
use Rattle.inverse_segment.specs.Steady.{allowed, inner, secant, paced}
use Rattle.inverse_segment.proofs.Lawful.{secant_lawful}
use Rattle.inverse_segment.proofs.Ending.{steadily}

-- 0 below 3/4 and a little, 1 from there on
pub jump : Float → Float
jump x = cond (lt x (fin false 7036874417766401 (negsuc 52))) nought one

pub needed : (steadily secant secant_lawful jump 0 half (fin false 1 (negsuc 52)) true 100 nought one []).ground ≡ Spent
unfolding jump lt le eq round add sub mul div neg magnitude_of lerp_of narrow weighed moved settled probed round_of rounds toward allowed inner secant paced
needed = refl

-- with twice that precision it ends
pub enough : (steadily secant secant_lawful jump 0 half (fin false 1 (negsuc 51)) true 100 nought one []).ground ≡ Width
unfolding jump lt le eq round add sub mul div neg magnitude_of lerp_of narrow weighed moved settled probed round_of rounds toward allowed inner secant paced
enough = refl
