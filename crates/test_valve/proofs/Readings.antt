-- The readings hold: they are computed. Assumes nothing.
use mathlib.Core.Path.{refl}
use Rattle.valve.specs.Mix.{mix_of, small, first_large, mixture_of}
use Rattle.test_valve.specs.Readings.{Hold, sums, refusals}

pub sums_hold : Hold sums
unfolding mixture_of mix_of small first_large sums
sums_hold = (refl, (refl, (refl, (refl, (refl, (refl, tt))))))

pub refusals_hold : Hold refusals
unfolding mixture_of mix_of small first_large refusals
refusals_hold = (refl, (refl, (refl, (refl, (refl, (refl, (refl, (refl, (refl, tt)))))))))
