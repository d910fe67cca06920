-- The interpolation: the one definition of it. It stands in for that of a dependency of the Rust crate, which could not be had.
-- Definitions only.
use Rattle.std.specs.Prelude.{Float}
use Rattle.std.specs.Float.{binary64}
use Rattle.std.specs.Float.Ieee.{add, sub, mul}

-- lower + (upper - lower)·t, each operation rounded once
unfoldable pub lerp_of : Float → Float → Float → Float
unfolding add sub mul
lerp_of lower upper t = add binary64 lower (mul binary64 (sub binary64 upper lower) t)
