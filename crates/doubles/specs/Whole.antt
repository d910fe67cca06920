-- The whole part of a double, by comparing it with whole numbers. Definitions only.
use Rattle.std.specs.Prelude.{ℕ, zero, suc, cond, pos, Float}
use Rattle.std.specs.Float.{binary64}
use Rattle.std.specs.Float.Ieee.{le, of_int}

-- a whole number as a double
abbrev pub double : ℕ → Float
double n = of_int binary64 (pos n)

-- the greatest whole number up to m that is at most y, and 0 if there is none
unfoldable pub whole_up_to : ℕ → Float → ℕ
whole_up_to zero y = 0
whole_up_to (suc m) y = cond (le (double (suc m)) y) (suc m) (whole_up_to m y)
