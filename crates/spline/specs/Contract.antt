-- Where a parameter lies, as the code tells it. Definitions only.
use Rattle.std.specs.Prelude.{◌≡◌, ℕ, ◌<◌, Float}
use Rattle.spline.specs.Curve.{segment_at, local_at}

-- the segment and the local place of a parameter
pub record IsSpot (k : ℕ) (x : Float) (s : ℕ) (t : Float) : Type 0 where
  pub segment : s ≡ segment_at k x
  pub local : t ≡ local_at k x
  pub below : s < k
