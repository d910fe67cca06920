-- A curve's value: the parameter clamped, scaled by the number of segments, split into whole part and local place. Definitions only.
use Rattle.std.specs.Prelude.{List, ℕ, ◌-◌, length, Float}
use Rattle.std.specs.Float.{binary64}
use Rattle.std.specs.Float.Ieee.{sub, mul}
use Rattle.basis.specs.declared.Basis.{Basis}
use Rattle.basis.specs.Basis.{segments_of}
use Rattle.doubles.specs.Numbers.{clamp}
use Rattle.doubles.specs.Whole.{double, whole_up_to}
use Rattle.spline.specs.Segment.{segment_of}

-- the clamped parameter, multiplied by k
abbrev pub scaled : ℕ → Float → Float
scaled k x = mul binary64 (clamp x) (double k)

-- the segment: the whole part, at most k − 1
abbrev pub segment_at : ℕ → Float → ℕ
segment_at k x = whole_up_to (k - 1) (scaled k x)

-- local t: the product minus the segment
abbrev pub local_at : ℕ → Float → Float
local_at k x = sub binary64 (scaled k x) (double (segment_at k x))

-- the value of that segment there
unfoldable pub curve_value : Basis → Float → List Float → Float
curve_value b x ks = let k = segments_of b (length ks) in segment_of b ks (segment_at k x) (local_at k x)
