-- How the code comes to the values: first every scaled parameter into the output, then the value of each in its place. Definitions only.
use Rattle.std.specs.Prelude.{◌≡◌, ℕ, zero, suc, ◌-◌, ◌<◌, true, List, [], ◌∷◌, length, slice_index_or, Float}
use Rattle.std.specs.Float.{nan, binary64}
use Rattle.std.specs.Float.Ieee.{sub, le}
use Rattle.basis.specs.declared.Basis.{Basis}
use Rattle.basis.specs.Basis.{segments_of}
use Rattle.doubles.specs.Numbers.{nought}
use Rattle.doubles.specs.Whole.{double, whole_up_to}
use Rattle.spline.specs.Segment.{segment_of}

-- the first n places are those of ps, the others what stood there
unfoldable pub laid : ℕ → List Float → List Float → List Float
laid zero ps out = out
laid (suc n) [] out = out
laid (suc n) (p ∷ ps) [] = []
laid (suc n) (p ∷ ps) (q ∷ out) = p ∷ laid n ps out

-- on a curve of k segments: the segment and the local place of a scaled parameter
pub record IsSpotOf (k : ℕ) (p : Float) (s : ℕ) (t : Float) : Type 0 where
  pub segment : s ≡ whole_up_to (k - 1) p
  pub local : t ≡ sub binary64 p (double s)
  pub below : s < k

-- from 0 to k
pub record InScale (k : ℕ) (p : Float) : Type 0 where
  pub low : le nought p ≡ true
  pub high : le p (double k) ≡ true

abbrev pub AllInScale : ℕ → ℕ → List Float → Type 0
AllInScale k n ps = (i : ℕ) → i < n → InScale k (slice_index_or ps i nan)

-- the value there
unfoldable pub value_at : Basis → List Float → Float → Float
value_at b ks p = let k = segments_of b (length ks) in let s = whole_up_to (k - 1) p in segment_of b ks s (sub binary64 p (double s))
