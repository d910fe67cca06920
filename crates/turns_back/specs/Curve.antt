-- Whether a curve never falls, in whole numbers. Definitions only.
use Rattle.std.specs.Prelude.{Bool, true, cond, ◌&&◌, ◌||◌, List, [], ℕ, zero, suc, ◌*◌, ℤ, pos, ◌+ℤ◌, ◌*ℤ◌, length, drop, get_or}
use Rattle.std.specs.Int.Signed.{le_z, non_neg}
use Rattle.basis.specs.declared.Basis.{Basis}
use Rattle.basis.specs.Basis.{step_of, segments_of, whole_of}
use Rattle.spline_exact.specs.Cubic.{whole_sum}

-- ---- a cubic w0·t³ + w1·t² + w2·t + w3
-- its value at t = j/n, multiplied by n³
unfoldable pub value_at : ℤ → ℤ → ℤ → ℤ → ℕ → ℕ → ℤ
value_at w0 w1 w2 w3 n j = w0 *ℤ pos (j * j * j) +ℤ w1 *ℤ pos (n * j * j) +ℤ w2 *ℤ pos (n * n * j) +ℤ w3 *ℤ pos (n * n * n)

-- d0·(1−t)² + 2·d1·t·(1−t) + d2·t² is never negative from 0 to 1
unfoldable pub never_falls : ℤ → ℤ → ℤ → Bool
never_falls d0 d1 d2 = non_neg d0 && (non_neg d2 && (non_neg d1 || le_z (d1 *ℤ d1) (d0 *ℤ d2)))

-- the cubic's slope in that form
unfoldable pub cubic_never_falls : ℤ → ℤ → ℤ → Bool
unfolding never_falls
cubic_never_falls w0 w1 w2 = never_falls w2 (w1 +ℤ w2) (w0 *ℤ pos 3 +ℤ w1 *ℤ pos 2 +ℤ w2)

-- ---- the segments of a curve over whole knots
-- coefficient r of segment s, from t³ down, times the basis's divisor
unfoldable pub coefficient : Basis → List ℤ → ℕ → ℕ → ℤ
coefficient b z s r = whole_sum (drop (s * step_of b) z) (get_or (whole_of b) r [])

-- segment s at j/n, multiplied by n³ and the basis's divisor
unfoldable pub curve_at : Basis → List ℤ → ℕ → ℕ → ℕ → ℤ
unfolding value_at coefficient
curve_at b z s n j = value_at (coefficient b z s 0) (coefficient b z s 1) (coefficient b z s 2) (coefficient b z s 3) n j

-- a segment starts no lower than the one before it ends
unfoldable pub starts_no_lower : Basis → List ℤ → ℕ → Bool
unfolding curve_at
starts_no_lower b z zero = true
starts_no_lower b z (suc s) = le_z (curve_at b z s 1 1) (curve_at b z (suc s) 1 0)

-- and never falls
unfoldable pub segment_never_falls : Basis → List ℤ → ℕ → Bool
unfolding starts_no_lower cubic_never_falls coefficient
segment_never_falls b z s = starts_no_lower b z s && cubic_never_falls (coefficient b z s 0) (coefficient b z s 1) (coefficient b z s 2)

-- of k segments from s on, the first that does not; past them all if each does
unfoldable pub falls_from : Basis → List ℤ → ℕ → ℕ → ℕ
unfolding segment_never_falls
falls_from b z s zero = s
falls_from b z s (suc k) = cond (segment_never_falls b z s) (falls_from b z (suc s) k) s

unfoldable pub first_fall : Basis → List ℤ → ℕ
unfolding falls_from
first_fall b z = falls_from b z 0 (segments_of b (length z))
