-- What a conversion writes: the windows of the segments, one after the other. Definitions only.
use Rattle.std.specs.Prelude.{List, ◌++◌, ℕ, zero, suc, ◌+◌, ◌-◌, ◌*◌, length, drop, Float}
use Rattle.std.specs.Float.Ieee.{add, mul}
use Rattle.basis.specs.declared.Basis.{Basis}
use Rattle.basis.specs.Basis.{step_of, segments_of}
use Rattle.convert_matrix.specs.Matrix.{Matrix, applied}
use Rattle.convert_matrix.specs.Elimination.{conversion_of}

-- segment s: the matrix applied to the four knots from place s × step onward
abbrev pub window_of : Matrix → ℕ → List Float → ℕ → List Float
window_of m step ks s = applied m (drop (s * step) ks)

-- segments 0 to n: segment 0 gives four doubles, each later one the last `stride` of its four
unfoldable pub windows : Matrix → ℕ → ℕ → List Float → ℕ → List Float
unfolding add mul
windows m step stride ks zero = window_of m step ks 0
windows m step stride ks (suc n) = windows m step stride ks n ++ drop (4 - stride) (window_of m step ks (suc n))

-- a segment's four doubles
unfoldable pub segment_output : Basis → Basis → List Float → List Float
unfolding conversion_of
segment_output from to cv = applied (conversion_of from to) cv

-- a curve's, from all its k segments
unfoldable pub spline_output : Basis → Basis → List Float → List Float
unfolding conversion_of windows
spline_output from to ks = windows (conversion_of from to) (step_of from) (step_of to) ks (segments_of from (length ks) - 1)

-- their number: 4 + (k − 1)·STEP_out
abbrev pub output_length : Basis → Basis → ℕ → ℕ
output_length from to n = 4 + (segments_of from n - 1) * step_of to
