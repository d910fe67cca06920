-- What a conversion drops at its seams, and where that is told. Definitions only.
use Rattle.std.specs.Prelude.{List, Bool, false, cond, ◌||◌, ℕ, zero, suc, ◌+◌, ◌-◌, ◌*◌, get_or, Float}
use Rattle.std.specs.Float.{nan, binary64}
use Rattle.std.specs.Float.Ieee.{sub, lt}
use Rattle.doubles.specs.Numbers.{magnitude_of}
use Rattle.convert_matrix.specs.Matrix.{Matrix}
use Rattle.convert.specs.Output.{window_of, windows}

-- a differs from b, as computed, by more than the allowance
abbrev pub is_apart : Float → Float → Float → Bool
is_apart allowance a b = lt allowance (magnitude_of (sub binary64 a b))

-- f holds of one of the first n numbers, from 0
unfoldable pub any : ℕ → (ℕ → Bool) → Bool
any zero f = false
any (suc n) f = any n f || f n

-- the lowest of the n numbers from s on that f holds of; 0 if there is none
unfoldable pub lowest : ℕ → ℕ → (ℕ → Bool) → ℕ
lowest zero s f = 0
lowest (suc n) s f = cond (f s) s (lowest n (suc s) f)

-- of the segments 0 to last
module _ (m : Matrix) (step stride : ℕ) (allowance : Float) (ks : List Float) (last : ℕ) where
  -- double j of segment s belongs at place s × stride + j of the output, and is apart from what stands there
  abbrev pub is_lost : ℕ → ℕ → Bool
  is_lost s j = is_apart allowance (get_or (window_of m step ks s) j nan) (get_or (windows m step stride ks last) (s * stride + j) nan)

  -- a later segment drops all its doubles but the last `stride`
  abbrev pub loses : ℕ → Bool
  loses s = any (4 - stride) (is_lost s)

  -- the lowest segment that loses one; 0 if none does, since segment 0 drops nothing
  abbrev pub lost_seam : ℕ
  lost_seam = lowest last 1 loses
