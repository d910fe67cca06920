-- The count of segments below 4 knots, and the size of the bound on evaluations. Assumes nothing.
use mathlib.Core.Path.{◌≡◌, ap}
use mathlib.Core.Bool.{Bool, true, false, cond}
use Prim.Native.Nat.{ℕ, ◌+◌, ◌-◌, ◌*◌, ◌/◌, ◌≤◌, ◌<◌}
use native.Mathlib.Omega.{arith}
use lib.Dec.{leb}
use Rattle.basis.specs.declared.Basis.{Basis}
use Rattle.basis.specs.Basis.{step_of, segments_of}
use Rattle.inverse_search.specs.Bound.{bits_of, bound_of}

pub short_count : (b : Basis) (n : ℕ) → n < 4 → segments_of b 4 ≡ segments_of b n
short_count b n h = let q : 0 ≡ n - 4 = omega arith in ap (λ (m : ℕ). m / step_of b + 1) q

few_bits : (k : ℕ) → bits_of k ≤ 64
unfolding bits_of
few_bits k = omega arith

pub bound_small : (k limit : ℕ) → bound_of k limit ≤ limit + 132
bound_small k limit = go (leb k 12)
  where
    go : (t : Bool) → cond t (limit + 24) (limit + 2 * bits_of k + 4) ≤ limit + 132
    go true = omega arith
    go false = omega (arith, few_bits k)
