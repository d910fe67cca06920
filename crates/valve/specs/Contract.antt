-- What inner functions hand on: knots that passed the refusals, and the weights of a step. Definitions only.
use Rattle.std.specs.Prelude.{◌≡◌, List, ℕ, ◌≤◌, ◌<◌, ℤ, pos, nat_abs, ◌+ℤ◌, ◌*ℤ◌}
use Rattle.valve.specs.Mix.{weight_of, knot_of}

-- at most 1,000,000 in magnitude, the first four
pub record SmallKnots (ks : List ℤ) : Type 0 where
  pub each : (i : ℕ) → i < 4 → nat_abs (knot_of ks i) ≤ 1000000

-- weights at most 4 × 256³ each
pub record Few (w0 w1 w2 w3 : ℕ) : Type 0 where
  pub few0 : w0 ≤ 67108864
  pub few1 : w1 ≤ 67108864
  pub few2 : w2 ≤ 67108864
  pub few3 : w3 ≤ 67108864

-- the weights of a step
pub record FourOf (step w0 w1 w2 w3 : ℕ) : Type 0 where
  pub is0 : w0 ≡ weight_of step 0
  pub is1 : w1 ≡ weight_of step 1
  pub is2 : w2 ≡ weight_of step 2
  pub is3 : w3 ≡ weight_of step 3
  pub few : Few w0 w1 w2 w3

-- the first four knots, weighted, undivided
unfoldable pub weighted_of : List ℤ → ℕ → ℕ → ℕ → ℕ → ℤ
weighted_of ks w0 w1 w2 w3 = pos w0 *ℤ knot_of ks 0 +ℤ pos w1 *ℤ knot_of ks 1 +ℤ pos w2 *ℤ knot_of ks 2 +ℤ pos w3 *ℤ knot_of ks 3
