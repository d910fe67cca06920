-- How many rounds are enough, by the precision: 39 for the default; p + 6 for one of 2^-p at least, p up to 49; 59 for any of 2^-50 at least, so for 1e-15. All
-- that is asked of a precision is that it is not below such a double: not that it is finite, nor that it has 64 bits. Assumes nothing.
use mathlib.Core.Path.{◌≡◌, refl, ◌∙◌}
use mathlib.Core.Bool.{false}
use Prim.Native.Nat.{ℕ, zero, suc, ◌+◌, ◌-◌, ◌*◌, ◌^◌, ◌≤◌, ◌<◌}
use native.Mathlib.Nat.{one-mul, two-pow-succ}
use native.Mathlib.Omega.{arith}
use lib.IntN.{pos, negsuc}
use lib.Dec.{T, lit<}
use lib.Pow.{pow_mono, pow-add}
use lib.Ieee.{Float, fin, binary64, low, of_bits, lt, le, eq}
use lib.Ieee.Exact.{HasValue}
use Rattle.inverse_segment.specs.Answer.{default_precision}
use Rattle.inverse_segment.proofs.Ending.{Enough}

-- the default precision, the double nearest to 1e-10
pub default_enough : Enough default_precision 39
unfolding of_bits le lt eq
default_enough =
    record { K = 1040; h = 0x1b_7cdf_d9d7_bdbb * 2 ^ 988; least = default_precision; last = refl; least_is = (refl, refl); above = lit< tt; at_least = tt }

-- 2^-p
abbrev pub two_to_minus : ℕ → Float
two_to_minus zero = fin false 1 (pos 0)
two_to_minus (suc p) = fin false 1 (negsuc p)

-- 2^-50
pub any_enough : (ε : Float) → T (le (two_to_minus 50) ε) → Enough ε 59
any_enough ε o = record { K = 1020; h = 2 ^ 1024; least = two_to_minus 50; last = refl; least_is = (refl, refl); above = lit< tt; at_least = o }

-- in units
minus_is : (p : ℕ) → p ≤ 49 → HasValue (two_to_minus p) false (2 ^ (low binary64 - p)) (2 ^ low binary64)
minus_is zero l = (refl, refl)
minus_is (suc p) l = (refl, go (low binary64 - suc p) (suc p) (low binary64) (omega arith))
  where
    go : (a b c : ℕ) → a + b ≡ c → 1 * 1 * 2 ^ c ≡ 2 ^ a * 2 ^ b
    go a b c e = rw (← e) (one-mul (2 ^ (a + b)) ∙ pow-add 2 a b)

pub power_enough : (ε : Float) (p : ℕ) → p ≤ 49 → T (le (two_to_minus p) ε) → Enough ε (p + 6)
power_enough ε p l o =
    let k = 1073 - p in
    let q : 2 ^ (low binary64 - p) ≡ 2 ^ k + 2 ^ k = rw (next p l) (two-pow-succ k) in
    let m : 2 ^ 1024 ≤ 2 ^ k = pow_mono (far p l) in
    record {
      K = k;
      h = 2 ^ (low binary64 - p);
      least = two_to_minus p;
      last = sum p l;
      least_is = minus_is p l;
      above = under (2 ^ k) (7 * 2 ^ 1021) (2 ^ 1024) (2 ^ (low binary64 - p)) (lit< tt) m q;
      at_least = o;
    }
  where
    next : (p : ℕ) → p ≤ 49 → 1074 - p ≡ suc (1073 - p)
    next p l = omega arith

    far : (p : ℕ) → p ≤ 49 → 1024 ≤ 1073 - p
    far p l = omega arith

    sum : (p : ℕ) → p ≤ 49 → p + 6 + (1073 - p) ≡ low binary64 + 5
    sum p l = omega arith

    under : (a g b d : ℕ) → g < b → b ≤ a → d ≡ a + a → a + g < d
    under a g b d x y z = omega arith
