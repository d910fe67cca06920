-- The bits of a number: enough of them, and no more. Assumes nothing.
use mathlib.Core.Path.{◌≡◌, refl, subst}
use Prim.Native.Nat.{ℕ, ◌+◌, ◌-◌, ◌*◌, ◌^◌, ◌≤◌, ◌<◌}
use native.Mathlib.Omega.{arith}
use lib.Count.{count_leading_zeros, leading_length}
use Rattle.inverse_search.specs.Bound.{bits_of}

bits_both : (k : ℕ) → k < 2 ^ 64 → (k < 2 ^ bits_of k) × (2 ^ bits_of k ≤ 2 * k + 1)
unfolding bits_of
bits_both k h =
    let r = leading_length 64 k h in
    let e : r.0 ≡ 64 - count_leading_zeros 64 k = omega (arith, r.1) in
    subst (λ (b : ℕ). (k < 2 ^ b) × (2 ^ b ≤ 2 * k + 1)) e (r.2, r.3)

pub bits_enough : (k : ℕ) → k < 2 ^ 64 → k < 2 ^ bits_of k
bits_enough k h = (bits_both k h).0

-- the highest digit is set
pub bits_least : (k : ℕ) → k < 2 ^ 64 → 2 ^ bits_of k ≤ 2 * k + 1
bits_least k h = (bits_both k h).1

pub thirteen_has_four : bits_of 13 ≡ 4
unfolding bits_of count_leading_zeros
thirteen_has_four = refl
