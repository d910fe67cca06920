-- The slope between two steps as it is told in words: 0 where their product is not above 0, and else with their sign the smaller of half of their sum's size,
-- rounded down, and three times the smaller size. Assumes nothing.
use mathlib.Core.Path.{◌≡◌, refl, ap, ◌∙◌}
use Prim.Native.Nat.{ℕ, zero, suc, min, ◌+◌, ◌*◌, ◌/◌, ◌≤◌}
use native.Mathlib.Omega.{arith}
use lib.IntN.{ℤ, pos, negsuc, neg_ℤ, nat_abs, ◌+ℤ◌, ◌*ℤ◌}
use lib.Signed.{◌≤ℤ◌, ◌<ℤ◌, ≤ℤ_refl}
use Rattle.whole.proofs.Differences.{itself, opposite, by, le, of_le, of_lt}
use Rattle.monotone.specs.Slope.{limited, between}
use Rattle.monotone.proofs.Negatives.{size_down}
use Rattle.monotone.proofs.Limits.{limited_first, limited_second}

product_none : (a b : ℕ) → a * b ≤ 0 → limited a b ≡ 0
product_none zero b h = let l = limited_first 0 b in omega (arith, l)
product_none (suc a) zero h = let l = limited_second (suc a) 0 in omega (arith, l)
product_none (suc a) (suc b) h = absurd (omega arith)

pub between_none : (a b : ℤ) → (a *ℤ b) ≤ℤ pos 0 → between a b ≡ pos 0
unfolding between
between_none (pos a) (pos b) h = let l = of_le (itself (pos (a * b))) (itself (pos 0)) h in let n = product_none a b (omega (arith, l)) in ap pos n
between_none (pos a) (negsuc b) h = refl
between_none (negsuc a) (pos b) h = refl
between_none (negsuc a) (negsuc b) h = let l = of_le (itself (pos (suc a * suc b))) (itself (pos 0)) h in absurd (omega (arith, l))

pub between_size : (a b : ℤ) → pos 0 <ℤ (a *ℤ b) → nat_abs (between a b) ≡ min (nat_abs (a +ℤ b) / 2) (3 * min (nat_abs a) (nat_abs b))
unfolding between limited
between_size (pos a) (pos b) h = refl
between_size (pos a) (negsuc b) h =
    let l = of_lt (itself (pos 0)) (by (negsuc b) (itself (pos a))) h in absurd (omega (arith, l))
between_size (negsuc a) (pos b) h =
    let l = of_lt (itself (pos 0)) (by (pos b) (itself (negsuc a))) h in absurd (omega (arith, l))
between_size (negsuc a) (negsuc b) h =
    size_down (limited (suc a) (suc b)) ∙ ap (λ (n : ℕ). min (n / 2) (3 * min (suc a) (suc b))) (sum a b)
  where
    sum : (a b : ℕ) → suc a + suc b ≡ nat_abs (negsuc a +ℤ negsuc b)
    sum a b = omega arith

-- and never against them
pub between_sign : (a b : ℤ) → (pos 0 ≤ℤ a → pos 0 ≤ℤ between a b) × (a ≤ℤ pos 0 → between a b ≤ℤ pos 0)
unfolding between
between_sign (pos a) (pos b) = (
  λ h. high (limited a b),
  λ h. let l = of_le (itself (pos a)) (itself (pos 0)) h in let f = limited_first a b in low (limited a b) (omega (arith, l, f)),
)
  where
    high : (n : ℕ) → pos 0 ≤ℤ pos n
    high n = le (itself (pos 0)) (itself (pos n)) (omega arith)

    low : (n : ℕ) → n ≤ 0 → pos n ≤ℤ pos 0
    low n h = le (itself (pos n)) (itself (pos 0)) (omega arith)
between_sign (pos a) (negsuc b) = (λ h. ≤ℤ_refl (pos 0), λ h. ≤ℤ_refl (pos 0))
between_sign (negsuc a) (pos b) = (λ h. ≤ℤ_refl (pos 0), λ h. ≤ℤ_refl (pos 0))
between_sign (negsuc a) (negsuc b) = (λ h. absurd h.le, λ h. low (limited (suc a) (suc b)))
  where
    low : (n : ℕ) → neg_ℤ (pos n) ≤ℤ pos 0
    low n = let o = opposite (pos n) in le o (itself (pos 0)) (omega arith)
