-- Steps and slopes as differences, and how large they are. Assumes nothing.
use mathlib.Core.Path.{◌≡◌, sym, ap, ◌∙◌, subst}
use mathlib.Core.List.{List}
use Prim.Native.Nat.{ℕ, suc, min, ◌+◌, ◌-◌, ◌*◌, ◌≤◌, ◌<◌}
use native.Mathlib.Omega.{arith}
use lib.Dec.{lit<}
use lib.IntN.{ℤ, pos, negsuc, nat_abs, sub_ℕ, ◌-ℤ◌}
use lib.ListN.{length, get_or}
use Rattle.whole.specs.Held.{held, held_all, Small}
use Rattle.whole.proofs.Differences.{Is, itself, sub_is, is_sub, other, less, abs_le, parts_within}
use Rattle.whole.proofs.Held.{knot, long}
use Rattle.monotone.specs.Slope.{step_at, limited, between, slope_at}
use Rattle.monotone.specs.Table.{most}
use Rattle.whole.proofs.Held.{back}
use Rattle.monotone.proofs.Negatives.{size_down}
use Rattle.monotone.proofs.Limits.{limited_half}

-- ---- magnitudes
pub between_le : (a b : ℤ) (k : ℕ) → nat_abs a ≤ k → nat_abs b ≤ k → nat_abs (between a b) ≤ k
unfolding between
between_le (pos a) (pos b) k h l = omega (arith, limited_half a b)
between_le (pos a) (negsuc b) k h l = omega arith
between_le (negsuc a) (pos b) k h l = omega arith
between_le (negsuc a) (negsuc b) k h l = let e = size_down (limited (suc a) (suc b)) in omega (arith, e, limited_half (suc a) (suc b))

-- of rows that are at most k in magnitude: steps and slopes are at most twice that
module _ (z : List ℤ) (k : ℕ) (each : (i : ℕ) → i < length z → nat_abs (get_or z i (pos 0)) ≤ k) where
  step_within : (i : ℕ) → suc i < length z → nat_abs (step_at z i) ≤ 2 * k
  step_within i h =
      let a = parts_within (get_or z i (pos 0)) k (each i (omega arith)) in
      let b = parts_within (get_or z (suc i) (pos 0)) k (each (suc i) h) in
      abs_le (2 * k) (less (itself (get_or z (suc i) (pos 0))) (itself (get_or z i (pos 0)))) (omega (arith, a, b)) (omega (arith, a, b))

  pub slope_within : 2 ≤ length z → (i : ℕ) → i < length z → nat_abs (slope_at z i) ≤ 2 * k
  unfolding slope_at
  slope_within m i h =
      between_le (step_at z (i - 1)) (step_at z (min i (length z - 2))) (2 * k) (step_within (i - 1) (omega arith))
      (step_within (min i (length z - 2)) (omega arith))

pub slope_le : (z : List ℤ) → Small most z → 2 ≤ length z → (i : ℕ) → i < length z → nat_abs (slope_at z i) ≤ 1000000000000
slope_le z s m i h = slope_within z most s.each m i h

-- ---- as the code has them
module _ (x x1 y y1 : ℕ) (hx : x ≤ 1000000000000) (hx1 : x1 ≤ 1000000000000) (hy : y ≤ 1000000000000) (hy1 : y1 ≤ 1000000000000) where
  pub slope_held : (r : ℤ) → r ≡ between (sub_ℕ x1 x) (sub_ℕ y1 y) → held r ≡ between (sub_ℕ x1 x) (sub_ℕ y1 y)
  slope_held r e =
      ap held e ∙ back (between (sub_ℕ x1 x) (sub_ℕ y1 y)) 1000000000000
      (between_le (sub_ℕ x1 x) (sub_ℕ y1 y) 1000000000000 (abs_le 1000000000000 (sub_is x1 x) hx1 hx) (abs_le 1000000000000 (sub_is y1 y) hy1 hy)) (lit< tt)

step_is : {a b : ℤ} (x x1 : ℕ) → sub_ℕ x most ≡ a → sub_ℕ x1 most ≡ b → sub_ℕ x1 x ≡ b -ℤ a
step_is {a} {b} x x1 p q =
    is_sub (other x1 x (less (subst (λ (z : ℤ). Is z x1 most) q (sub_is x1 most)) (subst (λ (z : ℤ). Is z x most) p (sub_is x most))) (omega arith))

step_of : (ks : List ℤ) (i l x x1 : ℕ) → l ≡ i → sub_ℕ x most ≡ held (get_or ks l (pos 0)) → sub_ℕ x1 most ≡ held (get_or ks (l + 1) (pos 0))
    → sub_ℕ x1 x ≡ step_at (held_all ks) i
step_of ks i l x x1 e p q =
    step_is x x1 (p ∙ ap (λ (n : ℕ). held (get_or ks n (pos 0))) e ∙ sym (knot ks i))
    (q ∙ ap (λ (n : ℕ). held (get_or ks n (pos 0))) (next l i e) ∙ sym (knot ks (suc i)))
  where
    next : (l i : ℕ) → l ≡ i → l + 1 ≡ suc i
    next l i e = omega arith

pub slope_of : (ks : List ℤ) (i l h x x1 y y1 : ℕ) → l ≡ i - 1 → h ≡ min i (length ks - 2)
    → sub_ℕ x most ≡ held (get_or ks l (pos 0)) → sub_ℕ x1 most ≡ held (get_or ks (l + 1) (pos 0))
    → sub_ℕ y most ≡ held (get_or ks h (pos 0)) → sub_ℕ y1 most ≡ held (get_or ks (h + 1) (pos 0))
    → between (sub_ℕ x1 x) (sub_ℕ y1 y) ≡ slope_at (held_all ks) i
unfolding slope_at
slope_of ks i l h x x1 y y1 el eh p p1 q q1 =
    both (step_of ks (i - 1) l x x1 el p p1)
    (step_of ks (min i (length (held_all ks) - 2)) h y y1 (eh ∙ ap (λ (n : ℕ). min i (n - 2)) (sym (long ks))) q q1)
  where
    both : {a b c d : ℤ} → a ≡ c → b ≡ d → between a b ≡ between c d
    both p q = cc
