-- How large signed sums and products get. Assumes nothing.
use mathlib.Core.Path.{◌≡◌, refl, sym, ap, ◌∙◌, subst}
use mathlib.Core.Bool.{Bool, true, false, cond}
use Prim.Native.Nat.{ℕ, zero, suc, ◌+◌, ◌-◌, ◌*◌, ◌^◌, ◌≤◌, ◌<◌}
use native.Mathlib.Nat.{le_trans, le_of_eq, lt_of_le_of_lt, mul-le-mul, add-le-add, le-add_right, le-add_left}
use native.Mathlib.Omega.{arith}
use lib.IntN.{ℤ, pos, negsuc, neg_ℤ, nat_abs, sub_ℕ, ◌+ℤ◌, ◌*ℤ◌}
use lib.Dec.{T, ltb, ltb→lt, lit<}
use lib.Signed.{mag}
use mir.Syntax.{w64}
use mir.Val.{SFits}
use mir.Facts.{to_z-of_z}
use borrow.Author.Rules.{sfits_of}
use Rattle.valve.specs.Mix.{held}

pub mag_le : (z : ℤ) → mag z ≤ nat_abs z
mag_le (pos n) = le_of_eq refl
mag_le (negsuc n) = omega arith

abs_neg : (n : ℕ) → nat_abs (neg_ℤ (pos n)) ≡ n
abs_neg zero = refl
abs_neg (suc n) = refl

pub abs_times : (w : ℕ) (z : ℤ) → nat_abs (pos w *ℤ z) ≡ w * nat_abs z
abs_times w (pos n) = refl
abs_times w (negsuc n) = abs_neg (w * suc n)

abs_sub : (a b : ℕ) → nat_abs (sub_ℕ a b) ≤ a + b
abs_sub a b = go (ltb a b) (ltb→lt a b)
  where
    go : (t : Bool) → (T t → a < b) → nat_abs (cond t (negsuc (b - suc a)) (pos (a - b))) ≤ a + b
    go true h = omega (arith, h tt)
    go false h = omega arith

pub abs_plus : (a b : ℤ) → nat_abs (a +ℤ b) ≤ nat_abs a + nat_abs b
abs_plus (pos a) (pos b) = le_of_eq refl
abs_plus (pos a) (negsuc b) = abs_sub a (suc b)
abs_plus (negsuc a) (pos b) = let h = abs_sub b (suc a) in omega (arith, h)
abs_plus (negsuc a) (negsuc b) = omega arith

pub term_size : (w : ℕ) (z : ℤ) → w ≤ 67108864 → nat_abs z ≤ 1000000 → nat_abs (pos w *ℤ z) ≤ 67108864000000
term_size w z h k = le_trans (le_of_eq (abs_times w z)) (mul-le-mul h k)

pub fits : (z : ℤ) (n : ℕ) → nat_abs z ≤ n → n < 2 ^ 63 → mag z < 2 ^ 63
fits z n h k = lt_of_le_of_lt (mag_le z) (lt_of_le_of_lt h k)

-- ---- a signed local holds bits: what is read back from them
pub back : (z : ℤ) (n : ℕ) → nat_abs z ≤ n → n < 2 ^ 63 → held z ≡ z
back z n h l = to_z-of_z (sfits_of {w = w64} (fits z n h l))

pub held_is : (z : ℤ) → SFits w64 z → held z ≡ z
held_is z f = to_z-of_z f

-- ---- a weight times a knot
module _ (a k : ℤ) (w : ℕ) (e : a ≡ pos w) (h : w ≤ 67108864) (b : nat_abs k ≤ 1000000) where
  weight_back : held a ≡ pos w
  weight_back = back a 67108864 (subst (λ (x : ℤ). nat_abs x ≤ 67108864) (sym e) h) (lit< tt) ∙ e

  both_back : held a *ℤ held k ≡ pos w *ℤ k
  both_back = ap (λ (x : ℤ). x *ℤ held k) weight_back ∙ ap (λ (x : ℤ). pos w *ℤ x) (back k 1000000 b (lit< tt))

  pub times_fit : SFits w64 (held a *ℤ held k)
  times_fit = subst (λ (x : ℤ). SFits w64 x) (sym both_back) (sfits_of (fits (pos w *ℤ k) 67108864000000 (term_size w k h b) (lit< tt)))

  pub term_is : (r : ℤ) → r ≡ held a *ℤ held k → (held r ≡ pos w *ℤ k) × (nat_abs (held r) ≤ 67108864000000)
  term_is r p =
      let i : r ≡ pos w *ℤ k = p ∙ both_back in
      let n : nat_abs r ≤ 67108864000000 = subst (λ (x : ℤ). nat_abs x ≤ 67108864000000) (sym i) (term_size w k h b) in
      let j : held r ≡ r = back r 67108864000000 n (lit< tt) in
      (j ∙ i, subst (λ (x : ℤ). nat_abs x ≤ 67108864000000) (sym j) n)

-- ---- a sum
module _ (a b : ℤ) (m n : ℕ) (h : nat_abs a ≤ m) (k : nat_abs b ≤ n) (l : m + n < 2 ^ 63) where
  sum_size : nat_abs (a +ℤ b) ≤ m + n
  sum_size = le_trans (abs_plus a b) (add-le-add h k)

  sum_back : held a +ℤ held b ≡ a +ℤ b
  sum_back =
      ap (λ (x : ℤ). x +ℤ held b) (back a m h (lt_of_le_of_lt (le-add_right m n) l))
      ∙ ap (λ (x : ℤ). a +ℤ x) (back b n k (lt_of_le_of_lt (le-add_left n m) l))

  pub plus_fit : SFits w64 (held a +ℤ held b)
  plus_fit = subst (λ (x : ℤ). SFits w64 x) (sym sum_back) (sfits_of (fits (a +ℤ b) (m + n) sum_size l))

  pub plus_is : (r : ℤ) → r ≡ held a +ℤ held b → (r ≡ a +ℤ b) × (nat_abs r ≤ m + n)
  plus_is r e = let i = e ∙ sum_back in (i, subst (λ (x : ℤ). nat_abs x ≤ m + n) (sym i) sum_size)
