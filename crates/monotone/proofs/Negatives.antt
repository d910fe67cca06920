-- A size and its negative, as 64 bits hold them. Assumes nothing.
use mathlib.Core.Path.{◌≡◌, refl, sym, ap, ◌∙◌, subst}
use Prim.Native.Nat.{ℕ, zero, suc, ◌≤◌}
use lib.Dec.{lit<}
use lib.IntN.{ℤ, pos, neg_ℤ, nat_abs}
use Rattle.whole.specs.Held.{held}
use Rattle.whole.proofs.Held.{back}

pub size_down : (m : ℕ) → nat_abs (neg_ℤ (pos m)) ≡ m
size_down zero = refl
size_down (suc m) = refl

module _ (m : ℕ) (h : m ≤ 1000000000000) where
  down_le : nat_abs (neg_ℤ (pos m)) ≤ 1000000000000
  down_le = subst (λ (n : ℕ). n ≤ 1000000000000) (sym (size_down m)) h

  pub up_held : (r : ℤ) → r ≡ pos m → held r ≡ pos m
  up_held r e = ap held e ∙ back (pos m) 1000000000000 h (lit< tt)

  pub down_held : (r : ℤ) → r ≡ neg_ℤ (pos m) → held r ≡ neg_ℤ (pos m)
  down_held r e = ap held e ∙ back (neg_ℤ (pos m)) 1000000000000 down_le (lit< tt)
