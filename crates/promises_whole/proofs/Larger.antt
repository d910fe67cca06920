-- The number that refusal 4 tells: it is larger than the bound, and none before it is. Assumes nothing.
use mathlib.Core.Path.{◌≡◌, refl}
use mathlib.Core.Bool.{Bool, true, false, cond}
use mathlib.Core.List.{List, [], ◌∷◌}
use Prim.Native.Nat.{ℕ, zero, suc, ◌≤◌, ◌<◌}
use native.Mathlib.Omega.{arith}
use lib.IntN.{ℤ, pos, nat_abs}
use lib.ListN.{length, get_or}
use lib.Dec.{leb}
use borrow.Author.Tests.{leb-true, leb-false}
use Rattle.whole.specs.Held.{small, first_large}

-- number i of a list is the first that is larger in magnitude than a bound
pub record FirstLarger (most : ℕ) (z : List ℤ) (i : ℕ) : Type 0 where
  pub inside : i < length z
  pub larger : most < nat_abs (get_or z i (pos 0))
  pub before : (k : ℕ) → k < i → nat_abs (get_or z k (pos 0)) ≤ most

pub first_larger : (most : ℕ) (z : List ℤ) → first_large most z < length z → FirstLarger most z (first_large most z)
unfolding first_large small
first_larger most [] h = absurd (omega arith)
first_larger most (x ∷ z) h = go (leb (nat_abs x) most) refl h (first_larger most z)
  where
    go : (t : Bool) → leb (nat_abs x) most ≡ t → cond t (suc (first_large most z)) 0 < length (x ∷ z)
        → (first_large most z < length z → FirstLarger most z (first_large most z)) → FirstLarger most (x ∷ z) (cond t (suc (first_large most z)) 0)
    go true e h f = let l = f (omega arith) in record { inside = h; larger = l.larger; before = below l }
      where
        below : FirstLarger most z (first_large most z) → (k : ℕ) → k < suc (first_large most z) → nat_abs (get_or (x ∷ z) k (pos 0)) ≤ most
        below l zero p = leb-true (nat_abs x) most e
        below l (suc k) p = l.before k (omega arith)
    go false e h f = record { inside = h; larger = leb-false (nat_abs x) most e; before = λ k p. absurd (omega arith) }
