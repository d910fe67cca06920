-- One step of the elimination's code each, over plain values. Assumes nothing.
use Rattle.std.specs.Prelude.{Some, None, Option, ℕ}
use mathlib.Core.Path.{◌≡◌, refl, sym, ap, ◌∙◌, subst}
use mathlib.Core.List.{List, [], ◌∷◌}
use mathlib.Core.Bool.{true, false}
use Prim.Native.Nat.{ℕ, zero, suc, ◌+◌, ◌<◌, ◌≤◌}
use native.Mathlib.Omega.{arith}
use borrow.Author.Tests.{eq-eqb, ne_eqb}
use lib.ListN.{drop, drop_of_length-le}
use Rattle.convert_matrix.specs.Matrix.{Matrix, row, entry}
use Rattle.convert_matrix.specs.Elimination.{
  Elimination,
  goes,
  no_inverse,
  is_zero,
  widened,
  first_nonzero,
  pivot_of,
  swapped,
  divided,
  reduced,
  cleared_row,
  cleared,
  then,
  with_pivot,
  columns,
  right_half,
  inverse,
}
use Rattle.convert_elimination.specs.Contract.{shown, Found}

-- ---- a row is cleared
module _ (a : Matrix) (i k : ℕ) where
  pub own_row : k ≡ i → cleared_row a i k ≡ row a k
  unfolding cleared_row
  own_row e = simp (eq-eqb k i e)

  pub clear_already : (k ≡ i → ⊥) → is_zero (entry a k i) ≡ true → cleared_row a i k ≡ row a k
  unfolding cleared_row
  clear_already n z = simp (ne_eqb k i n, z)

  pub not_clear : (k ≡ i → ⊥) → is_zero (entry a k i) ≡ false → cleared_row a i k ≡ reduced (row a k) (entry a k i) (row a i)
  unfolding cleared_row
  not_clear n z = simp (ne_eqb k i n, z)

-- ---- rows and columns are counted from 0 to 3
abbrev pub from : ℕ → List ℕ
from k = drop k (0 ∷ 1 ∷ 2 ∷ 3 ∷ [])

from_next : (k : ℕ) → k < 4 → from k ≡ k ∷ from (k + 1)
from_next zero h = refl
from_next (suc zero) h = refl
from_next (suc (suc zero)) h = refl
from_next (suc (suc (suc zero))) h = refl
from_next (suc (suc (suc (suc k)))) h = absurd (omega arith)

from_end : (k : ℕ) → 4 ≤ k → from k ≡ []
from_end k h = drop_of_length-le (0 ∷ 1 ∷ 2 ∷ 3 ∷ []) h

-- ---- the pivot is looked for
module _ (a : Matrix) (i k : ℕ) where
  pub passed_by : k < 4 → is_zero (entry a k i) ≡ true → first_nonzero (from (k + 1)) a i ≡ first_nonzero (from k) a i
  unfolding first_nonzero
  passed_by h z = sym (ap (λ (ks : List ℕ). first_nonzero ks a i) (from_next k h) ∙ simp z)

  pub found : k < 4 → is_zero (entry a k i) ≡ false → Some k ≡ first_nonzero (from k) a i
  unfolding first_nonzero
  found h z = sym (ap (λ (ks : List ℕ). first_nonzero ks a i) (from_next k h) ∙ simp z)

  pub none_left : 4 ≤ k → None ≡ first_nonzero (from k) a i
  unfolding first_nonzero
  none_left h = ap (λ (ks : List ℕ). first_nonzero ks a i) (sym (from_end k h))

-- ---- a column
module _ (a : Matrix) (i : ℕ) where
  pub goes_on : (b : Matrix) (k : ℕ) → i < 4 → pivot_of a i ≡ Some k → b ≡ cleared (divided (swapped a i k) i) i → columns (from (i + 1)) b ≡ columns (from i) a
  unfolding columns
  goes_on b k h p e =
      sym
      (ap (λ (is : List ℕ). columns is a) (from_next i h)
      ∙ ap (λ (q : Option ℕ). then (with_pivot a i q) (columns (from (i + 1)))) p
      ∙ ap (columns (from (i + 1))) (sym e))

  pub stops : i < 4 → pivot_of a i ≡ None → columns (from i) a ≡ no_inverse
  unfolding columns
  stops h p = ap (λ (is : List ℕ). columns is a) (from_next i h) ∙ ap (λ (q : Option ℕ). then (with_pivot a i q) (columns (from (i + 1)))) p

  pub all_done : 4 ≤ i → columns (from i) a ≡ goes a
  unfolding columns
  all_done h = ap (λ (is : List ℕ). columns is a) (from_end i h)

-- the answer from the last column
pub answers : (m : Matrix) (a : Matrix) (e : Elimination) → a ≡ widened m → e ≡ columns (from 0) a
    → shown (then e (λ a. goes (right_half a))) ≡ shown (inverse m)
unfolding inverse
answers m a e p q = ap (λ (x : Elimination). shown (then x (λ a. goes (right_half a)))) (q ∙ ap (columns (from 0)) p)

pub found_below : (p : Option ℕ) (k : ℕ) → p ≡ Some k → Found p → k < 4
found_below p k e h = subst Found e h
