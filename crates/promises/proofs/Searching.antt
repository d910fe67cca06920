-- The search above 12 segments: where the middle one is not entered, at most half of the open ones stay open, and none but those. For any trial of a segment.
-- Assumes nothing.
use mathlib.Core.Path.{◌≡◌, refl, sym, subst}
use mathlib.Core.Bool.{Bool, cond}
use Prim.Native.Nat.{ℕ, suc, ◌+◌, ◌*◌, ◌-◌, ◌/◌, ◌≤◌}
use native.Mathlib.Omega.{arith}
use lib.Ieee.{Float}
use Rattle.doubles.proofs.Tests.{branch}
use Rattle.inverse_segment.specs.Evaluations.{Evaluations}
use Rattle.inverse_segment.specs.Segment.{Entry, outside, Outcome, or_else}
use Rattle.inverse_order.specs.Order.{before}
use Rattle.inverse_search.specs.Search.{Trial, halve}

module _ (E : Trial) (y : Float) (rising : Bool) (k n : ℕ) where
  -- o is the search with d segments open from i on, after the evaluations t: at most half of the suc c from l on, and among these
  abbrev pub HalfOpen : ℕ → ℕ → Evaluations → Outcome → Type 0
  HalfOpen l c t o = (i : ℕ) × ((d : ℕ) × ((2 * d ≤ suc c) × (l ≤ i) × (i + d ≤ l + suc c) × (o ≡ halve E y rising k n i d t)))

  pub at_most_half : (l c : ℕ) (ev t : Evaluations) (v : Float) → E (l + c / 2) ev ≡ outside v t → HalfOpen l c t (halve E y rising k (suc n) l (suc c) ev)
  unfolding halve
  at_most_half l c ev t v e =
      let m = l + c / 2 in
      subst (λ (z : Entry). HalfOpen l c t
      (or_else z (λ v t. cond (before rising y v) (halve E y rising k n l (c / 2) t) (halve E y rising k n (suc m) (c - c / 2) t)))) (sym e)
      (branch (HalfOpen l c t) (before rising y v) (λ _. (l, (c / 2, (omega arith, omega arith, omega arith, refl))))
      (λ _. (suc m, (c - c / 2, (omega arith, omega arith, omega arith, refl)))))
