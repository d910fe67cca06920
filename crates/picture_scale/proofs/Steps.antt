-- Segments, steps from label to label, and the view box. Assumes nothing.
use mathlib.Core.Path.{◌≡◌, refl, sym, ap, ◌∙◌}
use Prim.Native.Nat.{ℕ, suc, ◌+◌, ◌*◌, ◌-◌, ◌/◌, ◌≤◌, ◌<◌}
use native.Mathlib.Omega.{arith}
use borrow.Author.Tests.{le-leb, lt-leb}
use Rattle.basis.specs.declared.Basis.{Basis}
use Rattle.basis.specs.declared.Basis.TheVariants.{Bspline, Bezier, CatmullRom, Hermite, Linear, Power}
use Rattle.basis.specs.Basis.{segments_of}
use Rattle.picture_scale.specs.declared.Extent.{Extent}
use Rattle.picture_scale.specs.Scale.{step_of, column_of, row_of}

pub few_segments : (b : Basis) (n : ℕ) → segments_of b n ≤ n + 1
few_segments Bspline n = omega arith
few_segments Bezier n = omega arith
few_segments CatmullRom n = omega arith
few_segments Hermite n = omega arith
few_segments Linear n = omega arith
few_segments Power n = omega arith

pub one_segment : (b : Basis) (n : ℕ) → n < 4 → 1 ≡ segments_of b n
one_segment Bspline n h = omega arith
one_segment Bezier n h = omega arith
one_segment CatmullRom n h = omega arith
one_segment Hermite n h = omega arith
one_segment Linear n h = omega arith
one_segment Power n h = omega arith

-- ---- steps
pub step_none : (k r : ℕ) → k ≡ 0 → 1 ≡ step_of k r
unfolding step_of
step_none k r e = rw e refl

module _ (k r : ℕ) (some : k ≡ 0 → ⊥) where
  before : k ≡ suc (k - 1)
  before = omega arith

  pub step_5 : r ≤ 5 → 1 ≡ step_of k r
  unfolding step_of
  step_5 h = rw (before, le-leb r 5 h) refl

  pub step_10 : 5 < r → r ≤ 10 → 2 ≡ step_of k r
  unfolding step_of
  step_10 g h = rw (before, lt-leb r 5 g, le-leb r 10 h) refl

  pub step_25 : 10 < r → r ≤ 25 → 5 ≡ step_of k r
  unfolding step_of
  step_25 g h = rw (before, lt-leb r 5 (omega arith), lt-leb r 10 g, le-leb r 25 h) refl

  pub step_more : {s : ℕ} → 25 < r → s ≡ step_of (k - 1) (r / 10) → 10 * s ≡ step_of k r
  unfolding step_of
  step_more {s} g e =
      let z : 10 * s ≡ step_of (suc (k - 1)) r = rw (e, lt-leb r 5 (omega arith), lt-leb r 10 (omega arith), lt-leb r 25 g) refl in
      z ∙ ap (λ x. step_of x r) (sym before)

-- ---- nothing stands outside the frame
pub column_within : (i m : ℕ) → (1000 ≤ column_of i m) × (column_of i m ≤ 9600)
unfolding column_of
column_within i m = (omega arith, omega arith)

pub row_within : (e : Extent) (h : ℕ) → (400 ≤ row_of e h) × (row_of e h ≤ 6400)
unfolding row_of
row_within e h = (omega arith, omega arith)
