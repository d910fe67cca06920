-- Every double that a conversion writes is finite, for all pairs of bases. Assumes nothing.
use mathlib.Core.Path.{◌≡◌, subst}
use mathlib.Core.List.{List}
use Prim.Native.Nat.{ℕ, zero, suc, ◌+◌, ◌-◌, ◌*◌, ◌/◌, ◌≤◌, ◌<◌}
use native.Mathlib.Omega.{arith}
use lib.Dec.{T, lit≤}
use lib.ListN.{length, get_or, drop}
use lib.Ieee.{Float, nan}
use lib.Ieee.Scale.{finite}
use Rattle.error.specs.Refusals.{first}
use Rattle.basis.specs.declared.Basis.{Basis}
use Rattle.basis.specs.Basis.{step_of}
use Rattle.doubles.proofs.Tests.{holds}
use Rattle.doubles.proofs.Bounds.{within_finite}
use Rattle.checks.specs.Checks.{all_in_range}
use Rattle.spline.proofs.Finite.{Four, Small, Finite, none, more, joined, row_finite, knots_within}
use Rattle.spline.proofs.Parts.{inside}
use Rattle.convert_matrix.specs.Matrix.{Matrix, row, applied}
use Rattle.convert_matrix.specs.Elimination.{conversion_of}
use Rattle.convert_matrix.proofs.Inverses.{conversion_small}
use Rattle.convert.specs.Output.{windows, segment_output, spline_output}
use Rattle.convert.specs.Conversion.{gives, convert_segment_uses, convert_uses, converted_segment_of, converted_of}
use Rattle.convert.proofs.Kept.{given}
use Rattle.convert.proofs.Verdicts.{segment_passed, spline_passed}

-- ---- lists of finite doubles
dropped : (n : ℕ) {xs : List Float} → Finite xs → Finite (drop n xs)
dropped zero p = p
dropped (suc n) none = none
dropped (suc n) (more w p) = dropped n p

pub finite_at : {xs : List Float} → Finite xs → (i : ℕ) → i < length xs → T (finite (get_or xs i nan))
finite_at none i h = absurd (omega arith)
finite_at (more w p) zero h = within_finite w
finite_at (more w p) (suc i) h = finite_at p i (omega arith)

-- ---- a window, and all windows
applied_finite : (m : Matrix) (cv : List Float) → Small 3 m → Four 40 cv → Finite (applied m cv)
applied_finite m cv s k =
    more (row_finite 3 cv (row m 0) (lit≤ tt) k s.r0).within
    (more (row_finite 3 cv (row m 1) (lit≤ tt) k s.r1).within
    (more (row_finite 3 cv (row m 2) (lit≤ tt) k s.r2).within
    (more (row_finite 3 cv (row m 3) (lit≤ tt) k s.r3).within none)))

windows_finite : (m : Matrix) (step stride : ℕ) (ks : List Float) (n : ℕ) → Small 3 m → T (all_in_range ks) → ((i : ℕ) → i ≤ n → i * step + 4 ≤ length ks)
    → Finite (windows m step stride ks n)
unfolding windows
windows_finite m step stride ks zero s t h = applied_finite m (drop (0 * step) ks) s (knots_within ks (0 * step) t (h 0 (omega arith)))
windows_finite m step stride ks (suc n) s t h =
    joined (windows_finite m step stride ks n s t (λ i k. h i (omega arith)))
    (dropped (4 - stride) (applied_finite m (drop (suc n * step) ks) s (knots_within ks (suc n * step) t (h (suc n) (omega arith)))))

-- ---- the two calls
pub segment_finite : (from to : Basis) (cv : List Float) (room : ℕ) (l : List Float) → converted_segment_of from to cv room ≡ gives l → Finite l
unfolding converted_segment_of segment_output
segment_finite from to cv room l e =
    let g = given (first (convert_segment_uses to cv room)) e in
    let p = segment_passed to cv room g.0 in
    subst Finite g.1 (applied_finite (conversion_of from to) cv (conversion_small from to) (knots_within cv 0 (holds p.1.in_range_lem) (omega arith)))

pub spline_finite : (from to : Basis) (ks : List Float) (room : ℕ) (l : List Float) → converted_of from to ks room ≡ gives l → Finite l
unfolding converted_of spline_output
spline_finite from to ks room l e =
    let g = given (first (convert_uses from to ks room)) e in
    let p = spline_passed from to ks room g.0 in
    let k = (length ks - 4) / step_of from in
    let fit : (i : ℕ) → i ≤ k + 1 - 1 → i * step_of from + 4 ≤ length ks = λ i h. reach i (inside i (step_of from) (length ks - 4) (omega arith)) p.0.least in
    subst Finite g.1 (windows_finite (conversion_of from to) (step_of from) (step_of to) ks (k + 1 - 1) (conversion_small from to) (holds p.1.in_range_lem) fit)
  where
    reach : (i : ℕ) → i * step_of from ≤ length ks - 4 → 4 ≤ length ks → i * step_of from + 4 ≤ length ks
    reach i h g = omega arith
