-- What evaluation answers: the local place lies in 0 to 1, every rounded step is finite, and so is every value told. Assumes nothing.
use Rattle.std.specs.Prelude.{Ok, Err}
use mathlib.Core.Path.{◌≡◌, refl, subst}
use mathlib.Core.Bool.{not, ◌&&◌}
use mathlib.Core.List.{List}
use Prim.Native.Nat.{ℕ, ◌+◌, ◌-◌, ◌*◌, ◌≤◌, ◌<◌}
use native.Mathlib.Nat.{le_trans}
use native.Mathlib.Omega.{arith}
use lib.Dec.{T, lit≤}
use lib.ListN.{length, drop}
use lib.Ieee.{Float, le, is_nan}
use lib.Ieee.Fits.{and_l, and_r}
use lib.Ieee.Scale.{finite}
use Rattle.error.specs.Refusals.{first, Verdict}
use Rattle.error.proofs.First.{never}
use Rattle.basis.specs.declared.Basis.{Basis}
use Rattle.basis.specs.Basis.{step_of, segments_of, matrix_of}
use Rattle.doubles.specs.Numbers.{nought, one}
use Rattle.doubles.proofs.Tests.{holds, fails}
use Rattle.doubles.proofs.Bounds.{Within, InOne, times, within_finite, clamp_in, clamp_within, unit_within, whole_within}
use Rattle.doubles.proofs.LocalPart.{local_in}
use Rattle.doubles.proofs.WholePart.{whole_le}
use Rattle.spline.specs.Segment.{segment_steps}
use Rattle.spline.specs.Curve.{scaled, segment_at, local_at, curve_value}
use Rattle.spline.specs.Evaluation.{spline_uses, spline_segment_uses, evaluated, spline_of, spline_segment_of}
use Rattle.spline.proofs.Parts.{inside, few}
use Rattle.spline.proofs.Verdicts.{Sound, curve_sound, segment_sound}
use Rattle.spline.proofs.Finite.{Finite, knots_within, segment_finite}

-- the local t of a curve of up to 4,096 segments lies in 0 to 1
pub local_in_one : (k : ℕ) (x : Float) → 0 < k → k ≤ 4096 → T (not (is_nan x)) → InOne (local_at k x)
local_in_one k x K M n = local_in k _ K M (clamp_in x n)

-- so the steps before the segment's are finite
pub scaled_finite : (k : ℕ) (x : Float) → 0 < k → k ≤ 4096 → T (not (is_nan x)) → T (finite (scaled k x)) × T (finite (local_at k x))
scaled_finite k x K M n =
    let l = local_in_one k x K M n in
    (within_finite (times {a = 0} {b = 12} (lit≤ tt) (clamp_within x n) (whole_within k M)), within_finite (unit_within (local_at k x) l.low l.high))

-- ---- every rounded step of a curve's value is finite
module _ (b : Basis) (x : Float) (ks : List Float) (s : Sound b x ks) where
  at : segment_at (segments_of b (length ks)) x * step_of b + 4 ≤ length ks
  at = let i = inside (segment_at (segments_of b (length ks)) x) (step_of b) (length ks - 4) (le_trans (whole_le _ _) (omega arith)) in omega (arith, s.many, i)

  local : InOne (local_at (segments_of b (length ks)) x)
  local = let f = few (length ks) (step_of b) s.few in local_in_one (segments_of b (length ks)) x (omega arith) (omega (arith, f)) (fails s.number)

  pub curve_finite : Within 49 (curve_value b x ks)
      × Finite (segment_steps (matrix_of b) (drop (segment_at (segments_of b (length ks)) x * step_of b) ks) (local_at (segments_of b (length ks)) x))
  unfolding curve_value
  curve_finite =
      segment_finite b (drop (segment_at (segments_of b (length ks)) x * step_of b) ks) (local_at (segments_of b (length ks)) x)
      (knots_within ks (segment_at (segments_of b (length ks)) x * step_of b) (holds s.tame) at) local.low local.high

-- ---- every value told is finite
-- a value is told only where the verdict is passed, and then it is the value
told : (v : Verdict) {f r : Float} → evaluated v f ≡ Ok r → (v ≡ Ok tt) × (f ≡ r)
told (Ok _) e = (refl, cc)
told (Err q) e = never (cc)

pub spline_finite : (b : Basis) (x : Float) (ks : List Float) (r : Float) → spline_of b x ks ≡ Ok r → T (finite r)
unfolding spline_of
spline_finite b x ks r e =
    let t = told (first (spline_uses b x ks)) e in
    subst (λ (z : Float). T (finite z)) t.1 (within_finite (curve_finite b x ks (curve_sound b x ks t.0)).0)

pub spline_segment_finite : (b : Basis) (x : Float) (cv : List Float) (r : Float) → spline_segment_of b x cv ≡ Ok r → T (finite r)
unfolding spline_segment_of
spline_segment_finite b x cv r e =
    let t = told (first (spline_segment_uses x cv)) e in
    let s = segment_sound x cv t.0 in
    let u : T (le nought x && le x one) = holds s.inside in
    let v = segment_finite b cv x (knots_within cv 0 (holds s.tame) s.many) (and_l (le nought x) (le x one) u) (and_r (le nought x) (le x one) u) in
    subst (λ (z : Float). T (finite z)) t.1 (within_finite v.0)
