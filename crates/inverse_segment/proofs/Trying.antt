-- The trial of a segment, from what the code's calls give: its row sums, both end values, and the stop where they enclose the target. Assumes nothing.
use mathlib.Core.Path.{◌≡◌, refl, sym, ap, ◌∙◌}
use mathlib.Core.List.{List}
use mathlib.Core.Bool.{Bool, true, false}
use Prim.Native.Nat.{ℕ, ◌+◌, ◌*◌}
use native.Mathlib.Omega.{arith}
use lib.ListN.{length, drop}
use lib.Ieee.{Float}
use Rattle.basis.specs.declared.Basis.{Basis}
use Rattle.basis.specs.Basis.{step_of, matrix_of}
use Rattle.doubles.specs.Numbers.{nought, one}
use Rattle.spline.specs.declared.RowSums.{RowSums}
use Rattle.spline.specs.Segment.{row_sums_of, horner_of, segment_value, segment_of}
use Rattle.inverse_segment.specs.declared.Stop.{Stop}
use Rattle.inverse_segment.specs.declared.Trial.{Trial}
use Rattle.inverse_segment.specs.declared.Trial.TheVariants.{Outside, Inside}
use Rattle.inverse_segment.specs.Evaluations.{Evaluations}
use Rattle.inverse_segment.specs.Segment.{encloses, entered, enter}
use Rattle.inverse_segment.specs.Contract.{stop_of, trial_of}
use Rattle.inverse_segment.proofs.Ends.{both}
use Rattle.inverse_segment.specs.declared.Method.{Method}
use Rattle.inverse_segment.specs.declared.SegmentEnds.{SegmentEnds}
use Rattle.inverse_segment.specs.Method.{rule_of}
use Rattle.inverse_segment.specs.Contract.{EnteredIs, ends_of, EnterIs}

-- ---- the ends of a segment
pub ends_are : (w : RowSums) {v0 v1 : Float} → v0 ≡ horner_of w nought → v1 ≡ horner_of w one → record { sums = w; v0 = v0; v1 = v1 } ≡ ends_of w
ends_are w p q = rw (p, q) refl

-- ---- its trial
module _ (how : Method) (b : Basis) (cv : List Float) (y ε : Float) (limit n : ℕ) {e : SegmentEnds} {h : Bool}
    (ends : e ≡ ends_of (row_sums_of (matrix_of b) cv)) (holds : h ≡ encloses e.v0 e.v1 y) where
  abbrev f : Float → Float
  f = segment_value (matrix_of b) cv

  start_is : e.v0 ≡ f nought
  start_is = ap (λ (e : SegmentEnds). e.v0) ends

  held : h ≡ encloses (f nought) (f one) y
  held = holds ∙ ap (λ (e : SegmentEnds). encloses e.v0 e.v1 y) ends

  pub tried_inside : {a : Stop} → h ≡ true → EnteredIs how e.sums y ε limit e.v0 e.v1 (n + 2) a → EnterIs how b cv y ε limit n (Inside a)
  unfolding enter
  tried_inside {a} t i s ev l =
      let q : encloses (f nought) (f one) y ≡ true = sym held ∙ t in
      let stop : a ≡ stop_of (entered (rule_of how) f s y ε limit (f nought) (f one) (both s ev)) =
      i s (both s ev) (omega (arith, l))
      ∙ ap (λ (e : SegmentEnds). stop_of (entered (rule_of how) (horner_of e.sums) s y ε limit e.v0 e.v1 (both s ev))) ends in
      simp q (ap Inside stop)

  pub tried_outside : h ≡ false → EnterIs how b cv y ε limit n (Outside e.v0)
  unfolding enter
  tried_outside t s ev l =
      let q : encloses (f nought) (f one) y ≡ false = sym held ∙ t in
      simp q (ap Outside start_is)

-- the trial of a segment of a curve: its knots p are those from its place on
pub on_curve : (how : Method) (b : Basis) (ks p : List Float) (y ε : Float) (limit s n : ℕ) {r : Trial} → p ≡ drop (s * step_of b) ks
    → EnterIs how b p y ε limit n r → (i : ℕ) (ev : Evaluations) → length ev ≡ n
    → r ≡ trial_of (enter (rule_of how) (segment_of b ks s) i y ε limit ev)
on_curve how b ks p y ε limit s n q e i ev l =
    e i ev l ∙ ap (λ (cv : List Float). trial_of (enter (rule_of how) (segment_value (matrix_of b) cv) i y ε limit ev)) q

-- segment 0 starts at the first knot
pub from_first : (b : Basis) (cv : List Float) → cv ≡ drop (0 * step_of b) cv
from_first b cv = let q : 0 ≡ 0 * step_of b = omega arith in ap (λ (i : ℕ). drop i cv) q
