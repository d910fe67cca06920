-- Whole knots come out exact, of whatever the two calls of evaluation reply; and one segment of a B-spline that does not. Assumes nothing.
use Rattle.std.specs.Prelude.{Ok}
use mathlib.Core.Path.{◌≡◌, sym, ap, ◌∙◌, subst}
use mathlib.Core.List.{List}
use Prim.Native.Nat.{ℕ, ◌*◌, ◌≤◌}
use lib.IntN.{ℤ, pos}
use lib.Dec.{T}
use lib.ListN.{length, drop}
use lib.Ieee.{Float}
use Rattle.error.specs.Refusals.{first}
use Rattle.basis.specs.declared.Basis.{Basis}
use Rattle.basis.specs.declared.Basis.TheVariants.{Bspline}
use Rattle.basis.specs.Basis.{step_of, segments_of}
use Rattle.doubles.specs.Numbers.{nought}
use Rattle.doubles.specs.Number.{Number}
use Rattle.checks.specs.Checks.{curve_length}
use Rattle.spline.specs.Curve.{segment_at, local_at}
use Rattle.spline.specs.Evaluation.{spline_segment_of, Evaluation}
use Rattle.spline.proofs.spline.Reads as spline
use Rattle.spline.proofs.spline_segment.Reads as spline_segment
use Rattle.spline_exact.specs.Exact.{is_exact, exact_of, WholeKnots, Answers}
use Rattle.spline_exact.proofs.Call.{segment_answers, curve_answers}
use Rattle.spline_exact.proofs.Bspline.{ones, below_one, bspline_answers}
use Rattle.calls.specs.Calls.{Keeps}

-- four whole knots at j/256: the call answers a value, and 2^25 times it is the cubic's whole number
pub spline_segment_exact : Keeps spline_segment.Learnt
    (λ κs a z e. T (is_exact a.0) → (whole : List ℤ) (j : ℕ) → length a.1.1.0.now ≡ 4 → WholeKnots a.1.1.0.now whole
    → Number a.1.0 (pos j) 8 → j ≤ 256
    → Answers z (exact_of a.0 whole j))
spline_segment_exact κs a z e p w whole j l k u h =
    subst (λ (r : Evaluation). Answers r (exact_of a.0 whole j)) (sym p) (segment_answers a.0 w a.1.0 a.1.1.0.now whole j l k u h)

-- a curve of whole knots and good length, at a parameter whose local place is j/256: the same of the segment where it lies
pub spline_exact : Keeps spline.Learnt
    (λ κs a z e. T (is_exact a.0) → (whole : List ℤ) (j : ℕ) → first (curve_length a.0 (length a.1.1.0.now)) ≡ Ok tt
    → WholeKnots a.1.1.0.now whole
    → Number (local_at (segments_of a.0 (length a.1.1.0.now)) a.1.0) (pos j) 8 → j ≤ 256
    → Answers z (exact_of a.0 (drop (segment_at (segments_of a.0 (length a.1.1.0.now)) a.1.0 * step_of a.0) whole) j))
spline_exact κs a z e p w whole j l k u h =
    subst (λ (r : Evaluation). Answers r
    (exact_of a.0 (drop (segment_at (segments_of a.0 (length a.1.1.0.now)) a.1.0 * step_of a.0) whole) j)) (sym p)
    (curve_answers a.0 w a.1.0 a.1.1.0.now whole j l k u h)

-- a B-spline over four knots of 1, at place 0: the answer is the double below 1
pub spline_segment_bspline_rounds : Keeps spline_segment.Learnt (λ κs a z e. a.0 ≡ Bspline → a.1.0 ≡ nought → a.1.1.0.now ≡ ones → z ≡ Ok below_one)
spline_segment_bspline_rounds κs a z e p b x k =
    p
    ∙ ap (λ (c : Basis). spline_segment_of c a.1.0 a.1.1.0.now) b
    ∙ ap (λ (t : Float). spline_segment_of Bspline t a.1.1.0.now) x
    ∙ ap (λ (l : List Float). spline_segment_of Bspline nought l) k
    ∙ bspline_answers
