-- The verdicts of evaluation, by the tests as the code makes them. Assumes nothing.
use Rattle.std.specs.Prelude.{Ok, Err}
use mathlib.Core.Path.{◌≡◌, sym, ◌∙◌}
use mathlib.Core.Bool.{true, false, ◌&&◌}
use mathlib.Core.List.{List, [], ◌∷◌}
use Prim.Native.Nat.{◌≤◌}
use borrow.Author.Tests.{ltb-false, not-false}
use lib.ListN.{length}
use lib.Ieee.{Float, le, ne, is_nan}
use Rattle.error.specs.declared.Refusal.{Refusal}
use Rattle.error.specs.declared.Refusal.TheVariants.{NotANumber}
use Rattle.error.specs.Refusals.{first, Verdict}
use Rattle.error.proofs.First.{stops, goes_on, clear}
use Rattle.basis.specs.declared.Basis.{Basis}
use Rattle.doubles.specs.Numbers.{nought, one}
use Rattle.doubles.proofs.Order.{ne_itself}
use Rattle.checks.specs.Checks.{all_in_range, bad_knot, curve_length, segment_length}
use Rattle.spline.specs.Evaluation.{spline_uses, spline_segment_uses}

-- ---- a curve
module _ (b : Basis) (x : Float) (ks : List Float) {l : Verdict} (e : l ≡ first (curve_length b (length ks))) where
  pub curve_stops : {r : Refusal} → l ≡ Err r → l ≡ first (spline_uses b x ks)
  curve_stops k = stops (spline_uses b x ks) e k

  pub curve_number : l ≡ Ok tt → ne x x ≡ true → Err NotANumber ≡ first (spline_uses b x ks)
  curve_number k n = goes_on (spline_uses b x ks) e k (simp (sym (ne_itself x) ∙ n))

  pub curve_knots : l ≡ Ok tt → ne x x ≡ false → {w : Verdict} → w ≡ first (bad_knot ks ∷ []) → w ≡ first (spline_uses b x ks)
  curve_knots k n h = goes_on (spline_uses b x ks) e k (simp (sym (ne_itself x) ∙ n) h)

  pub curve_passes : l ≡ Ok tt → ne x x ≡ false → all_in_range ks ≡ true → Ok tt ≡ first (spline_uses b x ks)
  curve_passes k n a = goes_on (spline_uses b x ks) e k (simp (sym (ne_itself x) ∙ n, a))

-- ---- one segment
module _ (x : Float) (cv : List Float) {l : Verdict} (e : l ≡ first (segment_length (length cv))) where
  pub segment_stops : {r : Refusal} → l ≡ Err r → l ≡ first (spline_segment_uses x cv)
  segment_stops k = stops (spline_segment_uses x cv) e k

  pub segment_outside : l ≡ Ok tt → (le nought x && le x one) ≡ false → Err NotANumber ≡ first (spline_segment_uses x cv)
  segment_outside k n = goes_on (spline_segment_uses x cv) e k (simp n)

  pub segment_knots_lem : l ≡ Ok tt → (le nought x && le x one) ≡ true → {w : Verdict} → w ≡ first (bad_knot cv ∷ []) → w ≡ first (spline_segment_uses x cv)
  segment_knots_lem k n h = goes_on (spline_segment_uses x cv) e k (simp n h)

-- ---- what a passed verdict says
pub record Sound (b : Basis) (x : Float) (ks : List Float) : Type 0 where
  pub many : 4 ≤ length ks
  pub few : length ks ≤ 4096
  pub number : is_nan x ≡ false
  pub tame : all_in_range ks ≡ true

pub curve_sound : (b : Basis) (x : Float) (ks : List Float) → first (spline_uses b x ks) ≡ Ok tt → Sound b x ks
curve_sound b x ks e =
    let p = clear (spline_uses b x ks) e in
    record { many = ltb-false (length ks) 4 (p 1); few = ltb-false 4096 (length ks) (p 3); number = p 5; tame = not-false (all_in_range ks) (p 4) }

pub record SoundSegment (x : Float) (cv : List Float) : Type 0 where
  pub many : 4 ≤ length cv
  pub inside : (le nought x && le x one) ≡ true
  pub tame : all_in_range cv ≡ true

pub segment_sound : (x : Float) (cv : List Float) → first (spline_segment_uses x cv) ≡ Ok tt → SoundSegment x cv
segment_sound x cv e =
    let p = clear (spline_segment_uses x cv) e in
    record { many = ltb-false (length cv) 4 (p 1); inside = not-false (le nought x && le x one) (p 5); tame = not-false (all_in_range cv) (p 4) }
