-- What the two calls of evaluation answer on whole knots: no row of the refusals applies but those of the lengths, and the value is exact. Assumes nothing.
use Rattle.std.specs.Prelude.{Ok}
use mathlib.Core.Path.{◌≡◌, refl, sym, ap, ◌∙◌}
use mathlib.Core.Bool.{Bool, true, false, ◌&&◌}
use mathlib.Core.List.{List, [], ◌∷◌}
use Prim.Native.Nat.{ℕ, zero, suc, ◌+◌, ◌-◌, ◌*◌, ◌^◌, ◌≤◌, ◌<◌}
use native.Mathlib.Nat.{le_trans}
use native.Mathlib.Omega.{arith}
use lib.IntN.{ℤ, pos, nat_abs}
use lib.Dec.{T, lit≤, lit<}
use lib.ListN.{length, get_or, drop, length-drop}
use lib.Seq.{get_or-drop}
use lib.Ieee.{Float, nan, inf, fin, binary64, round, neg, add, sub, mul, lt, le, of_int, is_nan}
use lib.Ieee.Fits.{and_i}
use Rattle.error.specs.Refusals.{first}
use Rattle.basis.specs.declared.Basis.{Basis}
use Rattle.basis.specs.Basis.{step_of, segments_of, matrix_of}
use Rattle.doubles.specs.Numbers.{nought, one, clamp}
use Rattle.doubles.specs.Number.{Number}
use Rattle.doubles.proofs.Order.{ne_itself}
use Rattle.doubles.proofs.WholePart.{whole_le}
use Rattle.doubles.proofs.Bounds.{within_between}
use Rattle.doubles.proofs.Exact.{forget, of_number, exactly_within, number_above, whole_exactly, share_exactly}
use Rattle.spline.specs.Segment.{segment_value}
use Rattle.checks.specs.Checks.{bound, in_range, all_in_range, curve_length}
use Rattle.spline.specs.Curve.{segment_at, local_at, curve_value}
use Rattle.spline.specs.Evaluation.{spline_of, spline_segment_uses, spline_segment_of, evaluated}
use Rattle.spline.proofs.Parts.{inside}
use Rattle.checks.proofs.Verdicts.{length_passed}
use Rattle.spline.proofs.Verdicts.{curve_passes}
use Rattle.spline_exact.specs.Cubic.{at}
use Rattle.spline_exact.specs.Exact.{is_exact, exact_of, WholeKnots, Answers}
use Rattle.spline_exact.proofs.Segment.{whole_knots_exact}

true_of : (b : Bool) → T b → b ≡ true
true_of true t = refl
true_of false t = absurd t

-- ---- whole knots are in range
one_in_range : (x : Float) (z : ℤ) → Number x z 0 → nat_abs z ≤ 2 ^ 20 → T (in_range x)
unfolding in_range neg
one_in_range x z v h =
    let w = within_between (exactly_within 40 (lit≤ tt) (of_number 1048576 h v)) in
    and_i (le (neg bound) x) (le x bound) w.0 w.1

all_in_range_lem : (ks : List Float) (z : ℕ → ℤ) → ((i : ℕ) → i < length ks → Number (get_or ks i nan) (z i) 0)
    → ((i : ℕ) → i < length ks → nat_abs (z i) ≤ 2 ^ 20) → T (all_in_range ks)
unfolding all_in_range
all_in_range_lem [] z v h = tt
all_in_range_lem (x ∷ ks) z v h =
    and_i (in_range x) (all_in_range ks) (one_in_range x (z 0) (v 0 (omega arith)) (h 0 (omega arith)))
    (all_in_range_lem ks (λ i. z (suc i)) (λ i l. v (suc i) (omega arith)) (λ i l. h (suc i) (omega arith)))

tame : (ks : List Float) (z : List ℤ) → WholeKnots ks z → all_in_range ks ≡ true
tame ks z k = true_of (all_in_range ks) (all_in_range_lem ks (λ i. at z i) k.whole k.small)

-- ---- a part of 256 lies in 0 to 1
in_one : (x : Float) (j : ℕ) → Number x (pos j) 8 → j ≤ 256 → (le nought x && le x one) ≡ true
in_one x j v h =
    true_of (le nought x && le x one) (and_i (le nought x) (le x one) (number_above v) (within_between (exactly_within 0 (lit≤ tt) (of_number 256 h v))).1)

-- ---- one segment
segment_passes : (x : Float) (cv : List Float) → length cv ≡ 4 → (le nought x && le x one) ≡ true → all_in_range cv ≡ true
    → first (spline_segment_uses x cv) ≡ Ok tt
segment_passes x cv e l t = simp (e, l, t)

pub segment_answers : (b : Basis) → T (is_exact b) → (x : Float) (cv : List Float) (z : List ℤ) (j : ℕ) → length cv ≡ 4 → WholeKnots cv z
    → Number x (pos j) 8 → j ≤ 256
    → Answers (spline_segment_of b x cv) (exact_of b z j)
unfolding spline_segment_of
segment_answers b w x cv z j e k u h =
    record {
      value = segment_value (matrix_of b) cv x;
      told = ap (λ v. evaluated v (segment_value (matrix_of b) cv x)) (segment_passes x cv e (in_one x j u h) (tame cv z k));
      exact = whole_knots_exact b w cv z x j (omega arith) k u h;
    }

-- ---- a curve: the segment where the parameter lies, at the local place
number_of : (k : ℕ) (x : Float) (z : ℤ) (p : ℕ) → Number (local_at k x) z p → is_nan x ≡ false
unfolding is_nan clamp lt mul sub add
number_of k nan z p v = absurd v.is
number_of k (inf s) z p v = refl
number_of k (fin s m e) z p v = refl

part : (ks : List Float) (z : List ℤ) (n : ℕ) → WholeKnots ks z → WholeKnots (drop n ks) (drop n z)
part ks z n k =
    record {
      whole = λ i l. rw (get_or-drop, get_or-drop) (k.whole (n + i) (omega (arith, length-drop n ks)));
      small = λ i l. rw get_or-drop (k.small (n + i) (omega (arith, length-drop n ks)));
    }

module _ (b : Basis) (x : Float) (ks : List Float) where
  place : ℕ
  place = segment_at (segments_of b (length ks)) x * step_of b

  starts : 4 ≤ length ks → place + 4 ≤ length ks
  unfolding place
  starts l = let i = inside (segment_at (segments_of b (length ks)) x) (step_of b) (length ks - 4) (le_trans (whole_le _ _) (omega arith)) in omega (arith, i)

pub curve_answers : (b : Basis) → T (is_exact b) → (x : Float) (ks : List Float) (z : List ℤ) (j : ℕ) → first (curve_length b (length ks)) ≡ Ok tt
    → WholeKnots ks z
    → Number (local_at (segments_of b (length ks)) x) (pos j) 8 → j ≤ 256
    → Answers (spline_of b x ks) (exact_of b (drop (segment_at (segments_of b (length ks)) x * step_of b) z) j)
unfolding spline_of curve_value place
curve_answers b w x ks z j e k u h =
    let s = place b x ks in
    let t = local_at (segments_of b (length ks)) x in
    let many = starts b x ks (length_passed b (length ks) e).least in
    record {
      value = curve_value b x ks;
      told =
          ap (λ v. evaluated v (curve_value b x ks))
          (sym (curve_passes b x ks refl e (ne_itself x ∙ number_of (segments_of b (length ks)) x (pos j) 8 u) (tame ks z k)));
      exact = whole_knots_exact b w (drop s ks) (drop s z) t j (omega (arith, length-drop s ks)) (part ks z s k) u h;
    }

-- ---- there are such knots and places: whole numbers as doubles, and the doubles of j/256
abbrev pub doubles_of : List ℤ → List Float
doubles_of [] = []
doubles_of (z ∷ zs) = of_int binary64 z ∷ doubles_of zs

knot_met : (z : List ℤ) → ((i : ℕ) → nat_abs (at z i) ≤ 2 ^ 20) → (i : ℕ) → i < length (doubles_of z) → Number (get_or (doubles_of z) i nan) (at z i) 0
knot_met [] h i l = absurd (omega arith)
knot_met (z ∷ zs) h zero l = forget (whole_exactly z 1048576 (lit< tt) (h 0))
knot_met (z ∷ zs) h (suc i) l = knot_met zs (λ n. h (suc n)) i (omega arith)

pub knots_met : (z : List ℤ) → ((i : ℕ) → nat_abs (at z i) ≤ 2 ^ 20) → WholeKnots (doubles_of z) z
knots_met z h = record { whole = knot_met z h; small = λ i l. h i }

pub place_met : (j : ℕ) → j ≤ 256 → Number (round binary64 false j 256) (pos j) 8
place_met j h = forget (share_exactly j h)
