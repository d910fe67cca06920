-- Where a scaled parameter lies: the guess that passes both comparisons is the whole part, and a scaled parameter lies from 0 to k. Assumes
-- nothing.
use Rattle.std.proofs.Common.{
  ◌≡◌,
  ℕ,
  ◌+◌,
  ◌-◌,
  ◌*◌,
  ◌/◌,
  ◌<◌,
  ◌≤◌,
  Bool,
  true,
  false,
  not,
  T,
  List,
  length,
  take,
  drop,
  pos,
  sym,
  refl,
  ap,
  ◌∙◌,
  subst,
  arith,
  lit<,
  lit≤,
}
use native.Mathlib.Nat.{min-eq_left}
use lib.Ieee.{Float, fin, binary64, add, sub, neg, le, lt, is_nan, of_int}
use Rattle.basis.specs.declared.Basis.{Basis}
use Rattle.basis.specs.Basis.{step_of, segments_of, matrix_of}
use Rattle.doubles.specs.Numbers.{nought}
use Rattle.doubles.specs.Whole.{double, whole_up_to}
use Rattle.doubles.proofs.Tests.{holds, fails}
use Rattle.doubles.proofs.Order.{le_trans_float}
use Rattle.doubles.proofs.Bounds.{Within, between_within, within_number, plus, clamp_in}
use Rattle.doubles.proofs.Units.{whole_value}
use Rattle.doubles.proofs.LocalPart.{product}
use Rattle.doubles.proofs.WholePart.{guessed, double_mono}
use Rattle.spline.specs.Curve.{scaled}
use Rattle.spline.specs.Segment.{row_sums_of, horner_of}
use Rattle.spline.specs.declared.RowSums.{RowSums}
use Rattle.spline.proofs.Parts.{inside, rest}
use Rattle.many.specs.Contract.{IsSpotOf, InScale, value_at}

true_of : (b : Bool) → T b → b ≡ true
true_of true h = refl
true_of false h = absurd h

-- a clamped and scaled parameter lies from 0 to k
pub scaled_in : (k : ℕ) (x : Float) → k ≤ 4096 → is_nan x ≡ false → InScale k (scaled k x)
scaled_in k x h n =
    let p = product _ (double k) k (whole_value k h) (clamp_in x (fails n)) in
    record { low = true_of _ p.0; high = true_of _ p.1 }

-- so it lies in 2^12
minus_below : T (le (fin true 1 (pos 12)) nought)
unfolding le
minus_below = tt

top_below : T (le (double 4096) (fin false 1 (pos 12)))
unfolding le of_int
top_below = tt

scale_within : (k : ℕ) (p : Float) → k ≤ 4096 → InScale k p → Within 12 p
scale_within k p h s =
    between_within 12 p (le_trans_float (fin true 1 (pos 12)) nought p minus_below (holds s.low))
    (le_trans_float p (double 4096) (fin false 1 (pos 12)) (le_trans_float p (double k) (double 4096) (holds s.high) (double_mono h)) top_below)

-- and is still a number once a double of up to 1 is taken from it, and one of up to 2^53 added
pub guess_number : (k : ℕ) (p c u : Float) → k ≤ 4096 → InScale k p
    → T (le (fin true 1 (pos 0)) (neg c)) → T (le (neg c) (fin false 1 (pos 0))) → T (le (fin true 1 (pos 53)) u) → T (le u (fin false 1 (pos 53)))
    → T (not (is_nan (add binary64 (sub binary64 p c) u)))
unfolding sub
guess_number k p c u h s a b d e =
    within_number
    (plus 53 (lit≤ tt) (lit≤ tt) (lit< tt) (plus 12 (lit≤ tt) (lit≤ tt) (lit< tt) (scale_within k p h s) (between_within 0 (neg c) a b))
    (between_within 53 u d e))

-- ---- the guess that is tested
pub met : (k n : ℕ) (p : Float) {d e : Float} → n < k → d ≡ double n → le d p ≡ true → e ≡ double (n + 1) → lt p e ≡ true → IsSpotOf k p n (sub binary64 p d)
met k n p {d} {e} h a l b u =
    let w : whole_up_to (k - 1) p ≡ n =
    guessed (k - 1) n p (subst (λ (z : Float). T (le z p)) a (holds l)) (subst (λ (z : Float). T (lt p z)) b (holds u)) ∙ min-eq_left (omega arith) in
    record { segment = sym w; local = ap (sub binary64 p) a; below = h }

pub far : (k s : ℕ) (p : Float) {d : Float} → 0 < k → s ≡ whole_up_to (k - 1) p → s ≤ k - 1 → d ≡ double s → IsSpotOf k p s (sub binary64 p d)
far k s p {d} h a l b = record { segment = a; local = ap (sub binary64 p) b; below = omega arith }

-- ---- the segment there, and its value
pub starts : (b : Basis) (n : ℕ) {k step s : ℕ} {p t : Float} → 4 ≤ n → k ≡ segments_of b n → step ≡ step_of b → IsSpotOf k p s t → s * step + 4 ≤ n
starts b n {k} {step} {s} h c e v =
    let u : s ≤ (n - 4) / step_of b = omega (arith, c, v.below) in
    let i : s * step_of b ≤ n - 4 = inside s (step_of b) (n - 4) u in
    subst (λ (j : ℕ). s * j + 4 ≤ n) (sym e) (omega (arith, i))

pub put_together : (b : Basis) (p : Float) (ks : List Float) (m : List (List Float)) {k step s : ℕ} {r t : Float} {w : RowSums}
    → k ≡ segments_of b (length ks) → step ≡ step_of b → IsSpotOf k p s t → m ≡ matrix_of b
    → w ≡ row_sums_of m (take (length ks - s * step) (drop (s * step) ks)) → r ≡ horner_of w t → r ≡ value_at b ks p
unfolding value_at
put_together b p ks m {k} {step} {s} {r} {t} c e u q h f =
    let v = subst (λ (j : ℕ). IsSpotOf j p s t) c u in
    f ∙ simp (h, rest, e, q, v.local, v.segment)
