-- The part of a slice from a place on, and where a curve's segments start. Assumes nothing.
use mathlib.Core.Path.{◌≡◌, sym, ◌∙◌, subst}
use mathlib.Core.Bool.{true}
use mathlib.Core.List.{List}
use Prim.Native.Nat.{ℕ, ◌+◌, ◌-◌, ◌*◌, ◌/◌, ◌≤◌, ◌<◌}
use native.Mathlib.Nat.{min-eq_left, le_trans, mul-le-mul_right, div-mul-le_self, div-le_self}
use native.Mathlib.Omega.{arith}
use lib.ListN.{length, take, drop, length-drop}
use lib.Seq.{take_all}
use lib.Ieee.{Float, binary64, le, lt, mul, sub}
use Rattle.basis.specs.declared.Basis.{Basis}
use Rattle.basis.specs.Basis.{step_of, segments_of, matrix_of}
use Rattle.doubles.specs.Numbers.{clamp}
use Rattle.doubles.specs.Whole.{double, whole_up_to}
use Rattle.doubles.proofs.WholePart.{confirmed}
use Rattle.spline.specs.Segment.{row_sums_of, horner_of}
use Rattle.spline.specs.Curve.{curve_value}
use Rattle.spline.specs.Contract.{IsSpot}
use Rattle.spline.specs.declared.RowSums.{RowSums}

-- the part from i on
pub rest : (i : ℕ) (ks : List Float) → take (length ks - i) (drop i ks) ≡ drop i ks
rest i ks = take_all (length ks - i) (drop i ks) (omega (arith, length-drop i ks))

-- a segment up to the last starts where four knots are left
pub inside : (i step d : ℕ) → i ≤ d / step → i * step ≤ d
inside i step d h = le_trans (mul-le-mul_right step h) (div-mul-le_self d step)

pub few : (n step : ℕ) → n ≤ 4096 → (n - 4) / step ≤ 4092
few n step h = le_trans (div-le_self (n - 4) step) (omega arith)

-- where a parameter lies
pub spotted : (k : ℕ) (x : Float) {q kd sd : Float} {s : ℕ} → 0 < k → q ≡ clamp x → kd ≡ double k → s ≡ whole_up_to (k - 1) (mul binary64 q kd) → s ≤ k - 1
    → sd ≡ double s → IsSpot k x s (sub binary64 (mul binary64 q kd) sd)
spotted k x K a b c h d = record { segment = c ∙ simp (a, b); local = simp (d, c, b, a); below = omega arith }

-- the same by a guess at the whole part that passes both comparisons
pub spotted_by : (k n : ℕ) (x : Float) {q kd nd ud : Float} → n < k → q ≡ clamp x → kd ≡ double k → nd ≡ double n
    → le nd (mul binary64 q kd) ≡ true → ud ≡ double (n + 1) → lt (mul binary64 q kd) ud ≡ true → IsSpot k x n (sub binary64 (mul binary64 q kd) nd)
spotted_by k n x {q} {kd} h a b d t e u =
    let below : n ≤ k - 1 = omega arith in
    let z = confirmed (k - 1) n (mul binary64 q kd) d t e u (sym (min-eq_left below)) in
    spotted k x (omega arith) a b z.0 z.1 d

pub under : {d k s : ℕ} {x t : Float} → k ≡ d + 1 → IsSpot k x s t → s ≤ d
under e v = let h = v.below in omega (arith, e)

-- the segment where a parameter lies has four knots
pub starts : (b : Basis) (n : ℕ) {k step s : ℕ} {x t : Float} → 4 ≤ n → k ≡ segments_of b n → step ≡ step_of b → IsSpot k x s t → s * step + 4 ≤ n
starts b n {k} {step} {s} h c e v =
    let i : s * step_of b ≤ n - 4 = inside s (step_of b) (n - 4) (under c v) in
    subst (λ (j : ℕ). s * j + 4 ≤ n) (sym e) (omega (arith, i))

-- a curve's value, from what its steps come to
pub put_together : (b : Basis) (x : Float) (ks : List Float) {k step s : ℕ} {r t : Float} {w : RowSums} → k ≡ segments_of b (length ks) → step ≡ step_of b
    → IsSpot k x s t
    → w ≡ row_sums_of (matrix_of b) (take (length ks - s * step) (drop (s * step) ks)) → r ≡ horner_of w t → r ≡ curve_value b x ks
unfolding curve_value
put_together b x ks {k} {step} {s} {r} {t} c e u h f = let v = subst (λ (j : ℕ). IsSpot j x s t) c u in f ∙ simp (h, rest, e, v.segment, v.local)
