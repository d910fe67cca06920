-- The second told is the largest whole number not above the product, and lies in 0 to the span. Assumes nothing.
use mathlib.Core.Path.{◌≡◌, sym}
use mathlib.Core.Logic.{inl, inr}
use mathlib.Core.Bool.{false}
use Prim.Native.Nat.{ℕ, zero, suc, ◌+◌, ◌*◌, ◌^◌, ◌≤◌}
use native.Mathlib.Nat.{le_trans, le_of_mul-le-mul_right}
use native.Mathlib.Omega.{arith}
use lib.IntN.{negsuc}
use lib.Dec.{T, T_not, lit≤}
use lib.Pow.{pow_pos}
use lib.Ieee.{Float, fin, binary64, low, mul, le, lt, of_int}
use lib.Ieee.Exact.{HasValue}
use lib.Ieee.Back.{round_whole}
use Rattle.doubles.specs.Numbers.{one, half}
use Rattle.doubles.specs.Whole.{double, whole_up_to}
use Rattle.doubles.proofs.Rounding.{le_or_lt}
use Rattle.doubles.proofs.Tests.{branch}
use Rattle.doubles.proofs.Order.{le_trans_float}
use Rattle.doubles.proofs.Bounds.{InOne}
use Rattle.doubles.proofs.Units.{in_order, scale_up}
use Rattle.doubles.proofs.WholePart.{double_mono, whole_le, guessed}
use Rattle.doubles.proofs.LocalPart.{product, whole_low}
use Rattle.table_span.specs.Second.{day, elapsed, second_of}

value : (n : ℕ) → n ≤ 2 ^ 53 → HasValue (double n) false n 1
unfolding of_int
value n h = round_whole binary64 false n h

-- whole numbers up to 2^53 are in the order of their doubles
order : (i j : ℕ) → i ≤ 2 ^ 53 → j ≤ 2 ^ 53 → T (le (double i) (double j)) → i ≤ j
order i j p q h =
    let L = 2 ^ low binary64 in
    le_of_mul-le-mul_right
    (in_order binary64 (double i) (double j) (i * L) (j * L) (scale_up (double i) i L (value i p)) (scale_up (double j) j L (value j q)) h)
    (pow_pos (low binary64))

-- no greater number up to m is at most y
most_up_to : (m : ℕ) (y : Float) (j : ℕ) → j ≤ m → T (le (double j) y) → j ≤ whole_up_to m y
unfolding whole_up_to
most_up_to zero y j h k = h
most_up_to (suc m) y j h k =
    branch (λ (n : ℕ). j ≤ n) (le (double (suc m)) y) (λ t. h)
    (λ t. elim (le_or_lt j m) [
      | inl l ↦ most_up_to m y j l k
      | inr g ↦ let e : j ≡ suc m = omega arith in absurd (T_not (le (double (suc m)) y) t (rw (sym e) k))
    ])

-- s is the largest whole number not above y, and lies in 0 to the span
pub record Largest (span : ℕ) (y : Float) (s : ℕ) : Type 0 where
  pub within : s ≤ span
  pub not_above : T (le (double s) y)
  pub most : (j : ℕ) → T (le (double j) y) → j ≤ s

pub second_largest : (span : ℕ) (x : Float) → span ≤ day → InOne x → Largest span (elapsed span x) (second_of span x)
unfolding second_of
second_largest span x few u =
    let y = elapsed span x in
    let v = product x (double span) span (value span (le_trans few (lit≤ tt))) u in
    record {
      within = whole_le span y;
      not_above = whole_low span y v.0;
      most = λ (j : ℕ) (h : T (le (double j) y)).
          elim (le_or_lt j span) [
            | inl l ↦ most_up_to span y j l h
            | inr g ↦
                let a : T (le (double (span + 1)) (double span)) =
                le_trans_float (double (span + 1)) y (double span) (le_trans_float (double (span + 1)) (double j) y (double_mono (omega arith)) h)
                v.1 in
                let b : span + 1 ≤ span = order (span + 1) span (le_trans {m = day + 1} (omega arith) (lit≤ tt)) (le_trans few (lit≤ tt)) a in
                absurd (omega arith)
          ];
    }

-- what `second` answers
pub told : (span : ℕ) (x : Float) {r : ℕ} → r ≡ whole_up_to span (elapsed span x) → (r ≡ second_of span x) × (r ≤ span)
unfolding second_of
told span x {r} e = (e, rw e (whole_le span (elapsed span x)))

-- ---- readings
pub at_dawn : second_of 86400 one ≡ 86400
unfolding second_of mul of_int le lt
at_dawn = guessed 86400 86400 (elapsed 86400 one) tt tt

pub half_way : second_of 86400 half ≡ 43200
unfolding second_of mul of_int le lt
half_way = guessed 86400 43200 (elapsed 86400 half) tt tt

-- the parameter of the right edge of the last of 49 segments is the double below 1
pub short_of_dawn : second_of 86400 (fin false 9007199254740991 (negsuc 52)) ≡ 86399
unfolding second_of mul of_int le lt
short_of_dawn = guessed 86400 86399 (elapsed 86400 (fin false 9007199254740991 (negsuc 52))) tt tt
