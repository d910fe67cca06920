-- A depth that was read from thousandths is printed as those thousandths: its double lies too near to them to round elsewhere. Assumes nothing.
use mathlib.Core.Path.{◌≡◌, refl, sym, ap, ◌∙◌, subst}
use mathlib.Core.Bool.{Bool, true, false, cond}
use mathlib.Core.Logic.{inl, inr}
use Prim.Native.Nat.{ℕ, zero, suc, ◌+◌, ◌*◌, ◌-◌, ◌/◌, ◌≤◌, ◌<◌, ◌^◌}
use native.Mathlib.Nat.{
  add_assoc,
  le_trans,
  le_of_eq,
  lt_of_le_of_lt,
  lt_of_lt_of_le,
  one-mul,
  mul_assoc,
  mul_right_comm,
  add-mul,
  mul-le-mul_right,
  mul-div_cancel,
  eq_of_mul-eq-mul_right,
}
use native.Mathlib.Omega.{arith}
use borrow.Author.Tests.{ne_eqb}
use lib.Dec.{lit<, lit≤}
use lib.Pow.{pow_pos}
use lib.Ieee.{Float, nan, inf, fin, binary64, up, down, size, to_bits, of_bits, round}
use lib.Ieee.Bits.{of_bits-to_bits}
use lib.Ieee.Digits.{size-le}
use lib.Ieee.Fits.{down_pos, round-fits, kept-lt}
use lib.Ieee.Exact.{HasValue}
use lib.Ieee.Nearest.{closest, closest_same}
use lib.Ieee.Scale.{grid}
use Rattle.doubles.proofs.Rounding.{le_or_lt, Short, grid_short_le, grid_short_ge}
use Rattle.sheet_depth.specs.Depth.{greatest, depth_of}
use Rattle.sheet_depth.proofs.Nearest.{rounded_value}
use Rattle.text.specs.Text.{double_of}
use Rattle.text_rounded.specs.Rounded.{minus_in, size_in, largest, significand_of, shift_of, units_of, units_text, rounded_text}
use Rattle.text_rounded.proofs.Closest.{closest_below, closest_above}
use Rattle.text_rounded.proofs.Values.{pattern_value, number_text_lem}

-- ---- whole numbers: g of a unit u lies within a thousandth of 2^20 units of n · 2^20 / 1000
near : (n w g u : ℕ) → 0 < u → 0 < n → w * u ≤ g → g ≤ w * u + u → w * 1000 ≤ n * 1048576 → n * 1048576 ≤ w * 1000 + 1000
    → closest (g * 1000) (1048576 * u) ≡ n
near n w g u U P lo hi a b =
    let N = n * (1048576 * u) in
    let e : n * 1048576 * u ≡ N = mul_assoc n 1048576 u in
    let f : w * 1000 * u ≡ w * u * 1000 = mul_right_comm w 1000 u in
    let x : w * 1000 * u ≤ n * 1048576 * u = mul-le-mul_right u a in
    let y : n * 1048576 * u ≤ (w * 1000 + 1000) * u = mul-le-mul_right u b in
    let z : (w * 1000 + 1000) * u ≡ w * 1000 * u + 1000 * u = add-mul (w * 1000) 1000 u in
    let p : n ≡ n - 1 + 1 = omega arith in
    let q : (n - 1 + 1) * (1048576 * u) ≡ (n - 1) * (1048576 * u) + 1 * (1048576 * u) = add-mul (n - 1) 1 (1048576 * u) in
    let s : N ≡ (n - 1) * (1048576 * u) + 1048576 * u =
    ap (λ (t : ℕ). t * (1048576 * u)) p ∙ q ∙ ap (λ (t : ℕ). (n - 1) * (1048576 * u) + t) (one-mul (1048576 * u)) in
    elim (le_or_lt N (g * 1000)) [
      | inl h ↦ closest_below (g * 1000) (1048576 * u) n (g * 1000 - N) (omega arith) (omega arith) (omega arith)
      | inr h ↦ closest_above (g * 1000) (1048576 * u) (n - 1) (1048576 * u - (N - g * 1000)) (omega arith) (omega arith) (omega arith) ∙ sym p
    ]

-- ---- the double of n thousandths, in units of 2^-1074
module _ (n : ℕ) (few : n ≤ greatest) where
  part : ℕ
  part = n * 1048576 / 1000

  short : (w : ℕ) → w < 2 ^ 53 → Short binary64 (w * 2 ^ 1054)
  short w h = record { q = w; j = 1054; short = h; whole = refl }

  whole : n * 2 ^ 1074 ≡ n * 1048576 * 2 ^ 1054
  whole = sym (mul_assoc n 1048576 (2 ^ 1054))

  low_grid : part * 2 ^ 1054 ≤ grid binary64 n 1000
  unfolding part
  low_grid =
      let a : part * 1000 ≤ n * 1048576 = omega arith in
      let b : part * 1000 * 2 ^ 1054 ≤ n * 1048576 * 2 ^ 1054 = mul-le-mul_right (2 ^ 1054) a in
      grid_short_ge binary64 n 1000 (part * 2 ^ 1054) (lit< tt) (short part (omega arith))
      (le_trans (le_of_eq (mul_right_comm part (2 ^ 1054) 1000)) (le_trans b (le_of_eq (sym whole))))

  high_grid : grid binary64 n 1000 ≤ (part + 1) * 2 ^ 1054
  unfolding part
  high_grid =
      let a : n * 1048576 ≤ (part + 1) * 1000 = omega arith in
      let b : n * 1048576 * 2 ^ 1054 ≤ (part + 1) * 1000 * 2 ^ 1054 = mul-le-mul_right (2 ^ 1054) a in
      grid_short_le binary64 n 1000 ((part + 1) * 2 ^ 1054) (lit< tt) (short (part + 1) (omega arith))
      (le_trans (le_of_eq whole) (le_trans b (le_of_eq (sym (mul_right_comm (part + 1) (2 ^ 1054) 1000)))))

  pub grid_back : 0 < n → closest (grid binary64 n 1000 * 1000) (2 ^ 1074) ≡ n
  unfolding part
  grid_back P =
      let hi : grid binary64 n 1000 ≤ part * 2 ^ 1054 + 2 ^ 1054 =
      le_trans high_grid (le_of_eq (add-mul part 1 (2 ^ 1054) ∙ ap (λ (t : ℕ). part * 2 ^ 1054 + t) (one-mul (2 ^ 1054)))) in
      near n part (grid binary64 n 1000) (2 ^ 1054) (pow_pos 1054) P low_grid hi (omega arith) (omega arith)

  pub grid_small : grid binary64 n 1000 < 2 ^ 1105
  grid_small =
      lt_of_le_of_lt (grid_short_le binary64 n 1000 (1 * 2 ^ 1104) (lit< tt) (record { q = 1; j = 1104; short = lit< tt; whole = refl })
      (le_trans (mul-le-mul_right (2 ^ 1074) few) (lit≤ tt))) (lit< tt)

-- ---- the pattern of a double of g units of 2^-1074
bits_of : (x : Float) (s : Bool) (g : ℕ) → HasValue x s g (2 ^ 1074) → to_bits binary64 x ≡ cond s (2 ^ 63) 0 + (size g - 53) * 2 ^ 52 + g / 2 ^ (size g - 53)
unfolding to_bits
bits_of nan s g v = absurd v
bits_of (inf t) s g v = absurd v
bits_of (fin t m e) s g v =
    let n : m * up e * 2 ^ 1074 / down e ≡ g = ap (λ (y : ℕ). y / down e) v.1 ∙ mul-div_cancel g (down_pos e) in
    ap (λ (y : ℕ). cond t (2 ^ 63) 0 + (size y - 53) * 2 ^ 52 + y / 2 ^ (size y - 53)) n
    ∙ ap (λ (b : Bool). cond b (2 ^ 63) 0 + (size g - 53) * 2 ^ 52 + g / 2 ^ (size g - 53)) v.0

rest_small : (g : ℕ) → g < 2 ^ 1105 → (size g - 53) * 2 ^ 52 + g / 2 ^ (size g - 53) ≤ largest
rest_small g h =
    let a : size g ≤ 1105 = size-le g 1105 h in
    let b : g / 2 ^ (size g - 53) < 2 ^ 53 = kept-lt 53 g in
    let c : size g - 53 ≤ 1052 = omega arith in
    let d : (size g - 53) * 2 ^ 52 ≤ 1052 * 2 ^ 52 = mul-le-mul_right (2 ^ 52) c in
    omega arith

size_of : (s : Bool) (a : ℕ) → a ≤ largest → size_in (cond s (2 ^ 63) 0 + a) ≡ a
size_of true a h = omega arith
size_of false a h = omega arith

-- ---- two values of one double
same_value : (x : Float) (s t : Bool) (g S k l : ℕ) → HasValue x s g (2 ^ k) → HasValue x t S (2 ^ l) → (s ≡ t) × (S * 2 ^ k ≡ g * 2 ^ l)
same_value nan s t g S k l u v = absurd u
same_value (inf b) s t g S k l u v = absurd u
same_value (fin b m e) s t g S k l u v = (
  sym u.0 ∙ v.0,
  eq_of_mul-eq-mul_right (down e) (down_pos e) (S * 2 ^ k) (g * 2 ^ l)
      (mul_right_comm S (2 ^ k) (down e) ∙ ap (λ (y : ℕ). y * 2 ^ k) (sym v.1) ∙ mul_right_comm (m * up e) (2 ^ l) (2 ^ k)
      ∙ ap (λ (y : ℕ). y * 2 ^ l) u.1 ∙ mul_right_comm g (down e) (2 ^ l)),
)

-- ---- a depth
back_some : (minus : Bool) (n : ℕ) → n ≤ greatest → 0 < n → (p : ℕ) → p ≡ to_bits binary64 (round binary64 minus n 1000)
    → rounded_text 3 p ≡ units_text 3 minus n
unfolding units_of double_of
back_some minus n few some p is =
    let g = grid binary64 n 1000 in
    let x = round binary64 minus n 1000 in
    let small : g < 2 ^ 1105 = grid_small n few in
    let v : HasValue x minus g (2 ^ 1074) = rounded_value binary64 minus n 1000 (lt_of_lt_of_le small (lit≤ tt)) in
    let a = (size g - 53) * 2 ^ 52 + g / 2 ^ (size g - 53) in
    let q : p ≡ cond minus (2 ^ 63) 0 + a = is ∙ bits_of x minus g v ∙ add_assoc (cond minus (2 ^ 63) 0) ((size g - 53) * 2 ^ 52) (g / 2 ^ (size g - 53)) in
    let fine : size_in p ≤ largest = le_trans (le_of_eq (ap size_in q ∙ size_of minus a (rest_small g small))) (rest_small g small) in
    let d : double_of p ≡ x = ap (of_bits binary64) is ∙ of_bits-to_bits binary64 x (round-fits binary64 minus n 1000) in
    let w : HasValue x (minus_in p) (significand_of (size_in p)) (2 ^ shift_of (size_in p)) =
    subst (λ (y : Float). HasValue y (minus_in p) (significand_of (size_in p)) (2 ^ shift_of (size_in p))) d (pattern_value p fine) in
    let s = same_value x minus (minus_in p) g (significand_of (size_in p)) 1074 (shift_of (size_in p)) v w in
    let e : units_of 3 (size_in p) ≡ n =
    closest_same (significand_of (size_in p) * 1000) (2 ^ shift_of (size_in p)) (g * 1000) (2 ^ 1074) (pow_pos (shift_of (size_in p))) (pow_pos 1074)
    (mul_right_comm (significand_of (size_in p)) 1000 (2 ^ 1074) ∙ ap (λ (y : ℕ). y * 1000) s.1 ∙ mul_right_comm g (2 ^ shift_of (size_in p)) 1000)
    ∙ grid_back n few some in
    number_text_lem 3 p fine ∙ ap (units_text 3 (minus_in p)) e ∙ ap (λ (b : Bool). units_text 3 b n) (sym s.0)

some_depth : (minus : Bool) (n : ℕ) → (n ≡ 0 → ⊥) → round binary64 minus n 1000 ≡ depth_of minus n
unfolding depth_of
some_depth minus n h = rw (ne_eqb n 0 h) refl

no_depth : (minus : Bool) → rounded_text 3 (to_bits binary64 (depth_of minus 0)) ≡ units_text 3 minus 0
unfolding depth_of to_bits rounded_text units_of significand_of shift_of
no_depth true = refl
no_depth false = refl

-- the pattern of a depth of n thousandths is printed as n thousandths, with the sign that it was read with where n is not 0
pub depth_back : (minus : Bool) (n : ℕ) → n ≤ greatest → rounded_text 3 (to_bits binary64 (depth_of minus n)) ≡ units_text 3 minus n
depth_back minus zero h = no_depth minus
depth_back minus (suc n) h =
    back_some minus (suc n) h (omega arith) (to_bits binary64 (depth_of minus (suc n)))
    (ap (to_bits binary64) (sym (some_depth minus (suc n) (λ (e : suc n ≡ 0). omega arith))))
