-- A double from 0 to 1, multiplied by k and split into a whole part below k and the rest: the rest lies in 0 to 1. Assumes nothing.
use Rattle.std.proofs.Common.{
  ◌≡◌,
  ℕ,
  zero,
  suc,
  ◌+◌,
  ◌-◌,
  ◌*◌,
  ◌^◌,
  ◌<◌,
  ◌≤◌,
  Bool,
  true,
  false,
  not,
  T,
  ℤ,
  pos,
  sym,
  refl,
  ap,
  ◌∙◌,
  subst,
  true≢false,
  le_trans,
  le_of_eq,
  mul_assoc,
  mul_comm,
  add-mul,
  mul-le-mul,
  mul-pos,
  one-mul,
  zero-mul,
  mul-one,
  add-one,
  arith,
  lit<,
  lit≤,
  T_not,
  pow_pos,
}
use lib.Dec.{not_T}
use lib.Ieee.{Float, nan, inf, fin, binary64, low, up, down, round, neg, sum, add, sub, mul, le, lt, eq, of_int, is_nan, fits}
use lib.Ieee.Fits.{down_pos, mul-fits}
use lib.Ieee.Exact.{HasValue, round_exact}
use lib.Ieee.Order.{round_mono}
use lib.Ieee.Scale.{finite}
use Rattle.doubles.specs.Numbers.{nought, one}
use Rattle.doubles.specs.Whole.{double, whole_up_to}
use Rattle.doubles.proofs.Tests.{branch}
use Rattle.doubles.proofs.Order.{at_most, gone, le_trans_float, lt→le, not-lt→le, zeros_le, zero_of}
use Rattle.doubles.proofs.Bounds.{InOne, in_nought, times, within_finite, unit_within, whole_within}
use Rattle.doubles.proofs.Units.{units_of, whole_value, whole_at, sub_at, in_order}
use Rattle.doubles.proofs.WholePart.{double_mono, whole_le, skipped}

-- ---- zeros of either sign
record Level (x : Float) : Type 0 where
  above : T (le nought x)
  below : T (le x nought)

level_in : {x : Float} → Level x → InOne x
level_in {x} v = record { low = v.above; high = le_trans_float x nought one v.below in_nought.high }

zero_level : (x : Float) (s : Bool) (c : ℕ) → 0 < c → HasValue x s 0 c → Level x
zero_level nan s c C v = absurd v
zero_level (inf t) s c C v = absurd v
zero_level (fin t m e) s c C v =
    let z : m * up e ≡ 0 = gone (m * up e) c C (v.1 ∙ zero-mul (down e)) in
    record { above = zeros_le false t 0 m (pos 0) e (zero-mul (up (pos 0))) z; below = zeros_le t false m 0 e (pos 0) z (zero-mul (up (pos 0))) }

zero_round : (s : Bool) (n c : ℕ) → 0 < c → n ≡ 0 → Level (round binary64 s n c)
zero_round s n c C e =
    let v : HasValue (round binary64 s 0 c) s 0 c = round_exact binary64 s 0 c 0 0 C (lit< tt) (lit< tt) (simp zero-mul) in
    subst (λ (k : ℕ). Level (round binary64 s k c)) (sym e) (zero_level (round binary64 s 0 c) s c C v)

-- a fraction that is at most a whole number rounds to at most it, and to no less than 0
between : (a c k : ℕ) → 0 < c → a ≤ k * c → T (le nought (round binary64 false a c)) × T (le (round binary64 false a c) (double k))
unfolding of_int
between a c k C h = (round_mono binary64 0 1 a c (lit< tt) C (simp zero-mul (omega arith)), round_mono binary64 a c k 1 C (lit< tt) (simp mul-one h))

-- ---- the product
product_le : (a b c d k : ℕ) → a ≤ c → b * 1 ≡ k * d → a * b ≤ k * (c * d)
product_le a b c d k h e =
    le_trans (mul-le-mul h (le_of_eq (sym (mul-one b) ∙ e))) (le_of_eq (sym (mul_assoc c k d) ∙ (ap (λ (z : ℕ). z * d) (mul_comm c k) ∙ mul_assoc k c d)))

pub product : (x y : Float) (k : ℕ) → HasValue y false k 1 → InOne x → T (le nought (mul binary64 x y)) × T (le (mul binary64 x y) (double k))
unfolding mul le lt eq
product nan y k v u = absurd u.low
product (inf true) y k v u = absurd u.low
product (inf false) y k v u = absurd u.high
product (fin s m e) nan k v u = absurd v
product (fin s m e) (inf t) k v u = absurd v
product (fin s m e) (fin true n d) k v u = absurd (true≢false v.0)
product (fin false m e) (fin false n d) k v u =
    between (m * up e * (n * up d)) (down e * down d) k (mul-pos (down_pos e) (down_pos d))
    (product_le (m * up e) (n * up d) (down e) (down d) k (simp (mul-one, one-mul) at (at_most (m * up e * 1) (1 * 1 * down e) true u.high)) v.1)
product (fin true m e) (fin false n d) k v u =
    let z : m * up e * (n * up d) ≡ 0 = ap (λ (z : ℕ). z * (n * up d)) (zero_of m e u.low) ∙ zero-mul (n * up d) in
    let r = zero_round true (m * up e * (n * up d)) (down e * down d) (mul-pos (down_pos e) (down_pos d)) z in (
      r.above,
      le_trans_float (round binary64 true (m * up e * (n * up d)) (down e * down d)) nought (double k) r.below
          (between 0 1 k (lit< tt) (omega arith)).1,
    )

-- ---- the rest
-- y is at least the whole part, and at most one more
pub whole_low : (m : ℕ) (y : Float) → T (le nought y) → T (le (double (whole_up_to m y)) y)
unfolding whole_up_to of_int
whole_low zero y h = h
whole_low (suc m) y h = branch (λ (n : ℕ). T (le (double n) y)) (le (double (suc m)) y) (λ t. t) (λ t. whole_low m y h)

le_of_not : (x y : Float) → T (not (is_nan x)) → T (not (is_nan y)) → T (not (le x y)) → T (le y x)
le_of_not x y p q h = not-lt→le x y p q (not_T (lt x y) (λ l. T_not (le x y) h (lt→le x y l)))

le_number : (x y : Float) → T (le x y) → T (not (is_nan x))
unfolding le lt eq is_nan
le_number nan y h = h
le_number (inf s) y h = tt
le_number (fin s m e) y h = tt

whole_high : (m : ℕ) (y : Float) → T (not (is_nan y)) → T (le y (double (m + 1))) → T (le y (double (whole_up_to m y + 1)))
unfolding whole_up_to
whole_high zero y n h = h
whole_high (suc m) y n h =
    branch (λ (k : ℕ). T (le y (double (k + 1)))) (le (double (suc m)) y) (λ t. h)
    (λ t. whole_high m y n (rw (add-one m) (le_of_not (double (suc m)) y (le_number (double (suc m)) (double (suc m)) (double_mono (le_of_eq refl))) n t)))

-- the whole part of a zero is 0
none_below : (m : ℕ) (y : Float) → T (le y nought) → whole_up_to m y ≡ 0
unfolding whole_up_to of_int le
none_below m y h = skipped m 0 y (omega arith) (not_T (le (double 1) y) (λ t. one_above (le_trans_float (double 1) y nought t h)))
  where
    one_above : T (le one nought) → ⊥
    one_above h = T_not (le one nought) tt h

minus_zero_lem : (m : ℕ) (e : ℤ) → m * up e ≡ 0 → InOne (sub binary64 (fin true m e) (double 0))
unfolding sub add neg sum of_int
minus_zero_lem m e z =
    level_in (zero_round true (m * up e * 1 + 0 * 1 * down e) (down e * 1) (mul-pos (down_pos e) (lit< tt))
    (ap (λ (w : ℕ). w * 1 + 0 * 1 * down e) z ∙ simp zero-mul))

unit : (a c : ℕ) → 0 < c → a ≤ 1 * c → InOne (round binary64 false a c)
unfolding of_int
unit a c C h = let v = between a c 1 C h in record { low = v.0; high = v.1 }

apart : (h s c : ℕ) → h ≤ (s + 1) * c → h - s * c ≤ 1 * c
apart h s c b = let e : (s + 1) * c ≡ s * c + 1 * c = add-mul s 1 c in omega arith

split : (p : Float) (k : ℕ) → 0 < k → k ≤ 4096 → T (fits binary64 p) → T (finite p) → T (le nought p) → T (le p (double k))
    → InOne (sub binary64 p (double (whole_up_to (k - 1) p)))
split nan k K M f g l h = absurd g
split (inf s) k K M f g l h = absurd g
split (fin true m e) k K M f g l h =
    let z : m * up e ≡ 0 = zero_of m e l in
    rw (none_below (k - 1) (fin true m e) (zeros_le true false m 0 e (pos 0) z (zero-mul (up (pos 0))))) (minus_zero_lem m e z)
split (fin false m e) k K M f g l h =
    let p = fin false m e in
    let s = whole_up_to (k - 1) p in
    let L = 2 ^ low binary64 in
    let U = units_of binary64 p f tt in
    let few : s ≤ k - 1 = whole_le (k - 1) p in
    let dv : HasValue (double s) false (s * L) L = whole_at s (omega arith) in
    let dw : HasValue (double (s + 1)) false ((s + 1) * L) L = whole_at (s + 1) (omega arith) in
    let a : s * L ≤ U.h = in_order binary64 (double s) p (s * L) U.h dv U.is (whole_low (k - 1) p l) in
    let e1 : k - 1 + 1 ≡ k = omega arith in
    let b : U.h ≤ (s + 1) * L =
    in_order binary64 p (double (s + 1)) U.h ((s + 1) * L) U.is dw (whole_high (k - 1) p (le_number p (double k) h) (rw e1 h)) in
    rw (sub_at binary64 p (double s) U.h (s * L) a U.is dv) (unit (U.h - s * L) L (pow_pos (low binary64)) (apart U.h s L b))

-- a number from 0 to 1 times k, less the whole part below k
pub local_in : (k : ℕ) (x : Float) → 0 < k → k ≤ 4096 → InOne x
    → InOne (sub binary64 (mul binary64 x (double k)) (double (whole_up_to (k - 1) (mul binary64 x (double k)))))
local_in k x K M u =
    let v = product x (double k) k (whole_value k M) u in
    split (mul binary64 x (double k)) k K M (mul-fits binary64 x (double k))
    (within_finite (times {a = 0} {b = 12} (lit≤ tt) (unit_within x u.low u.high) (whole_within k M))) v.0 v.1
