-- lower + (upper - lower)·t, each operation rounded, lies between lower and upper, and so is no NaN, for doubles 0 ≤ lower ≤ upper with the sign clear and 0 ≤
-- t < 0.99.
-- What callers use of the interpolation is `lerp_inside` alone. Assumes nothing.
use Rattle.std.proofs.Common.{
  ◌≡◌,
  ℕ,
  suc,
  ◌+◌,
  ◌-◌,
  ◌*◌,
  ◌/◌,
  ◌%◌,
  ◌^◌,
  ◌<◌,
  ◌≤◌,
  true,
  false,
  T,
  ℤ,
  sym,
  ap,
  ◌∙◌,
  subst,
  inl,
  inr,
  le_trans,
  le_of_eq,
  lt_of_lt_of_le,
  lt_of_le_of_lt,
  mul-le-mul_right,
  mul_assoc,
  mul_comm,
  mul-le-mul,
  mul-le-mul_left,
  mul-pos,
  mul-one,
  mul_right_comm,
  div-mul-le_self,
  le_of_mul-le-mul_right,
  mul-div_cancel,
  arith,
  lit<,
  lit≤,
  ltb→lt,
  pow_pos,
  pow_mono,
}
use Prim.Native.Nat.{compare}
use native.Mathlib.Nat.{div-div-eq-div-mul}
use lib.Ieee.{Float, nan, inf, fin, Format, binary32, binary64, prec, low, up, down, size, add, sub, mul, lt, le, fits}
use lib.Ieee.Digits.{size-lt}
use lib.Ieee.Fits.{down_pos, two, kept-lt, nearest-le, add-fits}
use lib.Ieee.Exact.{HasValue}
use lib.Ieee.Order.{drop, le_of_values}
use lib.Ieee.Scale.{grid, round_val}
use Rattle.doubles.specs.Numbers.{ninety_nine_hundredths}
use Rattle.doubles.specs.Lerp.{lerp_of}
use Rattle.doubles.proofs.Rounding.{le_or_lt, grid_le, full, grid_short_le, grid_short_ge}
use Rattle.doubles.proofs.Units.{clear, Units, units_of, add_at, sub_at, mul_at, clear_of, in_order}

-- ---- d is x units rounded, and p is d·a/b rounded, with 100·a ≤ 99·b: then p is at most x units
one_more_fits : (q a b : ℕ) → 99 ≤ q → 100 * a ≤ 99 * b → suc q * a ≤ q * b
one_more_fits q a b Q h =
    le_of_mul-le-mul_right
    (le_trans (le_of_eq (mul_assoc (suc q) a 100))
    (le_trans (mul-le-mul_left (suc q) (le_trans (le_of_eq (mul_comm a 100)) h))
    (le_trans (le_of_eq (sym (mul_assoc (suc q) 99 b)))
    (le_trans (mul-le-mul_right b (omega arith)) (le_of_eq (mul_right_comm q 100 b))))))
    (lit< tt)

many : (f : Format) → 99 ≤ 2 ^ (prec f - 1)
many binary32 = lit≤ tt
many binary64 = lit≤ tt

pub part : (f : Format) (x a b : ℕ) → 0 < b → 100 * a ≤ 99 * b → grid f (grid f x (2 ^ low f) * a) (2 ^ low f * b) ≤ x
part f x a b B h =
    let l = low f in
    let c = 2 ^ l in
    let n = x * c in
    let w = n / c in
    let e : w ≡ x = mul-div_cancel x (pow_pos l) in
    let p = prec f in
    let d = grid f x c in
    let k = drop p n c in
    let q = w / 2 ^ k in
    elim (le_or_lt (size w) p) [
      | inl few ↦
          let Q : x < 2 ^ p = subst (λ (z : ℕ). z < 2 ^ p) e (lt_of_lt_of_le (size-lt w) (pow_mono few)) in
          let D : d ≤ x * 2 ^ 0 = grid_le f x c x 0 (pow_pos l) Q (le_of_eq (ap (λ (z : ℕ). z * c) (sym (mul-one x)))) in
          let A : d * a ≤ x * 2 ^ 0 * b = mul-le-mul D (omega arith) in
          le_trans (grid_le f (d * a) (c * b) x 0 (mul-pos (pow_pos l) B) Q (le_trans (mul-le-mul_right c A) (le_of_eq (swap (x * 2 ^ 0) b c))))
          (le_of_eq (mul-one x))
      | inr more ↦
          let P : 0 < p = lt_of_lt_of_le (lit< tt) (two f) in
          let big : 99 ≤ q = le_trans (many f) (full p w P (omega arith)) in
          let D : d ≤ suc q * 2 ^ k =
          mul-le-mul_right (2 ^ k)
          (le_trans (nearest-le (n / (c * 2 ^ k)) (compare (n % (c * 2 ^ k) * 2) (c * 2 ^ k)))
          (le_of_eq (ap suc (sym (div-div-eq-div-mul n c (2 ^ k)))))) in
          let A : d * a ≤ q * 2 ^ k * b =
          le_trans (mul-le-mul_right a D)
          (le_trans (le_of_eq (mul_right_comm (suc q) (2 ^ k) a))
          (le_trans (mul-le-mul_right (2 ^ k) (one_more_fits q a b big h)) (le_of_eq (mul_right_comm q b (2 ^ k))))) in
          le_trans (grid_le f (d * a) (c * b) q k (mul-pos (pow_pos l) B) (kept-lt p w) (le_trans (mul-le-mul_right c A) (le_of_eq (swap (q * 2 ^ k) b c))))
          (le_trans (div-mul-le_self w (2 ^ k)) (le_of_eq e))
    ]
  where
    swap : (y b c : ℕ) → y * b * c ≡ y * (c * b)
    swap y b c = mul_assoc y b c ∙ ap (λ (z : ℕ). y * z) (mul_comm b c)

-- what is to be shown of lower + (upper - lower)·t
pub record Inside (lower upper r : Float) : Type 0 where
  pub sign : T (clear r)
  pub held : T (fits binary64 r)
  pub above : T (le lower r)
  pub below : T (le r upper)

inside : (lower upper : Float) (n : ℕ) (e : ℤ) (Lo : Units binary64 lower) (Hi : Units binary64 upper) → Lo.h ≤ Hi.h → 100 * (n * up e) ≤ 99 * down e
    → Inside lower upper (lerp_of lower upper (fin false n e))
unfolding lerp_of
inside lower upper n e Lo Hi o s =
    let f = binary64 in
    let c = 2 ^ low f in
    let C : 0 < c = pow_pos (low f) in
    let L = Lo.h in
    let H = Hi.h in
    let X = H - L in
    let t = fin false n e in
    let D = grid f X c in
    let D-le : D ≤ H = grid_short_le f X c H C Hi.digits (mul-le-mul_right c (omega arith)) in
    let dv : HasValue (sub f upper lower) false D c = rw (sub_at f upper lower H L o Hi.is Lo.is) (round_val f X c (lt_of_le_of_lt D-le Hi.fine)) in
    let P = grid f (D * (n * up e)) (c * down e) in
    let P-le : P ≤ X = part f X (n * up e) (down e) (down_pos e) s in
    let pv : HasValue (mul f (sub f upper lower) t) false P c =
    rw (mul_at f (sub f upper lower) n e D dv)
    (round_val f (D * (n * up e)) (c * down e) (lt_of_le_of_lt P-le (lt_of_le_of_lt (omega arith) Hi.fine))) in
    let R = grid f (L + P) c in
    let R-le : R ≤ H = grid_short_le f (L + P) c H C Hi.digits (mul-le-mul_right c (omega arith)) in
    let R-ge : L ≤ R = grid_short_ge f (L + P) c L C Lo.digits (mul-le-mul_right c (omega arith)) in
    let rv : HasValue (add f lower (mul f (sub f upper lower) t)) false R c =
    rw (add_at f lower (mul f (sub f upper lower) t) L P Lo.is pv) (round_val f (L + P) c (lt_of_le_of_lt R-le Hi.fine)) in
    record {
      sign = clear_of (add f lower (mul f (sub f upper lower) t)) R c rv;
      held = add-fits f lower (mul f (sub f upper lower) t);
      above = le_of_values lower (add f lower (mul f (sub f upper lower) t)) L c R c C C Lo.is rv (mul-le-mul_right c R-ge);
      below = le_of_values (add f lower (mul f (sub f upper lower) t)) upper R c H c C C rv Hi.is (mul-le-mul_right c R-le);
    }

under : (n : ℕ) (e : ℤ) → T (lt (fin false n e) ninety_nine_hundredths) → 100 * (n * up e) ≤ 99 * down e
unfolding lt
under n e h = le_of_mul-le-mul_right {k = 2 ^ 52} (omega (arith, ltb→lt (n * up e * 2 ^ 52) (4458563631096791 * 1 * down e) h)) (lit< tt)

pub lerp_inside : (lower upper t : Float) → T (fits binary64 lower) → T (fits binary64 upper) → T (clear lower) → T (clear upper) → T (clear t)
    → T (le lower upper) → T (lt t ninety_nine_hundredths) → Inside lower upper (lerp_of lower upper t)
lerp_inside lower upper nan a b p q c h k = absurd c
lerp_inside lower upper (inf s) a b p q c h k = absurd c
lerp_inside lower upper (fin true n e) a b p q c h k = absurd c
lerp_inside lower upper (fin false n e) a b p q c h k =
    let Lo = units_of binary64 lower a p in
    let Hi = units_of binary64 upper b q in
    inside lower upper n e Lo Hi (in_order binary64 lower upper Lo.h Hi.h Lo.is Hi.is h) (under n e k)
