-- What a fraction rounds to is the nearest value of its format: where no tie was broken, every other value lies further off. Assumes nothing.
use mathlib.Core.Path.{◌≡◌, refl, sym, ap, ◌∙◌, subst}
use mathlib.Core.Logic.{◌⊎◌, inl, inr}
use mathlib.Core.Bool.{Bool, true, false, cond, not, ◌&&◌, ◌||◌, beq}
use Prim.Native.Nat.{ℕ, zero, suc, ◌+◌, ◌-◌, ◌*◌, ◌/◌, ◌%◌, ◌^◌, ◌≤◌, ◌<◌, compare, Ordering}
use native.Mathlib.Nat.{
  le_trans,
  le_of_eq,
  lt_of_le_of_lt,
  lt_of_lt_of_le,
  mul_comm,
  mul_assoc,
  mul_right_comm,
  mul-sub,
  add-mul,
  suc-mul,
  zero-mul,
  mul-pos,
  mul-le-mul_right,
  mul-lt-mul_of_pos_right,
  lt_of_mul-lt-mul_right,
  eq_of_mul-eq-mul_right,
  div-add-mod',
  div-div-eq-div-mul,
  mod-lt,
}
use native.Mathlib.Omega.{arith}
use lib.Arith.{lt_of_le-ne}
use lib.IntN.{ℤ}
use lib.Dec.{T, T_not, is_le, compare_is_eq, eqb, eqb_refl, leb→le, nleb→lt, eqb→eq, lit<}
use lib.Pow.{pow-add, pow_pos, pow_mono, shl_lt}
use lib.Ieee.{Float, nan, inf, fin, Format, prec, low, up, down, nearest, round, eq, fits}
use lib.Ieee.Digits.{back}
use lib.Ieee.Fits.{two, down_pos, round_is, and_i, eq→eqb}
use lib.Ieee.Exact.{HasValue, units_val}
use lib.Ieee.Order.{drop, kept}
use lib.Ieee.Scale.{grid, overflow}
use Rattle.doubles.proofs.Rounding.{le_or_lt, full, Short}
use Rattle.doubles.proofs.Units.{units_of}
use Rattle.sheet_depth.specs.Nearest.{apart, Nearer}

-- ---- whole numbers
-- |a − b|
abbrev gap : ℕ → ℕ → ℕ
gap a b = a - b + (b - a)

-- no value of p digits lies between w * 2 ^ k and the next multiple of 2 ^ k
sides : (p w k q j : ℕ) → 0 < p → q < 2 ^ p → (0 < k → 2 ^ (p - 1) ≤ w) → (q * 2 ^ j ≤ w * 2 ^ k) ⊎ (w * 2 ^ k + 2 ^ k ≤ q * 2 ^ j)
sides p w k q j P Q W =
    elim (le_or_lt (q * 2 ^ j) (w * 2 ^ k)) [
      | inl l ↦ inl l
      | inr g ↦ inr (elim (le_or_lt k j) [ inl l ↦ same l g | inr l ↦ absurd (fewer l g) ])
    ]
  where
    same : k ≤ j → w * 2 ^ k < q * 2 ^ j → w * 2 ^ k + 2 ^ k ≤ q * 2 ^ j
    same l g =
        let m = q * 2 ^ (j - k) in
        let e : m * 2 ^ k ≡ q * 2 ^ j =
        mul_assoc q (2 ^ (j - k)) (2 ^ k) ∙ ap (λ (x : ℕ). q * x) (sym (pow-add 2 (j - k) k) ∙ ap (λ (x : ℕ). 2 ^ x) (back j k l)) in
        let h : w < m = lt_of_mul-lt-mul_right (2 ^ k) (lt_of_lt_of_le g (le_of_eq (sym e))) in
        le_trans (le_of_eq (sym (suc-mul w (2 ^ k)))) (le_trans (mul-le-mul_right (2 ^ k) h) (le_of_eq e))

    fewer : j < k → w * 2 ^ k < q * 2 ^ j → ⊥
    fewer l g =
        let a : q * 2 ^ j < 2 ^ (p + j) = shl_lt p j Q in
        let b : 2 ^ (p + j) ≤ 2 ^ (p - 1 + k) = pow_mono (omega arith) in
        let d : 2 ^ (p - 1 + k) ≤ w * 2 ^ k = le_trans (le_of_eq (pow-add 2 (p - 1) k)) (mul-le-mul_right (2 ^ k) (W (omega arith))) in
        omega arith

module _ (c L S n r h : ℕ) (C : 0 < c) (is : n ≡ L * c + r) (side : (h ≤ L) ⊎ (L + S ≤ h)) where
  -- the multiple below is nearer
  below : r * 2 < c * S → (h ≡ L → ⊥) → gap (L * c) n < gap (h * c) n
  below l ne =
      elim side [
        | inl a ↦ let b : h * c < L * c = mul-lt-mul_of_pos_right (lt_of_le-ne a ne) C in omega arith
        | inr a ↦
            let b : (L + S) * c ≤ h * c = mul-le-mul_right c a in
            let d : (L + S) * c ≡ L * c + S * c = add-mul L S c in
            let e : S * c ≡ c * S = mul_comm S c in
            omega arith
      ]

  -- the multiple above is nearer
  above : c * S < r * 2 → r < c * S → (h ≡ L + S → ⊥) → gap ((L + S) * c) n < gap (h * c) n
  above l m ne =
      let d : (L + S) * c ≡ L * c + S * c = add-mul L S c in
      let e : S * c ≡ c * S = mul_comm S c in
      elim side [
        | inl a ↦ let b : h * c ≤ L * c = mul-le-mul_right c a in omega arith
        | inr a ↦ let b : (L + S) * c < h * c = mul-lt-mul_of_pos_right (lt_of_le-ne a (λ (z : L + S ≡ h). ne (sym z))) C in omega arith
      ]

-- ---- what `compare` says
abbrev Cmp : Ordering → ℕ → ℕ → Type 0
Cmp Ordering.lt a b = a < b
Cmp Ordering.eq a b = a ≡ b
Cmp Ordering.gt a b = b < a

cmp : (a b : ℕ) → Cmp (compare a b) a b
cmp a b = go (compare a b) (leb→le a b) (nleb→lt a b) (eqb→eq a b) (λ (e : a ≡ b). subst (λ (x : ℕ). T (eqb a x)) e (eqb_refl a))
  where
    go : (o : Ordering) → (T (is_le o) → a ≤ b) → (T (not (is_le o)) → b < a) → (T (compare_is_eq o) → a ≡ b) → (a ≡ b → T (compare_is_eq o)) → Cmp o a b
    go Ordering.lt h k e n = lt_of_le-ne (h tt) n
    go Ordering.eq h k e n = e tt
    go Ordering.gt h k e n = k tt

-- ---- a / c in units of the format's smallest value
-- the fraction does not lie half way between two values
abbrev pub NoTie : Format → ℕ → ℕ → Type 0
NoTie f a c = a * 2 ^ low f % (c * 2 ^ drop (prec f) (a * 2 ^ low f) c) * 2 ≡ c * 2 ^ drop (prec f) (a * 2 ^ low f) c → ⊥

-- the digits kept are all of the format's, where some are dropped
pub all_digits : (f : Format) (n c : ℕ) → 0 < drop (prec f) n c → 2 ^ (prec f - 1) ≤ n / (c * 2 ^ drop (prec f) n c)
all_digits f n c K =
    subst (λ (x : ℕ). 2 ^ (prec f - 1) ≤ x) (div-div-eq-div-mul n c (2 ^ drop (prec f) n c)) (full (prec f) (n / c) (lt_of_lt_of_le (lit< tt) (two f)) K)

chosen : (c w k n r h : ℕ) (o : Ordering) → 0 < c → n ≡ w * 2 ^ k * c + r → r < c * 2 ^ k → (h ≤ w * 2 ^ k) ⊎ (w * 2 ^ k + 2 ^ k ≤ h)
    → Cmp o (r * 2) (c * 2 ^ k) → (r * 2 ≡ c * 2 ^ k → ⊥) → (h ≡ nearest w o * 2 ^ k → ⊥) → gap (nearest w o * 2 ^ k * c) n < gap (h * c) n
chosen c w k n r h Ordering.lt C is m side l nt ne = below c (w * 2 ^ k) (2 ^ k) n r h C is side l ne
chosen c w k n r h Ordering.eq C is m side l nt ne = absurd (nt l)
chosen c w k n r h Ordering.gt C is m side l nt ne =
    let e : suc w * 2 ^ k ≡ w * 2 ^ k + 2 ^ k = suc-mul w (2 ^ k) in
    subst (λ (x : ℕ). gap (x * c) n < gap (h * c) n) (sym e) (above c (w * 2 ^ k) (2 ^ k) n r h C is side l m (λ (z : h ≡ w * 2 ^ k + 2 ^ k). ne (z ∙ sym e)))

grid_nearest : (f : Format) (a c h : ℕ) → 0 < c → NoTie f a c → Short f h → (h ≡ grid f a c → ⊥)
    → gap (grid f a c * c) (a * 2 ^ low f) < gap (h * c) (a * 2 ^ low f)
grid_nearest f a c h C nt s ne =
    let n = a * 2 ^ low f in
    let k = drop (prec f) n c in
    let u = c * 2 ^ k in
    let w = n / u in
    let r = n % u in
    let U : 0 < u = mul-pos C (pow_pos k) in
    let is : n ≡ w * 2 ^ k * c + r =
    sym (div-add-mod' n u) ∙ ap (λ (x : ℕ). x + r) (ap (λ (x : ℕ). w * x) (mul_comm c (2 ^ k)) ∙ sym (mul_assoc w (2 ^ k) c)) in
    let side : (h ≤ w * 2 ^ k) ⊎ (w * 2 ^ k + 2 ^ k ≤ h) =
    subst (λ (x : ℕ). (x ≤ w * 2 ^ k) ⊎ (w * 2 ^ k + 2 ^ k ≤ x)) (sym s.whole)
    (sides (prec f) w k s.q s.j (lt_of_lt_of_le (lit< tt) (two f)) s.short (all_digits f n c)) in
    chosen c w k n r h (compare (r * 2) u) C is (mod-lt n U) side (cmp (r * 2) u) nt ne

-- ---- doubles, by their values in units
apart_scale : (s : Bool) (a : ℕ) (t : Bool) (b c : ℕ) → apart s a t b * c ≡ apart s (a * c) t (b * c)
apart_scale s a t b c = go (beq s t)
  where
    less : (x y : ℕ) → (x - y) * c ≡ x * c - y * c
    less x y = mul_comm (x - y) c ∙ mul-sub c x y ∙ cc (mul_comm c x, mul_comm c y)

    go : (z : Bool) → cond z (a - b + (b - a)) (a + b) * c ≡ cond z (a * c - b * c + (b * c - a * c)) (a * c + b * c)
    go true = add-mul (a - b) (b - a) c ∙ cc (less a b, less b a)
    go false = add-mul a b c

-- x is X / E, which is G / U
in_units : (s : Bool) (X E U G : ℕ) (t : Bool) (a c : ℕ) → X * U ≡ G * E → apart s (X * c) t (a * E) * U ≡ apart s (G * c) t (a * U) * E
in_units s X E U G t a c v =
    apart_scale s (X * c) t (a * E) U
    ∙ ap (λ (z : ℕ). apart s z t (a * E * U)) (mul_right_comm X c U ∙ ap (λ (z : ℕ). z * c) v ∙ mul_right_comm G E c)
    ∙ ap (λ (z : ℕ). apart s (G * c * E) t z) (mul_right_comm a E U)
    ∙ sym (apart_scale s (G * c) t (a * U) E)

core : (s u : Bool) (X E Y D U G h a c : ℕ) → 0 < U → 0 < E → 0 < D → X * U ≡ G * E → Y * U ≡ h * D
    → apart s (G * c) s (a * U) < apart u (h * c) s (a * U) → apart s (X * c) s (a * E) * D < apart u (Y * c) s (a * D) * E
core s u X E Y D U G h a c p e d v w l =
    let P = apart s (G * c) s (a * U) in
    let Q = apart u (h * c) s (a * U) in
    let x : apart s (X * c) s (a * E) * D * U ≡ P * E * D =
    mul_right_comm (apart s (X * c) s (a * E)) D U ∙ ap (λ (z : ℕ). z * D) (in_units s X E U G s a c v) in
    let y : apart u (Y * c) s (a * D) * E * U ≡ Q * E * D =
    mul_right_comm (apart u (Y * c) s (a * D)) E U ∙ ap (λ (z : ℕ). z * E) (in_units u Y D U h s a c w) ∙ mul_right_comm Q D E in
    let m : P * E * D < Q * E * D = mul-lt-mul_of_pos_right (mul-lt-mul_of_pos_right l e) d in
    lt_of_mul-lt-mul_right U (lt_of_le_of_lt (le_of_eq x) (lt_of_lt_of_le m (le_of_eq (sym y))))

-- equal values of the same sign, or two zeros, are equal doubles
level_same : (X E Y D U G : ℕ) → 0 < U → X * U ≡ G * E → Y * U ≡ G * D → X * D ≡ Y * E
level_same X E Y D U G p v w =
    eq_of_mul-eq-mul_right U p (X * D) (Y * E)
    (mul_right_comm X D U ∙ ap (λ (z : ℕ). z * D) v ∙ mul_right_comm G E D ∙ ap (λ (z : ℕ). z * E) (sym w) ∙ mul_right_comm Y U E)

beq_refl : (s : Bool) → T (beq s s)
beq_refl true = tt
beq_refl false = tt

or_left : (p q : Bool) → T p → T (p || q)
or_left true q h = tt
or_left false q h = absurd h

or_right : (p q : Bool) → T q → T (p || q)
or_right true q h = tt
or_right false q h = h

zero_times : (X E U : ℕ) → 0 < U → X * U ≡ 0 * E → X ≡ 0
zero_times X E U p v = eq_of_mul-eq-mul_right U p X 0 (v ∙ zero-mul E ∙ sym (zero-mul U))

-- G is what a / c rounds to, and h another value, both in units
signed : (f : Format) (a c h : ℕ) (s u : Bool) → 0 < c → NoTie f a c → Short f h
    → (u ≡ s → h ≡ grid f a c → ⊥) → (h ≡ 0 → grid f a c ≡ 0 → ⊥)
    → apart s (grid f a c * c) s (a * 2 ^ low f) < apart u (h * c) s (a * 2 ^ low f)
signed f a c h s u C nt short ne zs = go s u ne
  where
    nothing : Short f 0
    nothing = record { q = 0; j = 0; short = pow_pos (prec f); whole = refl }

    other : gap (grid f a c * c) (a * 2 ^ low f) < h * c + a * 2 ^ low f
    other =
        elim (le_or_lt (grid f a c) 0) [
          | inl g ↦
              let z : grid f a c ≡ 0 = omega arith in
              let p : 0 < h = elim (le_or_lt h 0) [ inl l ↦ absurd (zs (omega arith) z) | inr l ↦ l ] in
              let q : 0 < h * c = mul-pos p C in
              let e : grid f a c * c ≡ 0 = ap (λ (x : ℕ). x * c) z ∙ zero-mul c in
              omega arith
          | inr g ↦
              let l : gap (grid f a c * c) (a * 2 ^ low f) < gap (0 * c) (a * 2 ^ low f) =
              grid_nearest f a c 0 C nt nothing (λ (e : 0 ≡ grid f a c). omega arith) in
              let e : 0 * c ≡ 0 = zero-mul c in
              omega arith
        ]

    go : (s u : Bool) → (u ≡ s → h ≡ grid f a c → ⊥) → apart s (grid f a c * c) s (a * 2 ^ low f) < apart u (h * c) s (a * 2 ^ low f)
    go true true ne = grid_nearest f a c h C nt short (ne refl)
    go false false ne = grid_nearest f a c h C nt short (ne refl)
    go true false ne = other
    go false true ne = other

unsigned_fits : (f : Format) (u : Bool) (k : ℕ) (d : ℤ) → T (fits f (fin u k d)) → T (fits f (fin false k d))
unfolding fits
unsigned_fits f u zero d h = h
unsigned_fits f u (suc k) d h = h

nearer_than : (f : Format) (s : Bool) (m : ℕ) (e : ℤ) (y : Float) (a c : ℕ) → 0 < c → NoTie f a c → m * up e * 2 ^ low f ≡ grid f a c * down e
    → T (fits f y) → T (not (eq (fin s m e) y)) → Nearer (fin s m e) y s a c
unfolding eq
nearer_than f s m e nan a c C nt v h ne = tt
nearer_than f s m e (inf u) a c C nt v h ne = tt
nearer_than f s m e (fin u k d) a c C nt v h ne =
    let U = 2 ^ low f in
    let P : 0 < U = pow_pos (low f) in
    let Y = units_of f (fin false k d) (unsigned_fits f u k d h) tt in
    let w : k * up d * U ≡ Y.h * down d = Y.is.1 in
    let X = m * up e in
    let Z = k * up d in
    let same : u ≡ s → Y.h ≡ grid f a c → ⊥ = λ (p : u ≡ s) (q : Y.h ≡ grid f a c).
    T_not (eqb (X * down d) (Z * down e) && (beq s u || eqb (X * down d) 0)) ne
    (and_i (eqb (X * down d) (Z * down e)) (beq s u || eqb (X * down d) 0)
    (eq→eqb (level_same X (down e) Z (down d) U (grid f a c) P v (w ∙ ap (λ (z : ℕ). z * down d) q)))
    (or_left (beq s u) (eqb (X * down d) 0) (subst (λ (b : Bool). T (beq s b)) (sym p) (beq_refl s)))) in
    let zeros : Y.h ≡ 0 → grid f a c ≡ 0 → ⊥ = λ (p : Y.h ≡ 0) (q : grid f a c ≡ 0).
    let x : X ≡ 0 = zero_times X (down e) U P (v ∙ ap (λ (z : ℕ). z * down e) q) in
    let z : Z ≡ 0 = zero_times Z (down d) U P (w ∙ ap (λ (t : ℕ). t * down d) p) in
    let x0 : X * down d ≡ 0 = ap (λ (t : ℕ). t * down d) x ∙ zero-mul (down d) in
    let z0 : Z * down e ≡ 0 = ap (λ (t : ℕ). t * down e) z ∙ zero-mul (down e) in
    T_not (eqb (X * down d) (Z * down e) && (beq s u || eqb (X * down d) 0)) ne
    (and_i (eqb (X * down d) (Z * down e)) (beq s u || eqb (X * down d) 0) (eq→eqb (x0 ∙ sym z0))
    (or_right (beq s u) (eqb (X * down d) 0) (eq→eqb x0))) in
    core s u X (down e) Z (down d) U (grid f a c) Y.h a c P (down_pos e) (down_pos d) v w
    (signed f a c Y.h s u C nt Y.digits same zeros)

from_value : (f : Format) (x : Float) (s : Bool) (y : Float) (a c : ℕ) → 0 < c → NoTie f a c → HasValue x s (grid f a c) (2 ^ low f)
    → T (fits f y) → T (not (eq x y)) → Nearer x y s a c
from_value f nan s y a c C nt v h ne = absurd v
from_value f (inf t) s y a c C nt v h ne = absurd v
from_value f (fin t m e) s y a c C nt v h ne =
    subst (λ (b : Bool). T (not (eq (fin b m e) y)) → Nearer (fin b m e) y s a c) (sym v.0)
    (λ (g : T (not (eq (fin s m e) y))). nearer_than f s m e y a c C nt v.1 h g) ne

pub rounded_value : (f : Format) (s : Bool) (a c : ℕ) → grid f a c < overflow f → HasValue (round f s a c) s (grid f a c) (2 ^ low f)
rounded_value f s a c h =
    subst (λ (z : Float). HasValue z s (grid f a c) (2 ^ low f)) (sym (round_is f s a c))
    (units_val f s (kept (prec f) (a * 2 ^ low f) c) (drop (prec f) (a * 2 ^ low f) c) h)

-- what ±a / c rounds to is nearer to it than any value of the format that is another number
pub round_nearest : (f : Format) (s : Bool) (a c : ℕ) → 0 < c → grid f a c < overflow f → NoTie f a c
    → (y : Float) → T (fits f y) → T (not (eq (round f s a c) y)) → Nearer (round f s a c) y s a c
round_nearest f s a c C fine nt y h ne = from_value f (round f s a c) s y a c C nt (rounded_value f s a c fine) h ne
