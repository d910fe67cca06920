-- The order of floats, of either sign: transitive, total but for nan. Assumes nothing.
use Rattle.std.proofs.Common.{
  ◌≡◌,
  ℕ,
  ◌+◌,
  ◌*◌,
  ◌<◌,
  ◌≤◌,
  Bool,
  true,
  false,
  not,
  ◌&&◌,
  ◌||◌,
  T,
  eqb,
  ltb,
  ℤ,
  pos,
  sym,
  ap,
  ◌∙◌,
  subst,
  subst₂,
  inl,
  inr,
  le_trans,
  le_of_eq,
  le_of_lt,
  mul-le-mul_right,
  eq-or-lt_of_le,
  zero-mul,
  mul-one,
  mul_right_comm,
  le_of_mul-le-mul_right,
  arith,
  eqb→eq,
  ltb→lt,
  lt→ltb,
  nltb→le,
}
use lib.Dec.{not_T}
use lib.Ieee.{Float, nan, inf, fin, up, down, below, level, lt, le, eq, ne, is_nan}
use lib.Ieee.Bits.{is_false}
use lib.Ieee.Compare.{differs_from_itself, nan_differs}
use lib.Ieee.Fits.{and_l, and_r, and_i, eq→eqb, down_pos}
use Rattle.doubles.proofs.Tests.{fails, or_elim, or_l, or_r}

pub at_most : (a b : ℕ) (t : Bool) → T (ltb a b || (eqb a b && t)) → a ≤ b
at_most a b t h = or_elim (ltb a b) (eqb a b && t) (λ p. le_of_lt (ltb→lt a b p)) (λ q. le_of_eq (eqb→eq a b (and_l (eqb a b) t q))) h

pub at_least : (a b : ℕ) (t : Bool) → T (ltb b a || (eqb a b && t)) → b ≤ a
at_least a b t h = or_elim (ltb b a) (eqb a b && t) (λ p. le_of_lt (ltb→lt b a p)) (λ q. le_of_eq (sym (eqb→eq a b (and_l (eqb a b) t q)))) h

-- ---- the order of two signed numbers
-- ±a ≤ ±b
abbrev pub Le : Bool → ℕ → Bool → ℕ → Type 0
Le false a false b = a ≤ b
Le false a true b = (a ≡ 0) × (b ≡ 0)
Le true a false b = Unit
Le true a true b = b ≤ a

Le-of : (s : Bool) (a : ℕ) (t : Bool) (b : ℕ) → T (below s a t b || level s a t b) → Le s a t b
Le-of false a false b h = at_most a b true h
Le-of false a true b h =
    let z : a ≡ 0 = eqb→eq a 0 (and_r (eqb a b) (eqb a 0) h) in
    (z, sym (eqb→eq a b (and_l (eqb a b) (eqb a 0) h)) ∙ z)
Le-of true a false b h = tt
Le-of true a true b h = at_least a b true h

pub of_Le : (s : Bool) (a : ℕ) (t : Bool) (b : ℕ) → Le s a t b → T (below s a t b || level s a t b)
of_Le false a false b h =
    elim (eq-or-lt_of_le h) [
      | inl e ↦ or_r (ltb a b) (eqb a b && true) (and_i (eqb a b) true (eq→eqb e) tt)
      | inr l ↦ or_l (ltb a b) (eqb a b && true)
          (lt→ltb a b l)
    ]
of_Le false a true b h = and_i (eqb a b) (eqb a 0) (eq→eqb (h.0 ∙ sym h.1)) (eq→eqb h.0)
of_Le true a false b h =
    elim (eq-or-lt_of_le {n = 0} {m = a + b} (omega arith)) [
      | inl e ↦ or_r (ltb 0 (a + b)) (eqb a b && eqb a 0)
          (and_i (eqb a b) (eqb a 0) (eq→eqb {a = a} {b = b} (omega arith)) (eq→eqb {a = a} {b = 0} (omega arith)))
      | inr l ↦ or_l (ltb 0 (a + b)) (eqb a b && eqb a 0) (lt→ltb 0 (a + b) l)
    ]
of_Le true a true b h =
    elim (eq-or-lt_of_le h) [
      | inl e ↦ or_r (ltb b a) (eqb a b && true) (and_i (eqb a b) true (eq→eqb (sym e)) tt)
      | inr l ↦ or_l (ltb b a) (eqb a b && true)
          (lt→ltb b a l)
    ]

Le-scale : (s : Bool) (a : ℕ) (t : Bool) (b c : ℕ) → Le s a t b → Le s (a * c) t (b * c)
Le-scale false a false b c h = mul-le-mul_right c h
Le-scale false a true b c h = (ap (λ (z : ℕ). z * c) h.0 ∙ zero-mul c, ap (λ (z : ℕ). z * c) h.1 ∙ zero-mul c)
Le-scale true a false b c h = tt
Le-scale true a true b c h = mul-le-mul_right c h

pub gone : (a c : ℕ) → 0 < c → a * c ≡ 0 → a ≡ 0
gone a c C e = let h : a ≤ 0 = le_of_mul-le-mul_right (le_of_eq (e ∙ sym (zero-mul c))) C in omega arith

Le-unscale : (s : Bool) (a : ℕ) (t : Bool) (b c : ℕ) → 0 < c → Le s (a * c) t (b * c) → Le s a t b
Le-unscale false a false b c C h = le_of_mul-le-mul_right h C
Le-unscale false a true b c C h = (gone a c C h.0, gone b c C h.1)
Le-unscale true a false b c C h = tt
Le-unscale true a true b c C h = le_of_mul-le-mul_right h C

Le-trans : (s : Bool) (a : ℕ) (t : Bool) (b : ℕ) (r : Bool) (c : ℕ) → Le s a t b → Le t b r c → Le s a r c
Le-trans false a false b false c h k = le_trans h k
Le-trans false a false b true c h k = omega arith
Le-trans false a true b false c h k = omega arith
Le-trans false a true b true c h k = omega arith
Le-trans true a false b false c h k = tt
Le-trans true a false b true c h k = omega arith
Le-trans true a true b false c h k = tt
Le-trans true a true b true c h k = le_trans k h

-- ---- the order of floats
pub le_trans_float : (x y z : Float) → T (le x y) → T (le y z) → T (le x z)
unfolding le lt eq
le_trans_float nan y z h k = absurd h
le_trans_float (inf s) nan z h k = absurd h
le_trans_float (inf true) (inf true) z h k = k
le_trans_float (inf false) (inf false) z h k = k
le_trans_float (inf false) (inf true) z h k = absurd h
le_trans_float (inf true) (inf false) nan h k = k
le_trans_float (inf true) (inf false) (inf true) h k = absurd k
le_trans_float (inf true) (inf false) (inf false) h k = tt
le_trans_float (inf true) (inf false) (fin r p g) h k = tt
le_trans_float (inf false) (fin t n d) z h k = absurd h
le_trans_float (inf true) (fin t n d) nan h k = k
le_trans_float (inf true) (fin t n d) (inf true) h k = absurd k
le_trans_float (inf true) (fin t n d) (inf false) h k = tt
le_trans_float (inf true) (fin t n d) (fin r p g) h k = tt
le_trans_float (fin s m e) nan z h k = absurd h
le_trans_float (fin s m e) (inf true) z h k = absurd h
le_trans_float (fin s m e) (inf false) nan h k = k
le_trans_float (fin s m e) (inf false) (inf true) h k = absurd k
le_trans_float (fin s m e) (inf false) (inf false) h k = tt
le_trans_float (fin s m e) (inf false) (fin r p g) h k = absurd k
le_trans_float (fin s m e) (fin t n d) nan h k = k
le_trans_float (fin s m e) (fin t n d) (inf true) h k = absurd k
le_trans_float (fin s m e) (fin t n d) (inf false) h k = tt
le_trans_float (fin s m e) (fin t n d) (fin r p g) h k =
    let X = m * up e in
    let Y = n * up d in
    let Z = p * up g in
    let a : Le s (X * down d * down g) t (Y * down e * down g) = Le-scale s (X * down d) t (Y * down e) (down g) (Le-of s (X * down d) t (Y * down e) h) in
    let b : Le t (Y * down e * down g) r (Z * down d * down e) =
    subst (λ (q : ℕ). Le t q r (Z * down d * down e)) (mul_right_comm Y (down g) (down e))
    (Le-scale t (Y * down g) r (Z * down d) (down e) (Le-of t (Y * down g) r (Z * down d) k)) in
    let c : Le s (X * down d * down g) r (Z * down d * down e) = Le-trans s (X * down d * down g) t (Y * down e * down g) r (Z * down d * down e) a b in
    of_Le s (X * down g) r (Z * down e)
    (Le-unscale s (X * down g) r (Z * down e) (down d) (down_pos d)
    (subst₂ (λ (q w : ℕ). Le s q r w) (mul_right_comm X (down d) (down g)) (mul_right_comm Z (down d) (down e)) c))

pub lt→le : (x y : Float) → T (lt x y) → T (le x y)
unfolding le
lt→le x y h = or_l (lt x y) (eq x y) h

total : (s : Bool) (a : ℕ) (t : Bool) (b : ℕ) → T (not (below s a t b)) → Le t b s a
total false a false b h = nltb→le a b h
total false a true b h = tt
total true a false b h = let z : a + b ≤ 0 = nltb→le 0 (a + b) h in (omega arith, omega arith)
total true a true b h = nltb→le b a h

-- of two numbers one is at most the other
pub not-lt→le : (x y : Float) → T (not (is_nan x)) → T (not (is_nan y)) → T (not (lt x y)) → T (le y x)
unfolding le lt eq is_nan
not-lt→le nan y p q h = absurd p
not-lt→le (inf s) nan p q h = absurd q
not-lt→le (inf true) (inf true) p q h = tt
not-lt→le (inf true) (inf false) p q h = absurd h
not-lt→le (inf false) (inf true) p q h = tt
not-lt→le (inf false) (inf false) p q h = tt
not-lt→le (inf true) (fin t n d) p q h = absurd h
not-lt→le (inf false) (fin t n d) p q h = tt
not-lt→le (fin s m e) nan p q h = absurd q
not-lt→le (fin s m e) (inf true) p q h = tt
not-lt→le (fin s m e) (inf false) p q h = absurd h
not-lt→le (fin s m e) (fin t n d) p q h = of_Le t (n * up d * down e) s (m * up e * down d) (total s (m * up e * down d) t (n * up d * down e) h)

strict : (s : Bool) (a : ℕ) (t : Bool) (b : ℕ) → T (below s a t b) → Le t b s a → ⊥
strict false a false b h k = omega (arith, ltb→lt a b h)
strict false a true b h k = h
strict true a false b h k = omega (arith, ltb→lt 0 (a + b) h)
strict true a true b h k = omega (arith, ltb→lt b a h)

pub lt_le_absurd : (x y : Float) → T (lt x y) → T (le y x) → ⊥
unfolding le lt eq
lt_le_absurd nan y h k = h
lt_le_absurd (inf s) nan h k = h
lt_le_absurd (inf true) (inf true) h k = h
lt_le_absurd (inf true) (inf false) h k = k
lt_le_absurd (inf false) (inf t) h k = h
lt_le_absurd (inf true) (fin t n d) h k = k
lt_le_absurd (inf false) (fin t n d) h k = h
lt_le_absurd (fin s m e) nan h k = h
lt_le_absurd (fin s m e) (inf true) h k = h
lt_le_absurd (fin s m e) (inf false) h k = k
lt_le_absurd (fin s m e) (fin t n d) h k = strict s (m * up e * down d) t (n * up d * down e) h (Le-of t (n * up d * down e) s (m * up e * down d) k)

-- ---- nan alone differs from itself
number : (x : Float) → x ≡ nan → T (not (is_nan x)) → ⊥
unfolding is_nan
number x e h = subst (λ (z : Float). T (not (is_nan z))) e h

pub ne_itself : (x : Float) → ne x x ≡ is_nan x
unfolding is_nan
ne_itself nan = nan_differs
ne_itself (inf s) = is_false (ne (inf s) (inf s)) (not_T (ne (inf s) (inf s)) (λ h. let e : inf s ≡ nan = differs_from_itself (inf s) h in number (inf s) e tt))
ne_itself (fin s m d) =
    is_false (ne (fin s m d) (fin s m d))
    (not_T (ne (fin s m d) (fin s m d)) (λ h. let e : fin s m d ≡ nan = differs_from_itself (fin s m d) h in number (fin s m d) e tt))

pub no_nan : (x : Float) → ne x x ≡ false → T (not (is_nan x))
no_nan x e = fails (sym (ne_itself x) ∙ e)

-- ---- zeros
-- zeros of either sign are level, and below every other number that is not negative
pub zeros_le : (s t : Bool) (m n : ℕ) (e d : ℤ) → m * up e ≡ 0 → n * up d ≡ 0 → T (le (fin s m e) (fin t n d))
unfolding le lt eq
zeros_le s t m n e d p q = of_Le s (m * up e * down d) t (n * up d * down e) (go s t)
  where
    a : m * up e * down d ≡ 0
    a = ap (λ (z : ℕ). z * down d) p ∙ zero-mul (down d)

    b : n * up d * down e ≡ 0
    b = ap (λ (z : ℕ). z * down e) q ∙ zero-mul (down e)

    go : (s t : Bool) → Le s (m * up e * down d) t (n * up d * down e)
    go false false = omega (arith, a)
    go false true = (a, b)
    go true false = tt
    go true true = omega (arith, b)

-- a negative sign and at least 0: the number is 0
pub zero_of : (m : ℕ) (e : ℤ) → T (le (fin false 0 (pos 0)) (fin true m e)) → m * up e ≡ 0
unfolding le lt eq
zero_of m e h = let z : m * up e * 1 ≡ 0 = (Le-of false (0 * 1 * down e) true (m * up e * 1) h).1 in sym (mul-one (m * up e)) ∙ z
