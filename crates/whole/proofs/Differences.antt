-- A whole number as a difference p − n of two that are not negative: sums, products and order, so that `omega` can be asked. Assumes nothing.
use mathlib.Core.Path.{◌≡◌, refl, sym, ap, ◌∙◌}
use mathlib.Core.Bool.{Bool, true, false, cond}
use Prim.Native.Nat.{ℕ, zero, suc, ◌+◌, ◌-◌, ◌*◌, ◌≤◌, ◌<◌}
use native.Mathlib.Omega.{arith}
use lib.IntN.{ℤ, pos, negsuc, neg_ℤ, nat_abs, sub_ℕ, ◌+ℤ◌, ◌-ℤ◌, ◌*ℤ◌}
use lib.Dec.{T, ltb, le→leb, leb→le, lt→ltb, ltb→lt}
use lib.Signed.{le_z, le_z_yes, ◌≤ℤ◌, lt_z, lt_z_yes, ◌<ℤ◌}
use borrow.Author.Tests.{ltb-true, ltb-false, leb-false}
use Rattle.error.proofs.First.{never}

abbrev pub up : ℤ → ℕ
up (pos n) = n
up (negsuc n) = 0

abbrev pub down : ℤ → ℕ
down (pos n) = 0
down (negsuc n) = suc n

-- z is p − n
pub record Is (z : ℤ) (p n : ℕ) : Type 0 where
  pub is : p + down z ≡ n + up z

pub itself : (z : ℤ) → Is z (up z) (down z)
itself (pos n) = record { is = omega arith }
itself (negsuc n) = record { is = omega arith }

pub sub_is : (a b : ℕ) → Is (sub_ℕ a b) a b
sub_is a b = go (ltb a b) refl
  where
    go : (t : Bool) → ltb a b ≡ t → Is (cond t (negsuc (b - suc a)) (pos (a - b))) a b
    go true e = let l = ltb-true a b e in record { is = omega arith }
    go false e = let l = ltb-false a b e in record { is = omega arith }

neg_is : (n : ℕ) → Is (neg_ℤ (pos n)) 0 n
neg_is zero = record { is = refl }
neg_is (suc n) = record { is = omega arith }

plus_parts : (x y : ℤ) → Is (x +ℤ y) (up x + up y) (down x + down y)
plus_parts (pos a) (pos b) = record { is = omega arith }
plus_parts (pos a) (negsuc b) = let s = (sub_is a (suc b)).is in record { is = omega (arith, s) }
plus_parts (negsuc a) (pos b) = let s = (sub_is b (suc a)).is in record { is = omega (arith, s) }
plus_parts (negsuc a) (negsuc b) = record { is = omega arith }

pub plus : {x y : ℤ} {p n q m : ℕ} → Is x p n → Is y q m → Is (x +ℤ y) (p + q) (n + m)
plus {x} {y} {p} {n} {q} {m} u v = let s = (plus_parts x y).is in let a = u.is in let b = v.is in record { is = omega (arith, s, a, b) }

times_parts : (x : ℤ) (k : ℕ) → Is (x *ℤ pos k) (up x * k) (down x * k)
times_parts (pos a) k = record { is = omega arith }
times_parts (negsuc a) k = let s = (neg_is (suc a * k)).is in record { is = omega (arith, s) }

pub times : {x : ℤ} {p n : ℕ} (k : ℕ) → Is x p n → Is (x *ℤ pos k) (p * k) (n * k)
times {x} {p} {n} k u =
    let s = (times_parts x k).is in
    let e : (p + down x) * k ≡ (n + up x) * k = ap (λ (v : ℕ). v * k) u.is in
    record { is = omega (arith, s, e) }

-- by a number below 0
times_less : (x : ℤ) (k : ℕ) → Is (x *ℤ negsuc k) (down x * suc k) (up x * suc k)
times_less (pos a) k = let s = (neg_is (a * suc k)).is in record { is = omega (arith, s) }
times_less (negsuc a) k = record { is = omega arith }

pub minus : {x : ℤ} {p n : ℕ} (k : ℕ) → Is x p n → Is (x *ℤ negsuc k) (n * suc k) (p * suc k)
minus {x} {p} {n} k u =
    let s = (times_less x k).is in
    let e : (p + down x) * suc k ≡ (n + up x) * suc k = ap (λ (v : ℕ). v * suc k) u.is in
    record { is = omega (arith, s, e) }

-- ---- order
le_parts : (x y : ℤ) → up x + down y ≤ up y + down x → T (le_z x y)
le_parts (pos a) (pos b) h = le→leb a b (omega arith)
le_parts (pos a) (negsuc b) h = absurd (omega arith)
le_parts (negsuc a) (pos b) h = tt
le_parts (negsuc a) (negsuc b) h = le→leb b a (omega arith)

parts_le : (x y : ℤ) → T (le_z x y) → up x + down y ≤ up y + down x
parts_le (pos a) (pos b) t = omega (arith, leb→le a b t)
parts_le (pos a) (negsuc b) t = absurd t
parts_le (negsuc a) (pos b) t = omega arith
parts_le (negsuc a) (negsuc b) t = omega (arith, leb→le b a t)

pub le : {x y : ℤ} {p n q m : ℕ} → Is x p n → Is y q m → p + m ≤ q + n → x ≤ℤ y
le {x} {y} {p} {n} {q} {m} u v h = let a = u.is in let b = v.is in le_z_yes (le_parts x y (omega (arith, a, b)))

pub of_le : {x y : ℤ} {p n q m : ℕ} → Is x p n → Is y q m → x ≤ℤ y → p + m ≤ q + n
of_le {x} {y} {p} {n} {q} {m} u v h = let a = u.is in let b = v.is in let l = parts_le x y h.le in omega (arith, a, b, l)

-- ---- other differences for the same number
pub other : {z : ℤ} {p n : ℕ} (q m : ℕ) → Is z p n → p + m ≡ q + n → Is z q m
other {z} {p} {n} q m u e = let a = u.is in record { is = omega (arith, a, e) }

pub is_sub : {z : ℤ} {p n : ℕ} → Is z p n → sub_ℕ p n ≡ z
is_sub {z} {p} {n} u = same_parts (sub_ℕ p n) z (let a = u.is in let b = (sub_is p n).is in omega (arith, a, b))
  where
    same_parts : (x y : ℤ) → up x + down y ≡ up y + down x → x ≡ y
    same_parts (pos a) (pos b) e = let q : a ≡ b = omega arith in ap pos q
    same_parts (pos a) (negsuc b) e = absurd (omega arith)
    same_parts (negsuc a) (pos b) e = absurd (omega arith)
    same_parts (negsuc a) (negsuc b) e = let q : a ≡ b = omega arith in ap negsuc q

-- by whatever number
pub by : {x : ℤ} {p n : ℕ} (y : ℤ) → Is x p n → Is (x *ℤ y) (p * up y + n * down y) (p * down y + n * up y)
by (pos k) u = let s = (times k u).is in record { is = omega (arith, s) }
by (negsuc k) u = let s = (minus k u).is in record { is = omega (arith, s) }

lt_parts : (x y : ℤ) → up x + down y < up y + down x → T (lt_z x y)
lt_parts (pos a) (pos b) h = lt→ltb a b (omega arith)
lt_parts (pos a) (negsuc b) h = absurd (omega arith)
lt_parts (negsuc a) (pos b) h = tt
lt_parts (negsuc a) (negsuc b) h = lt→ltb b a (omega arith)

pub lt : {x y : ℤ} {p n q m : ℕ} → Is x p n → Is y q m → p + m < q + n → x <ℤ y
lt {x} {y} {p} {n} {q} {m} u v h = let a = u.is in let b = v.is in lt_z_yes (lt_parts x y (omega (arith, a, b)))

parts_lt : (x y : ℤ) → le_z x y ≡ false → up y + down x < up x + down y
parts_lt (pos a) (pos b) e = omega (arith, leb-false a b e)
parts_lt (pos a) (negsuc b) e = omega arith
parts_lt (negsuc a) (pos b) e = never (cc)
parts_lt (negsuc a) (negsuc b) e = omega (arith, leb-false b a e)

-- a test of order that failed
pub not_le : {x y : ℤ} → le_z x y ≡ false → y <ℤ x
not_le {x} {y} e = let l = parts_lt x y e in lt (itself y) (itself x) (omega (arith, l))

parts_lt_of : (x y : ℤ) → T (lt_z x y) → up x + down y < up y + down x
parts_lt_of (pos a) (pos b) t = omega (arith, ltb→lt a b t)
parts_lt_of (pos a) (negsuc b) t = absurd t
parts_lt_of (negsuc a) (pos b) t = omega arith
parts_lt_of (negsuc a) (negsuc b) t = omega (arith, ltb→lt b a t)

pub of_lt : {x y : ℤ} {p n q m : ℕ} → Is x p n → Is y q m → x <ℤ y → p + m < q + n
of_lt {x} {y} {p} {n} {q} {m} u v h = let a = u.is in let b = v.is in let l = parts_lt_of x y h.lt in omega (arith, a, b, l)

-- ---- signs changed
pub opposite : (z : ℤ) → Is (neg_ℤ z) (down z) (up z)
opposite (pos zero) = record { is = refl }
opposite (pos (suc n)) = record { is = omega arith }
opposite (negsuc n) = record { is = omega arith }

pub equal : {x y : ℤ} {p n : ℕ} → Is x n p → Is y p n → x ≡ neg_ℤ y
equal {x} {y} {p} {n} u v = sym (is_sub u) ∙ is_sub (turn y v)
  where
    turn : (y : ℤ) → Is y p n → Is (neg_ℤ y) n p
    turn y v = let a = v.is in let o = (opposite y).is in record { is = omega (arith, a, o) }

pub negated : {x : ℤ} {p n : ℕ} → Is x p n → Is (neg_ℤ x) n p
negated {x} {p} {n} u = let a = u.is in other n p (opposite x) (omega (arith, a))

pub less : {x y : ℤ} {p n q m : ℕ} → Is x p n → Is y q m → Is (x -ℤ y) (p + m) (n + q)
less u v = plus u (negated v)

pub alike : {x y : ℤ} {p n q m : ℕ} → Is x p n → Is y q m → p + m ≡ q + n → x ≡ y
alike {x} {y} {p} {n} {q} {m} u v e = sym (is_sub u) ∙ is_sub (other p n v (omega (arith, e)))

-- ---- magnitudes
pub abs_le : {z : ℤ} {p n : ℕ} (k : ℕ) → Is z p n → p ≤ k → n ≤ k → nat_abs z ≤ k
abs_le {z = pos a} {p} {n} k u h l = let e = u.is in omega (arith, e)
abs_le {z = negsuc a} {p} {n} k u h l = let e = u.is in omega (arith, e)

pub parts_within : (z : ℤ) (k : ℕ) → nat_abs z ≤ k → (up z ≤ k) × (down z ≤ k)
parts_within (pos a) k h = (h, omega arith)
parts_within (negsuc a) k h = (omega arith, h)
