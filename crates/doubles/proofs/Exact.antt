-- Operations on doubles that round nothing: sums and products of whole numbers in parts of 2^p that keep below 2^53 parts. Assumes nothing.
use Rattle.std.proofs.Common.{
  ◌≡◌,
  ℕ,
  zero,
  suc,
  ◌+◌,
  ◌-◌,
  ◌*◌,
  ◌^◌,
  ◌<◌,
  ◌≤◌,
  Bool,
  true,
  false,
  cond,
  not,
  ◌&&◌,
  T,
  ltb,
  ℤ,
  pos,
  negsuc,
  ◌+ℤ◌,
  ◌*ℤ◌,
  neg_ℤ,
  nat_abs,
  sym,
  refl,
  ap,
  ◌∙◌,
  subst,
  le_trans,
  le_of_eq,
  lt_of_lt_of_le,
  lt_of_le_of_lt,
  mul-le-mul_right,
  mul_assoc,
  mul_comm,
  add-mul,
  mul-le-mul,
  mul-pos,
  mul-zero,
  zero-mul,
  sub-add_cancel,
  mul_right_comm,
  le_of_mul-le-mul_right,
  arith,
  lit<,
  lit≤,
  ltb→lt,
  nltb→le,
  pow_pos,
  pow_mono,
  pow-add,
  shl_lt,
}
use native.Mathlib.Nat.{mul-mul-mul_comm, mul-sub, eq_of_mul-eq-mul_right}
use lib.IntN.{+ℤ_comm, +ℤ-neg_ℤ_cancel, neg_ℤ-+ℤ, neg_ℤ-neg_ℤ}
use lib.Ieee.{Float, nan, inf, fin, binary64, up, down, unlike, round, sum, add, mul, le, of_int}
use lib.Ieee.Fits.{down_pos}
use lib.Ieee.Exact.{HasValue, round_exact}
use lib.Ieee.Order.{le_of_values}
use Rattle.doubles.specs.Numbers.{nought}
use Rattle.doubles.specs.Number.{signed, Number}
use Rattle.doubles.proofs.Order.{gone, zeros_le}
use Rattle.doubles.proofs.Bounds.{Within, value_within}

-- ---- rounding that changes nothing
rescale : (x : Float) (s : Bool) (a c n d : ℕ) → 0 < c → a * d ≡ n * c → HasValue x s a c → HasValue x s n d
rescale nan s a c n d C h v = v
rescale (inf t) s a c n d C h v = v
rescale (fin t m e) s a c n d C h v = (
  v.0,
  eq_of_mul-eq-mul_right c C (m * up e * d) (n * down e)
      (mul_right_comm (m * up e) d c ∙ ap (λ (x : ℕ). x * d) v.1 ∙ mul_right_comm a (down e) d ∙ ap (λ (x : ℕ). x * down e) h ∙ mul_right_comm n c (down e)),
)

pub exact : (s : Bool) (a c n p : ℕ) → 0 < c → n < 2 ^ 53 → p ≤ 1074 → a * 2 ^ p ≡ n * c → HasValue (round binary64 s a c) s n (2 ^ p)
exact s a c n p C N P h =
    let j = 1074 - p in
    let e : p + j ≡ 1074 = omega arith in
    let q : 2 ^ 1074 ≡ 2 ^ p * 2 ^ j = ap (λ (x : ℕ). 2 ^ x) (sym e) ∙ pow-add 2 p j in
    let w : a * 2 ^ 1074 ≡ n * 2 ^ j * c =
    ap (λ (x : ℕ). a * x) q ∙ sym (mul_assoc a (2 ^ p) (2 ^ j)) ∙ ap (λ (x : ℕ). x * 2 ^ j) h ∙ mul_right_comm n c (2 ^ j) in
    let f : n * 2 ^ j < 2 ^ 2098 = lt_of_lt_of_le (shl_lt 53 j N) (pow_mono {i = 53 + j} {j = 2098} (omega arith)) in
    rescale (round binary64 s a c) s a c n (2 ^ p) C h (round_exact binary64 s a c n j C N f w)

-- ---- signed sizes
signed_times : (s t : Bool) (n k : ℕ) → signed (unlike s t) (n * k) ≡ signed s n *ℤ signed t k
signed_times false false n k = refl
signed_times false true n zero = ap (λ (x : ℕ). neg_ℤ (pos x)) (mul-zero n) ∙ ap pos (sym (mul-zero n))
signed_times false true n (suc k) = refl
signed_times true false zero k = ap (λ (x : ℕ). neg_ℤ (pos x)) (zero-mul k) ∙ ap pos (sym (zero-mul k))
signed_times true false (suc n) k = refl
signed_times true true zero k = ap pos (zero-mul k) ∙ none k
  where
    none : (k : ℕ) → pos 0 ≡ pos 0 *ℤ neg_ℤ (pos k)
    none zero = refl
    none (suc k) = sym (ap (λ (x : ℕ). neg_ℤ (pos x)) (zero-mul (suc k)))
signed_times true true (suc n) zero = ap pos (mul-zero (suc n)) ∙ sym (ap (λ (x : ℕ). neg_ℤ (pos x)) (mul-zero (suc n)))
signed_times true true (suc n) (suc k) = refl

-- a − b, either way round
less : (a b : ℕ) → b ≤ a → pos a +ℤ neg_ℤ (pos b) ≡ pos (a - b)
less a b h = ap (λ (x : ℕ). pos x +ℤ neg_ℤ (pos b)) (sym (sub-add_cancel h)) ∙ +ℤ-neg_ℤ_cancel (pos (a - b)) (pos b)

more : (a b : ℕ) → a ≤ b → pos a +ℤ neg_ℤ (pos b) ≡ neg_ℤ (pos (b - a))
more a b h =
    ap (λ (x : ℤ). x +ℤ neg_ℤ (pos b)) (sym (neg_ℤ-neg_ℤ (pos a)))
    ∙ sym (neg_ℤ-+ℤ (neg_ℤ (pos a)) (pos b))
    ∙ ap neg_ℤ (+ℤ_comm (neg_ℤ (pos a)) (pos b) ∙ less b a h)

-- ---- numbers with a bound on their parts
pub record Exactly (x : Float) (z : ℤ) (p most : ℕ) : Type 0 where
  pub sign : Bool
  pub size : ℕ
  pub is : HasValue x sign size (2 ^ p)
  pub same : signed sign size ≡ z
  pub few : size ≤ most

pub forget : {x : Float} {z : ℤ} {p most : ℕ} → Exactly x z p most → Number x z p
forget v = record { sign = v.sign; size = v.size; is = v.is; same = v.same }

abs_signed : (s : Bool) (n : ℕ) → nat_abs (signed s n) ≡ n
abs_signed false n = refl
abs_signed true zero = refl
abs_signed true (suc n) = refl

pub of_number : {x : Float} {z : ℤ} {p : ℕ} (most : ℕ) → nat_abs z ≤ most → Number x z p → Exactly x z p most
of_number {x} {z} {p} most h v =
    let e : nat_abs z ≡ v.size = ap nat_abs (sym v.same) ∙ abs_signed v.sign v.size in
    record { sign = v.sign; size = v.size; is = v.is; same = v.same; few = subst (λ (n : ℕ). n ≤ most) e h }

-- ---- where such a number lies
pub exactly_within : {x : Float} {z : ℤ} {p most : ℕ} (a : ℕ) → most ≤ 2 ^ a * 2 ^ p → Exactly x z p most → Within a x
exactly_within {x} {z} {p} a h v = value_within x v.sign v.size (2 ^ p) a (pow_pos p) v.is (le_trans v.few h)

none : (n j : ℕ) → neg_ℤ (pos n) ≡ pos j → n ≡ 0
none zero j e = refl
none (suc n) j e = absurd (let q : ◌≡◌ {A = ℕ} 0 1 = cc in omega arith)

above : (x : Float) (s : Bool) (n j p : ℕ) → HasValue x s n (2 ^ p) → signed s n ≡ pos j → T (le nought x)
above nan s n j p v e = absurd v
above (inf t) s n j p v e = absurd v
above (fin false m d) s n j p v e =
    le_of_values nought (fin false m d) 0 1 n (2 ^ p) (lit< tt) (pow_pos p) (refl, refl) (refl, v.1) (simp zero-mul (omega arith))
above (fin true m d) s n j p v e =
    let z : n ≡ 0 = none n j (subst (λ (b : Bool). signed b n ≡ pos j) (sym v.0) e) in
    zeros_le false true 0 m (pos 0) d (zero-mul (up (pos 0))) (gone (m * up d) (2 ^ p) (pow_pos p) (v.1 ∙ (ap (λ (k : ℕ). k * down d) z ∙ zero-mul (down d))))

pub number_above : {x : Float} {j p : ℕ} → Number x (pos j) p → T (le nought x)
number_above {x} {j} {p} v = above x v.sign v.size j p v.is v.same

-- ---- whole numbers as doubles, and parts of 256
pub whole_exactly : (z : ℤ) (most : ℕ) → most < 2 ^ 53 → nat_abs z ≤ most → Exactly (of_int binary64 z) z 0 most
unfolding of_int
whole_exactly (pos n) most M h = record { sign = false; size = n; is = exact false n 1 n 0 (lit< tt) (lt_of_le_of_lt h M) (lit≤ tt) refl; same = refl; few = h }
whole_exactly (negsuc n) most M h =
    record { sign = true; size = suc n; is = exact true (suc n) 1 (suc n) 0 (lit< tt) (lt_of_le_of_lt h M) (lit≤ tt) refl; same = refl; few = h }

pub share_exactly : (j : ℕ) → j ≤ 256 → Exactly (round binary64 false j 256) (pos j) 8 256
share_exactly j h = record { sign = false; size = j; is = exact false j 256 j 8 (lit< tt) (lt_of_le_of_lt h (lit< tt)) (lit≤ tt) refl; same = refl; few = h }

-- in finer parts
finer_value : (x : Float) (s : Bool) (n p k : ℕ) → HasValue x s n (2 ^ p) → HasValue x s (n * 2 ^ k) (2 ^ (p + k))
finer_value nan s n p k v = v
finer_value (inf t) s n p k v = v
finer_value (fin t m e) s n p k v = (
  v.0,
  ap (λ (x : ℕ). m * up e * x) (pow-add 2 p k) ∙ sym (mul_assoc (m * up e) (2 ^ p) (2 ^ k)) ∙ ap (λ (x : ℕ). x * 2 ^ k) v.1
      ∙ mul_right_comm n (down e) (2 ^ k),
)

pub finer : {x : Float} {z : ℤ} {p most : ℕ} (k : ℕ) → Exactly x z p most → Exactly x (z *ℤ pos (2 ^ k)) (p + k) (most * 2 ^ k)
finer {x} {z} {p} {most} k v =
    record {
      sign = v.sign;
      size = v.size * 2 ^ k;
      is = finer_value x v.sign v.size p k v.is;
      same = up_same v.sign v.size ∙ ap (λ (y : ℤ). y *ℤ pos (2 ^ k)) v.same;
      few = mul-le-mul_right (2 ^ k) v.few;
    }
  where
    up_same : (s : Bool) (n : ℕ) → signed s (n * 2 ^ k) ≡ signed s n *ℤ pos (2 ^ k)
    up_same false n = refl
    up_same true zero = ap (λ (x : ℕ). neg_ℤ (pos x)) (zero-mul (2 ^ k)) ∙ ap pos (sym (zero-mul (2 ^ k)))
    up_same true (suc n) = refl

-- ---- the product
mul_value : (x y : Float) (s t : Bool) (n k p q : ℕ) → n * k < 2 ^ 53 → p + q ≤ 1074 → HasValue x s n (2 ^ p) → HasValue y t k (2 ^ q)
    → HasValue (mul binary64 x y) (unlike s t) (n * k) (2 ^ (p + q))
unfolding mul
mul_value nan y s t n k p q N P v w = absurd v
mul_value (inf u) y s t n k p q N P v w = absurd v
mul_value (fin u m e) nan s t n k p q N P v w = absurd w
mul_value (fin u m e) (inf r) s t n k p q N P v w = absurd w
mul_value (fin u m e) (fin r l d) s t n k p q N P v w =
    let i : HasValue (round binary64 (unlike u r) (m * up e * (l * up d)) (down e * down d)) (unlike u r) (n * k) (2 ^ (p + q)) =
    exact (unlike u r) (m * up e * (l * up d)) (down e * down d) (n * k) (p + q) (mul-pos (down_pos e) (down_pos d)) N P
    (ap (λ (x : ℕ). m * up e * (l * up d) * x) (pow-add 2 p q) ∙ mul-mul-mul_comm (m * up e) (l * up d) (2 ^ p) (2 ^ q)
    ∙ ap (λ (x : ℕ). x * (l * up d * 2 ^ q)) v.1 ∙ ap (λ (x : ℕ). n * down e * x) w.1 ∙ mul-mul-mul_comm n (down e) k (down d)) in
    subst (λ (b : Bool). HasValue (round binary64 (unlike u r) (m * up e * (l * up d)) (down e * down d)) b (n * k) (2 ^ (p + q)))
    (ap (λ (b : Bool). unlike b r) v.0 ∙ ap (λ (b : Bool). unlike s b) w.0) i

pub times : {x y : Float} {a b : ℤ} {p q A B : ℕ} → A * B < 2 ^ 53 → p + q ≤ 1074 → Exactly x a p A → Exactly y b q B
    → Exactly (mul binary64 x y) (a *ℤ b) (p + q) (A * B)
times {x} {y} {a} {b} {p} {q} {A} {B} N P v w =
    let f : v.size * w.size ≤ A * B = mul-le-mul v.few w.few in
    record {
      sign = unlike v.sign w.sign;
      size = v.size * w.size;
      is = mul_value x y v.sign w.sign v.size w.size p q (lt_of_le_of_lt f N) P v.is w.is;
      same =
          signed_times v.sign w.sign v.size w.size ∙ ap (λ (z : ℤ). z *ℤ signed w.sign w.size) v.same
          ∙ ap (λ (z : ℤ). a *ℤ z) w.same;
      few = f;
    }

-- ---- the sum
module _ (a b c n k p : ℕ) (C : 0 < c) (N : n + k < 2 ^ 53) (P : p ≤ 1074) (g : a * 2 ^ p ≡ n * c) (h : b * 2 ^ p ≡ k * c) where
  down_le : b ≤ a → k ≤ n
  down_le l = le_of_mul-le-mul_right (le_trans (le_of_eq (sym h)) (le_trans (mul-le-mul_right (2 ^ p) l) (le_of_eq g))) C

  down_le' : a ≤ b → n ≤ k
  down_le' l = le_of_mul-le-mul_right (le_trans (le_of_eq (sym g)) (le_trans (mul-le-mul_right (2 ^ p) l) (le_of_eq h))) C

  both : (s : Bool) → Exactly (round binary64 s (a + b) c) (signed s n +ℤ signed s k) p (n + k)
  both s =
      record {
        sign = s;
        size = n + k;
        is = exact s (a + b) c (n + k) p C N P (add-mul a b (2 ^ p) ∙ ap (λ (x : ℕ). x + b * 2 ^ p) g ∙ ap (λ (x : ℕ). n * c + x) h ∙ sym (add-mul n k c));
        same = joint s;
        few = le_of_eq refl;
      }
    where
      joint : (s : Bool) → signed s (n + k) ≡ signed s n +ℤ signed s k
      joint false = refl
      joint true = neg_ℤ-+ℤ (pos n) (pos k)

  first_more : (s : Bool) → b ≤ a → (z : ℤ) → signed s (n - k) ≡ z → Exactly (round binary64 s (a - b) c) z p (n + k)
  first_more s l z e =
      record {
        sign = s;
        size = n - k;
        is =
            exact s (a - b) c (n - k) p C (omega arith) P
            (mul_comm (a - b) (2 ^ p) ∙ mul-sub (2 ^ p) a b
            ∙ cc (mul_comm (2 ^ p) a, mul_comm (2 ^ p) b, g, h, mul_comm (n - k) c, mul-sub c n k, mul_comm c n, mul_comm c k));
        same = e;
        few = omega arith;
      }

  second_more : (s : Bool) → a ≤ b → (z : ℤ) → signed s (k - n) ≡ z → Exactly (round binary64 s (b - a) c) z p (n + k)
  second_more s l z e =
      record {
        sign = s;
        size = k - n;
        is =
            exact s (b - a) c (k - n) p C (omega arith) P
            (mul_comm (b - a) (2 ^ p) ∙ mul-sub (2 ^ p) b a
            ∙ cc (mul_comm (2 ^ p) a, mul_comm (2 ^ p) b, g, h, mul_comm (k - n) c, mul-sub c k n, mul_comm c n, mul_comm c k));
        same = e;
        few = omega arith;
      }

  summed : (s t : Bool) → Exactly (sum binary64 s a t b c) (signed s n +ℤ signed t k) p (n + k)
  unfolding sum
  summed false false = both false
  summed true true = both true
  summed false true = go (ltb a b) (ltb→lt a b) (nltb→le a b)
    where
      go : (u : Bool) → (T u → a < b) → (T (not u) → b ≤ a)
          → Exactly (cond u (round binary64 true (b - a) c) (round binary64 (false && ltb b a) (a - b) c)) (pos n +ℤ neg_ℤ (pos k)) p (n + k)
      go true l m = let o : a ≤ b = omega (arith, l tt) in second_more true o _ (sym (more n k (down_le' o)))
      go false l m = first_more false (m tt) _ (sym (less n k (down_le (m tt))))
  summed true false = go (ltb a b) (ltb→lt a b) (nltb→le a b)
    where
      back : (l : n ≤ k) → pos (k - n) ≡ neg_ℤ (pos n) +ℤ pos k
      back l = sym (+ℤ_comm (neg_ℤ (pos n)) (pos k) ∙ less k n l)

      forth : (l : k ≤ n) → neg_ℤ (pos (n - k)) ≡ neg_ℤ (pos n) +ℤ pos k
      forth l = sym (+ℤ_comm (neg_ℤ (pos n)) (pos k) ∙ more k n l)

      still : (u : Bool) → (T (not u) → a ≤ b) → b ≤ a → Exactly (round binary64 u (a - b) c) (neg_ℤ (pos n) +ℤ pos k) p (n + k)
      still true m l = first_more true l _ (forth (down_le l))
      still false m l =
          first_more false l _ (let x : n ≡ k = omega (arith, down_le l, down_le' (m tt)) in let d : n - k ≡ 0 = omega arith in let f : k - n ≡ 0 =
          omega arith in ap pos (d ∙ sym f) ∙ back (le_of_eq x))

      go : (u : Bool) → (T u → a < b) → (T (not u) → b ≤ a)
          → Exactly (cond u (round binary64 false (b - a) c) (round binary64 (true && ltb b a) (a - b) c)) (neg_ℤ (pos n) +ℤ pos k) p (n + k)
      go true l m = let o : a ≤ b = omega (arith, l tt) in second_more false o _ (back (down_le' o))
      go false l m = still (ltb b a) (nltb→le b a) (m tt)

add_exactly : (x y : Float) (s t : Bool) (n k p : ℕ) → n + k < 2 ^ 53 → p ≤ 1074 → HasValue x s n (2 ^ p) → HasValue y t k (2 ^ p)
    → Exactly (add binary64 x y) (signed s n +ℤ signed t k) p (n + k)
unfolding add
add_exactly nan y s t n k p N P v w = absurd v
add_exactly (inf u) y s t n k p N P v w = absurd v
add_exactly (fin u m e) nan s t n k p N P v w = absurd w
add_exactly (fin u m e) (inf r) s t n k p N P v w = absurd w
add_exactly (fin u m e) (fin r l d) s t n k p N P v w =
    let i = summed (m * up e * down d) (l * up d * down e) (down e * down d) n k p (mul-pos (down_pos e) (down_pos d)) N P
    (mul_right_comm (m * up e) (down d) (2 ^ p) ∙ ap (λ (x : ℕ). x * down d) v.1 ∙ mul_assoc n (down e) (down d))
    (mul_right_comm (l * up d) (down e) (2 ^ p) ∙ ap (λ (x : ℕ). x * down e) w.1 ∙ mul_assoc k (down d) (down e)
    ∙ ap (λ (x : ℕ). k * x) (mul_comm (down d) (down e)))
    u r in
    subst (λ (b : Bool). Exactly (sum binary64 u (m * up e * down d) r (l * up d * down e) (down e * down d)) (signed b n +ℤ signed t k) p (n + k)) v.0
    (subst (λ (b : Bool). Exactly (sum binary64 u (m * up e * down d) r (l * up d * down e) (down e * down d)) (signed u n +ℤ signed b k) p (n + k)) w.0 i)

pub plus : {x y : Float} {a b : ℤ} {p A B : ℕ} → A + B < 2 ^ 53 → p ≤ 1074 → Exactly x a p A → Exactly y b p B → Exactly (add binary64 x y) (a +ℤ b) p (A + B)
plus {x} {y} {a} {b} {p} {A} {B} N P v w =
    let f : v.size + w.size ≤ A + B = omega (arith, v.few, w.few) in
    let i = add_exactly x y v.sign w.sign v.size w.size p (lt_of_le_of_lt f N) P v.is w.is in
    record {
      sign = i.sign;
      size = i.size;
      is = i.is;
      same = i.same ∙ ap (λ (z : ℤ). z +ℤ signed w.sign w.size) v.same ∙ ap (λ (z : ℤ). a +ℤ z) w.same;
      few = le_trans i.few f;
    }
