-- One cubic: where the test fails, it falls somewhere. Assumes nothing.
use mathlib.Core.Path.{◌≡◌, refl, ap, subst}
use mathlib.Core.Bool.{false}
use Prim.Native.Nat.{ℕ, zero, suc, ◌+◌, ◌-◌, ◌*◌, ◌≤◌, ◌<◌}
use native.Mathlib.Nat.{mul-le-mul, mul-le-mul_right}
use native.Mathlib.Omega.{arith}
use lib.IntN.{ℤ, pos, negsuc, ◌+ℤ◌, ◌*ℤ◌}
use lib.Signed.{◌<ℤ◌}
use borrow.Author.Tests.{leb-false}
use Rattle.error.proofs.First.{never}
use Rattle.turns_back.specs.Curve.{value_at, never_falls, cubic_never_falls}
use Rattle.turns_back.proofs.Simpson.{all, A, B, E}
use Rattle.whole.proofs.Differences.{up, down, itself, lt}
use Rattle.turns_back.proofs.Segment.{Slopes, below, above, rise, value_is}

-- ---- one part of n, from i to i + 1, where the slopes take away more than they add
-- near the start: 3e + c parts after it
at_start : (a e c : ℕ) → let m = 3 * e + c in B 0 1 m * e + E 0 1 m * c < A 0 1 m * suc a
at_start a e c = omega arith

-- near the end: 3e + a parts before it
at_end : (c e a : ℕ) → let i = 3 * e + a in A i 1 0 * a + B i 1 0 * e < E i 1 0 * suc c
at_end c e a = omega arith

-- between: the slope is below 0 at b + c to a + b
deep : (a b c : ℕ) → a * c < b * b → a * ((b + c) * (b + c)) + c * ((a + b) * (a + b)) < 2 * (b * ((b + c) * (a + b)))
deep a b c h =
    let p = mul-le-mul_right (a + 2 * b + c) h in
    grown a b c p h
  where
    grown : (a b c : ℕ) → suc (a * c) * (a + 2 * b + c) ≤ b * b * (a + 2 * b + c) → a * c < b * b
        → a * ((b + c) * (b + c)) + c * ((a + b) * (a + b)) < 2 * (b * ((b + c) * (a + b)))
    grown zero zero c p h = absurd (omega arith)
    grown zero (suc b) c p h = omega arith
    grown (suc a) b c p h = omega arith

-- N times as fine, P = N·(b + c) parts after it and Q = N·(a + b) before it
finer : (a b c N : ℕ) → a * c < b * b
    → let P = N * (b + c) in let Q = N * (a + b) in
    a * (P * P) + c * (Q * Q) + N * N ≤ 2 * (b * (P * Q))
finer a b c N h = go a b c N (b + c) (a + b) (deep a b c h)
  where
    go : (a b c N X Y : ℕ) → a * (X * X) + c * (Y * Y) < 2 * (b * (X * Y))
        → a * (N * X * (N * X)) + c * (N * Y * (N * Y)) + N * N ≤ 2 * (b * (N * X * (N * Y)))
    go a b c N X Y l = let p = mul-le-mul_right (N * N) l in omega (arith, p)

-- what the one part takes away, at Q with m = P − 1 parts after it
small_step : (a b c N m Q : ℕ) → a * (suc m * suc m) + c * (Q * Q) + N * N ≤ 2 * (b * (suc m * Q)) → b * Q + c * Q + b + c ≤ N * N → 0 < b
    → A Q 1 m * a + E Q 1 m * c < B Q 1 m * b
small_step a b c N m Q h l p = omega arith

pub record Step (a b c : ℕ) : Type 0 where
  pub i : ℕ
  pub m : ℕ
  pub less : A i 1 m * a + E i 1 m * c < B i 1 m * b

in_between : (a b c : ℕ) → 0 < b → a * c < b * b → Step a b c
in_between a b c p h =
    let N = b * (a + b) + c * (a + b) + b + c in
    let P = N * (b + c) in
    let Q = N * (a + b) in
    let some : 0 < P = mul-le-mul one_n one_x in
    let e : P ≡ suc (P - 1) = omega arith in
    let f = finer a b c N h in
    record {
      i = Q;
      m = P - 1;
      less = small_step a b c N (P - 1) Q (subst (λ (v : ℕ). a * (v * v) + c * (Q * Q) + N * N ≤ 2 * (b * (v * Q))) e f) (enough a b c (a + b) p) p;
    }
  where
    one_x : 1 ≤ b + c
    one_x = omega arith

    one_n : 1 ≤ b * (a + b) + c * (a + b) + b + c
    one_n = omega arith

    enough : (a b c Y : ℕ) → 0 < b
        → let N = b * Y + c * Y + b + c in b * (N * Y) + c * (N * Y) + b + c ≤ N * N
    enough a b c Y p =
        let N = b * Y + c * Y + b + c in
        let o : 1 ≤ N = omega arith in
        let q = mul-le-mul_right (b + c) o in
        more N refl q
      where
        more : (N : ℕ) → N ≡ b * Y + c * Y + b + c → 1 * (b + c) ≤ N * (b + c) → b * (N * Y) + c * (N * Y) + b + c ≤ N * N
        more N e q = let d = ap (λ (v : ℕ). N * v) e in omega (arith, d, q)

-- ---- by the signs of the three slopes
pub record Falling (d0 d1 d2 : ℤ) : Type 0 where
  pub of : Slopes d0 d1 d2
  pub i : ℕ
  pub m : ℕ
  pub less : A i 1 m * of.a + B i 1 m * of.e + E i 1 m * of.c < A i 1 m * of.a' + B i 1 m * of.b + E i 1 m * of.c'

falling : (d0 d1 d2 : ℤ) → never_falls d0 d1 d2 ≡ false → Falling d0 d1 d2
unfolding never_falls
falling (negsuc a) d1 d2 t =
    let m = 3 * up d1 + up d2 in
    record {
      of =
          record {
            a = 0;
            a' = suc a;
            b = down d1;
            c = up d2;
            c' = down d2;
            e = up d1;
            is0 = itself (negsuc a);
            is1 = itself d1;
            is2 = itself d2;
          };
      i = 0;
      m = m;
      less = more (A 0 1 m) (B 0 1 m) (E 0 1 m) (up d1) (up d2) (suc a) (down d1) (down d2) (at_start a (up d1) (up d2));
    }
  where
    more : (f g h e c a b c' : ℕ) → g * e + h * c < f * a → f * 0 + g * e + h * c < f * a + g * b + h * c'
    more f g h e c a b c' l = omega arith
falling (pos a) d1 (negsuc c) t =
    let i = 3 * up d1 + a in
    record {
      of =
          record {
            a = a;
            a' = 0;
            b = down d1;
            c = 0;
            c' = suc c;
            e = up d1;
            is0 = itself (pos a);
            is1 = itself d1;
            is2 = itself (negsuc c);
          };
      i = i;
      m = 0;
      less = more (A i 1 0) (B i 1 0) (E i 1 0) (up d1) a (suc c) (down d1) (at_end c (up d1) a);
    }
  where
    more : (f g h e a c b : ℕ) → f * a + g * e < h * c → f * a + g * e + h * 0 < f * 0 + g * b + h * c
    more f g h e a c b l = omega arith
falling (pos a) (pos e) (pos c) t = never (cc)
falling (pos a) (negsuc b) (pos c) t =
    let s = in_between a (suc b) c (omega arith) (leb-false (suc b * suc b) (a * c) t) in
    record {
      of =
          record {
            a = a;
            a' = 0;
            b = suc b;
            c = c;
            c' = 0;
            e = 0;
            is0 = itself (pos a);
            is1 = itself (negsuc b);
            is2 = itself (pos c);
          };
      i = s.i;
      m = s.m;
      less = more (A s.i 1 s.m) (B s.i 1 s.m) (E s.i 1 s.m) a (suc b) c s.less;
    }
  where
    more : (f g h a b c : ℕ) → f * a + h * c < g * b → f * a + g * 0 + h * c < f * 0 + g * b + h * 0
    more f g h a b c l = omega arith

-- ---- the cubic is lower one part on
pub record Down (w0 w1 w2 w3 : ℤ) : Type 0 where
  pub n : ℕ
  pub i : ℕ
  pub inside : i + 1 ≤ n
  pub lower : value_at w0 w1 w2 w3 n (i + 1) <ℤ value_at w0 w1 w2 w3 n i

over : (x x' y y' z z' : ℕ) → x + y < x' + y' → (x + z) + (y + z') < (x' + z) + (y' + z')
over x x' y y' z z' h = omega arith

third : (x y f g : ℕ) → 3 * x + f ≡ 3 * y + g → f < g → y < x
third x y f g e h = omega arith

pub falls : (w0 w1 w2 w3 : ℤ) → cubic_never_falls w0 w1 w2 ≡ false → Down w0 w1 w2 w3
unfolding cubic_never_falls
falls w0 w1 w2 w3 t =
    let s = falling w2 (w1 +ℤ w2) (w0 *ℤ pos 3 +ℤ w1 *ℤ pos 2 +ℤ w2) t in
    let i = s.i in
    let m = s.m in
    let n = all i 1 m in
    record {
      n = n;
      i = i;
      inside = omega arith;
      lower =
          lt (value_is w0 w1 w2 w3 n (i + 1)) (value_is w0 w1 w2 w3 n i)
          (over _ _ _ _ (up w3 * (n * n * n)) (down w3 * (n * n * n))
          (third (below w0 w1 w2 s.of i 1 m) (above w0 w1 w2 s.of i 1 m) _ _ (rise w0 w1 w2 s.of i 1 m) s.less));
    }
