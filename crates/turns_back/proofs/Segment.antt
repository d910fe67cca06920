-- One cubic: where the test passes, it never falls, at whatever two places. Assumes nothing.
use mathlib.Core.Path.{◌≡◌, subst}
use Prim.Native.Nat.{ℕ, suc, ◌+◌, ◌-◌, ◌*◌, ◌≤◌}
use native.Mathlib.Omega.{arith}
use lib.IntN.{ℤ, pos, negsuc, ◌+ℤ◌, ◌*ℤ◌}
use lib.Dec.{T, leb→le}
use lib.Signed.{◌≤ℤ◌}
use Rattle.turns_back.specs.Curve.{value_at, never_falls, cubic_never_falls}
use Rattle.turns_back.proofs.Simpson.{end, all, A, B, E, of_first, of_middle, of_last, slopes_down, carried}
use Rattle.whole.proofs.Differences.{up, down, Is, itself, plus, times, le}

-- the three slopes as differences: a − a', e − b and c − c'
pub record Slopes (d0 d1 d2 : ℤ) : Type 0 where
  pub a : ℕ
  pub a' : ℕ
  pub b : ℕ
  pub c : ℕ
  pub c' : ℕ
  pub e : ℕ
  pub is0 : Is d0 a a'
  pub is1 : Is d1 e b
  pub is2 : Is d2 c c'

-- what the test says of them
pub record Climbs (d0 d1 d2 : ℤ) : Type 0 where
  pub of : Slopes d0 d1 d2
  pub kept : (i k m : ℕ) → A i k m * of.a' + B i k m * of.b + E i k m * of.c' ≤ A i k m * of.a + B i k m * of.e + E i k m * of.c

climbs : (d0 d1 d2 : ℤ) → T (never_falls d0 d1 d2) → Climbs d0 d1 d2
unfolding never_falls
climbs (pos a) (pos e) (pos c) t =
    record {
      of = record { a = a; a' = 0; b = 0; c = c; c' = 0; e = e; is0 = itself (pos a); is1 = itself (pos e); is2 = itself (pos c) };
      kept = λ i k m. few (A i k m) (B i k m) (E i k m) a e c;
    }
  where
    few : (f g h a e c : ℕ) → f * 0 + g * 0 + h * 0 ≤ f * a + g * e + h * c
    few f g h a e c = omega arith
climbs (pos a) (negsuc b) (pos c) t =
    record {
      of = record { a = a; a' = 0; b = suc b; c = c; c' = 0; e = 0; is0 = itself (pos a); is1 = itself (negsuc b); is2 = itself (pos c) };
      kept = λ i k m. few (A i k m) (B i k m) (E i k m) a (suc b) c (slopes_down i k m a (suc b) c (leb→le (suc b * suc b) (a * c) t));
    }
  where
    few : (f g h a b c : ℕ) → b * g ≤ a * f + c * h → f * 0 + g * b + h * 0 ≤ f * a + g * 0 + h * c
    few f g h a b c l = omega arith
climbs (pos a) d1 (negsuc c) t = absurd t
climbs (negsuc a) d1 d2 t = absurd t

-- the value as a difference
pub value_is : (w0 w1 w2 w3 : ℤ) (n j : ℕ)
    → Is (value_at w0 w1 w2 w3 n j) (up w0 * (j * j * j) + up w1 * (n * j * j) + up w2 * (n * n * j) + up w3 * (n * n * n))
    (down w0 * (j * j * j) + down w1 * (n * j * j) + down w2 * (n * n * j) + down w3 * (n * n * n))
unfolding value_at
value_is w0 w1 w2 w3 n j =
    plus (plus (plus (times (j * j * j) (itself w0)) (times (n * j * j) (itself w1))) (times (n * n * j) (itself w2))) (times (n * n * n) (itself w3))

same : {z : ℤ} {p n q m : ℕ} → Is z p n → Is z q m → p + m ≡ q + n
same {z} {p} {n} {q} {m} u v = let a = u.is in let b = v.is in omega (arith, a, b)

-- three times the rise of the coefficients' parts, from i to i + k, in i + k + m parts
module _ (w0 w1 w2 : ℤ) (s : Slopes w2 (w1 +ℤ w2) (w0 *ℤ pos 3 +ℤ w1 *ℤ pos 2 +ℤ w2)) (i k m : ℕ) where
  abbrev pub below : ℕ
  below =
      let n = all i k m in let j = end i k m in
      up w0 * (i * i * i) + up w1 * (n * i * i) + up w2 * (n * n * i) + (down w0 * (j * j * j) + down w1 * (n * j * j) + down w2 * (n * n * j))

  abbrev pub above : ℕ
  above =
      let n = all i k m in let j = end i k m in
      up w0 * (j * j * j) + up w1 * (n * j * j) + up w2 * (n * n * j) + (down w0 * (i * i * i) + down w1 * (n * i * i) + down w2 * (n * n * i))

  pub rise : 3 * below + (A i k m * s.a + B i k m * s.e + E i k m * s.c) ≡ 3 * above + (A i k m * s.a' + B i k m * s.b + E i k m * s.c')
  rise =
      let n = all i k m in
      let j = end i k m in
      let u0 = same (itself w2) s.is0 in
      let u1 = same (plus (itself w1) (itself w2)) s.is1 in
      let u2 = same (plus (plus (times 3 (itself w0)) (times 2 (itself w1))) (itself w2)) s.is2 in
      carried (up w0) (down w0) (up w1) (down w1) (up w2) (down w2) s.a s.a' s.b s.c s.c' s.e (i * i * i) (n * i * i) (n * n * i) (j * j * j)
      (n * j * j) (n * n * j) (A i k m) (B i k m) (E i k m) (of_first i k m) (of_middle i k m) (of_last i k m) (omega (arith, u0)) (omega (arith, u0, u1))
      (omega (arith, u0, u1, u2))

-- what is the same at both places is taken away on both sides
over : (x x' y y' z z' : ℕ) → x + y ≤ x' + y' → (x + z) + (y + z') ≤ (x' + z) + (y' + z')
over x x' y y' z z' h = omega arith

third : (x y f g : ℕ) → 3 * x + f ≡ 3 * y + g → g ≤ f → x ≤ y
third x y f g e h = omega arith

never_falls_lem : (w0 w1 w2 w3 : ℤ) → Climbs w2 (w1 +ℤ w2) (w0 *ℤ pos 3 +ℤ w1 *ℤ pos 2 +ℤ w2) → (i k m : ℕ)
    → value_at w0 w1 w2 w3 (all i k m) i ≤ℤ value_at w0 w1 w2 w3 (all i k m) (end i k m)
never_falls_lem w0 w1 w2 w3 s i k m =
    let n = all i k m in
    le (value_is w0 w1 w2 w3 n i) (value_is w0 w1 w2 w3 n (end i k m))
    (over _ _ _ _ (up w3 * (n * n * n)) (down w3 * (n * n * n))
    (third (below w0 w1 w2 s.of i k m) (above w0 w1 w2 s.of i k m) _ _ (rise w0 w1 w2 s.of i k m) (s.kept i k m)))

-- at whatever two of n equal parts
pub rises : (w0 w1 w2 w3 : ℤ) → T (cubic_never_falls w0 w1 w2) → (n i j : ℕ) → i ≤ j → j ≤ n → value_at w0 w1 w2 w3 n i ≤ℤ value_at w0 w1 w2 w3 n j
unfolding cubic_never_falls
rises w0 w1 w2 w3 t n i j h l =
    let s = climbs w2 (w1 +ℤ w2) (w0 *ℤ pos 3 +ℤ w1 *ℤ pos 2 +ℤ w2) t in
    let ej : i + (j - i) ≡ j = omega arith in
    let en : i + (j - i) + (n - j) ≡ n = omega arith in
    let p = never_falls_lem w0 w1 w2 w3 s i (j - i) (n - j) in
    subst (λ (v : ℕ). value_at w0 w1 w2 w3 n i ≤ℤ value_at w0 w1 w2 w3 n v) ej
    (subst (λ (v : ℕ). value_at w0 w1 w2 w3 v i ≤ℤ value_at w0 w1 w2 w3 v (i + (j - i))) en p)
