-- A valve's sum is the textbook B-spline of its four knots, in their order, times 6 × 256³: the weights meet four equations, which one computed test
-- sees at every step, and the rest is arithmetic on differences of numbers that are not negative. Assumes nothing.
use Rattle.std.specs.Prelude.{Ok, Err}
use mathlib.Core.Path.{◌≡◌, refl, sym, ap, subst, ◌∙◌}
use mathlib.Core.Logic.{inl, inr}
use mathlib.Core.Bool.{Bool, ◌&&◌}
use mathlib.Core.List.{List, [], ◌∷◌}
use Prim.Native.Nat.{ℕ, zero, suc, ◌+◌, ◌*◌, ◌≤◌}
use native.Mathlib.Nat.{eq-or-lt_of_le}
use native.Mathlib.Omega.{arith}
use lib.Dec.{T, eqb, eqb→eq}
use lib.IntN.{ℤ, pos, negsuc, ◌+ℤ◌, ◌*ℤ◌}
use lib.Ieee.Fits.{and_l, and_r}
use Rattle.basis.specs.declared.Basis.TheVariants.{Bspline}
use Rattle.basis.specs.Basis.{whole_of}
use Rattle.spline_exact.specs.Cubic.{whole_sum, cubic}
use Rattle.error.specs.Refusals.{first, Verdict}
use Rattle.valve.specs.Mix.{weight_of, knot_of, mix_of, mix_uses, mixture, mixture_of}
use Rattle.error.proofs.First.{never, clear}
use borrow.Author.Tests.{ltb-false}
use Rattle.valve.proofs.mix.Reads as mix
use Rattle.calls.specs.Calls.{Keeps}
use Rattle.whole.proofs.Differences.{up, down, Is, itself, plus, times, by, other, is_sub}

-- ---- the four equations of a step's weights, without a difference: k0 to k3 are 256³, 256²·j, 256·j² and j³
record Weighs (k0 k1 k2 k3 w0 w1 w2 w3 : ℕ) : Type 0 where
  e0 : w0 + (3 * k1 + k3) ≡ k0 + 3 * k2
  e1 : w1 + 6 * k2 ≡ 4 * k0 + 3 * k3
  e2 : w2 + 3 * k3 ≡ k0 + 3 * k1 + 3 * k2
  e3 : w3 ≡ k3

-- two numbers with the same parts are the same
same : {x y : ℤ} {p n q m : ℕ} → Is x p n → Is y q m → p + m ≡ q + n → x ≡ y
same {x} {y} {p} {n} {q} {m} u v e = sym (is_sub u) ∙ is_sub (other p n v (omega (arith, e)))

term : (w : ℕ) (a : ℤ) → Is (pos w *ℤ a) (w * up a) (w * down a)
term w a = other (w * up a) (w * down a) (by a (itself (pos w))) (omega arith)

-- the rows of the matrix: of t³, t², t and 1
row_3 : (a b c d : ℤ) → Is (a *ℤ negsuc 0 +ℤ b *ℤ pos 3 +ℤ c *ℤ negsuc 2 +ℤ d *ℤ pos 1) (down a + 3 * up b + 3 * down c + up d)
    (up a + 3 * down b + 3 * up c + down d)
row_3 a b c d =
    other (down a + 3 * up b + 3 * down c + up d) (up a + 3 * down b + 3 * up c + down d)
    (plus (plus (plus (by (negsuc 0) (itself a)) (by (pos 3) (itself b))) (by (negsuc 2) (itself c))) (by (pos 1) (itself d))) (omega arith)

row_2 : (a b c d : ℤ) → Is (a *ℤ pos 3 +ℤ b *ℤ negsuc 5 +ℤ c *ℤ pos 3 +ℤ d *ℤ pos 0) (3 * up a + 6 * down b + 3 * up c) (3 * down a + 6 * up b + 3 * down c)
row_2 a b c d =
    other (3 * up a + 6 * down b + 3 * up c) (3 * down a + 6 * up b + 3 * down c)
    (plus (plus (plus (by (pos 3) (itself a)) (by (negsuc 5) (itself b))) (by (pos 3) (itself c))) (by (pos 0) (itself d))) (omega arith)

row_1 : (a b c d : ℤ) → Is (a *ℤ negsuc 2 +ℤ b *ℤ pos 0 +ℤ c *ℤ pos 3 +ℤ d *ℤ pos 0) (3 * down a + 3 * up c) (3 * up a + 3 * down c)
row_1 a b c d =
    other (3 * down a + 3 * up c) (3 * up a + 3 * down c)
    (plus (plus (plus (by (negsuc 2) (itself a)) (by (pos 0) (itself b))) (by (pos 3) (itself c))) (by (pos 0) (itself d))) (omega arith)

row_0 : (a b c d : ℤ) → Is (a *ℤ pos 1 +ℤ b *ℤ pos 4 +ℤ c *ℤ pos 1 +ℤ d *ℤ pos 0) (up a + 4 * up b + up c) (down a + 4 * down b + down c)
row_0 a b c d =
    other (up a + 4 * up b + up c) (down a + 4 * down b + down c)
    (plus (plus (plus (by (pos 1) (itself a)) (by (pos 4) (itself b))) (by (pos 1) (itself c))) (by (pos 0) (itself d))) (omega arith)

-- an equation of the weights, times the parts a and x of its knot
knot_0 : (k0 k1 k2 k3 w a x : ℕ) → w + (3 * k1 + k3) ≡ k0 + 3 * k2
    → w * a + (a * k3 + 3 * (x * k2) + 3 * (a * k1) + x * k0) ≡ x * k3 + 3 * (a * k2) + 3 * (x * k1) + a * k0 + w * x
knot_0 k0 k1 k2 k3 w a x e =
    let p : (w + (3 * k1 + k3)) * a ≡ (k0 + 3 * k2) * a = ap (λ (i : ℕ). i * a) e in
    let n : (w + (3 * k1 + k3)) * x ≡ (k0 + 3 * k2) * x = ap (λ (i : ℕ). i * x) e in
    omega (arith, p, n)

knot_1 : (k0 k2 k3 w a x : ℕ) → w + 6 * k2 ≡ 4 * k0 + 3 * k3
    → w * a + (3 * (x * k3) + 6 * (a * k2) + 4 * (x * k0)) ≡ 3 * (a * k3) + 6 * (x * k2) + 4 * (a * k0) + w * x
knot_1 k0 k2 k3 w a x e =
    let p : (w + 6 * k2) * a ≡ (4 * k0 + 3 * k3) * a = ap (λ (i : ℕ). i * a) e in
    let n : (w + 6 * k2) * x ≡ (4 * k0 + 3 * k3) * x = ap (λ (i : ℕ). i * x) e in
    omega (arith, p, n)

knot_2 : (k0 k1 k2 k3 w a x : ℕ) → w + 3 * k3 ≡ k0 + 3 * k1 + 3 * k2
    → w * a + (3 * (a * k3) + 3 * (x * k2) + 3 * (x * k1) + x * k0) ≡ 3 * (x * k3) + 3 * (a * k2) + 3 * (a * k1) + a * k0 + w * x
knot_2 k0 k1 k2 k3 w a x e =
    let p : (w + 3 * k3) * a ≡ (k0 + 3 * k1 + 3 * k2) * a = ap (λ (i : ℕ). i * a) e in
    let n : (w + 3 * k3) * x ≡ (k0 + 3 * k1 + 3 * k2) * x = ap (λ (i : ℕ). i * x) e in
    omega (arith, p, n)

knot_3 : (k3 w a x : ℕ) → w ≡ k3 → w * a + x * k3 ≡ a * k3 + w * x
knot_3 k3 w a x e =
    let p : w * a ≡ k3 * a = ap (λ (i : ℕ). i * a) e in
    let n : w * x ≡ k3 * x = ap (λ (i : ℕ). i * x) e in
    omega (arith, p, n)

-- the four rows, knot by knot
spread : (k0 k1 k2 k3 a b c d x y z v : ℕ)
    → (x + 3 * b + 3 * z + d) * k3 + (3 * a + 6 * y + 3 * c) * k2 + (3 * x + 3 * c) * k1 + (a + 4 * b + c) * k0
    ≡ (x * k3 + 3 * (a * k2) + 3 * (x * k1) + a * k0) + (3 * (b * k3) + 6 * (y * k2) + 4 * (b * k0))
    + (3 * (z * k3) + 3 * (c * k2) + 3 * (c * k1) + c * k0) + d * k3
spread k0 k1 k2 k3 a b c d x y z v = omega arith

together : (l m n o p q r s a b c d e f g i t u : ℕ) → l + e ≡ a + p → m + f ≡ b + q → n + g ≡ c + r → o + i ≡ d + s
    → t ≡ a + b + c + d → u ≡ e + f + g + i → l + m + n + o + u ≡ t + (p + q + r + s)
together l m n o p q r s a b c d e f g i t u h0 h1 h2 h3 h4 h5 = omega arith

-- the knots are differences: a is a − x, b is b − y, c is c − z, d is d − v
parts : (k0 k1 k2 k3 w0 w1 w2 w3 a b c d x y z v : ℕ) → Weighs k0 k1 k2 k3 w0 w1 w2 w3
    → w0 * a + w1 * b + w2 * c + w3 * d
    + ((a + 3 * y + 3 * c + v) * k3 + (3 * x + 6 * b + 3 * z) * k2 + (3 * a + 3 * z) * k1 + (x + 4 * y + z) * k0)
    ≡ (x + 3 * b + 3 * z + d) * k3 + (3 * a + 6 * y + 3 * c) * k2 + (3 * x + 3 * c) * k1 + (a + 4 * b + c) * k0
    + (w0 * x + w1 * y + w2 * z + w3 * v)
parts k0 k1 k2 k3 w0 w1 w2 w3 a b c d x y z v h =
    let p = spread k0 k1 k2 k3 a b c d x y z v in
    let n = spread k0 k1 k2 k3 x y z v a b c d in
    together (w0 * a) (w1 * b) (w2 * c) (w3 * d) (w0 * x) (w1 * y) (w2 * z) (w3 * v) _ _ _ _ _ _ _ _ _ _
    (knot_0 k0 k1 k2 k3 w0 a x h.e0) (knot_1 k0 k2 k3 w1 b y h.e1) (knot_2 k0 k1 k2 k3 w2 c z h.e2) (knot_3 k3 w3 d v h.e3) p n

mixed : (a b c d : ℤ) (k0 k1 k2 k3 w0 w1 w2 w3 : ℕ) → Weighs k0 k1 k2 k3 w0 w1 w2 w3
    → pos w0 *ℤ a +ℤ pos w1 *ℤ b +ℤ pos w2 *ℤ c +ℤ pos w3 *ℤ d
    ≡ (a *ℤ negsuc 0 +ℤ b *ℤ pos 3 +ℤ c *ℤ negsuc 2 +ℤ d *ℤ pos 1) *ℤ pos k3
    +ℤ (a *ℤ pos 3 +ℤ b *ℤ negsuc 5 +ℤ c *ℤ pos 3 +ℤ d *ℤ pos 0) *ℤ pos k2
    +ℤ (a *ℤ negsuc 2 +ℤ b *ℤ pos 0 +ℤ c *ℤ pos 3 +ℤ d *ℤ pos 0) *ℤ pos k1
    +ℤ (a *ℤ pos 1 +ℤ b *ℤ pos 4 +ℤ c *ℤ pos 1 +ℤ d *ℤ pos 0) *ℤ pos k0
mixed a b c d k0 k1 k2 k3 w0 w1 w2 w3 h =
    let left = plus (plus (plus (term w0 a) (term w1 b)) (term w2 c)) (term w3 d) in
    let right = plus (plus (plus (times k3 (row_3 a b c d)) (times k2 (row_2 a b c d))) (times k1 (row_1 a b c d))) (times k0 (row_0 a b c d)) in
    same left right (parts k0 k1 k2 k3 w0 w1 w2 w3 (up a) (up b) (up c) (up d) (down a) (down b) (down c) (down d) h)

-- ---- they hold at every step: one computed test
unfoldable weighs : ℕ → Bool
weighs j =
    eqb (weight_of j 0 + (3 * (256 * 256 * j) + j * j * j)) (256 * 256 * 256 + 3 * (256 * j * j))
    && (eqb (weight_of j 1 + 6 * (256 * j * j)) (4 * (256 * 256 * 256) + 3 * (j * j * j))
    && (eqb (weight_of j 2 + 3 * (j * j * j)) (256 * 256 * 256 + 3 * (256 * 256 * j) + 3 * (256 * j * j)) && eqb (weight_of j 3) (j * j * j)))

unfoldable up_to : ℕ → Bool
unfolding weighs
up_to zero = weighs 0
up_to (suc j) = weighs (suc j) && up_to j

tested : T (up_to 256)
unfolding up_to
tested = tt

of_all : (n : ℕ) → T (up_to n) → (j : ℕ) → j ≤ n → T (weighs j)
unfolding up_to
of_all zero t j h = let e : 0 ≡ j = omega arith in subst (λ (i : ℕ). T (weighs i)) e t
of_all (suc n) t j h =
    elim (eq-or-lt_of_le h) [
      | inl e ↦ subst (λ (i : ℕ). T (weighs i)) (sym e) (and_l (weighs (suc n)) (up_to n) t)
      | inr l ↦ of_all n (and_r (weighs (suc n)) (up_to n) t) j (omega arith)
    ]

all_four : (a b c d p q r s : ℕ) → T (eqb a p && (eqb b q && (eqb c r && eqb d s))) → (a ≡ p) × (b ≡ q) × (c ≡ r) × (d ≡ s)
all_four a b c d p q r s t =
    let u = and_r (eqb a p) (eqb b q && (eqb c r && eqb d s)) t in
    let v = and_r (eqb b q) (eqb c r && eqb d s) u in (
      eqb→eq a p (and_l (eqb a p) (eqb b q && (eqb c r && eqb d s)) t),
      eqb→eq b q (and_l (eqb b q) (eqb c r && eqb d s) u),
      eqb→eq c r (and_l (eqb c r) (eqb d s) v),
      eqb→eq d s (and_r (eqb c r) (eqb d s) v),
    )

of_step : (j : ℕ) → j ≤ 256 → Weighs (256 * 256 * 256) (256 * 256 * j) (256 * j * j) (j * j * j) (weight_of j 0) (weight_of j 1) (weight_of j 2) (weight_of j 3)
unfolding weighs
of_step j h =
    let t = all_four (weight_of j 0 + (3 * (256 * 256 * j) + j * j * j)) (weight_of j 1 + 6 * (256 * j * j)) (weight_of j 2 + 3 * (j * j * j)) (weight_of j 3)
    (256 * 256 * 256 + 3 * (256 * j * j)) (4 * (256 * 256 * 256) + 3 * (j * j * j)) (256 * 256 * 256 + 3 * (256 * 256 * j) + 3 * (256 * j * j)) (j * j * j)
    (of_all 256 tested j h) in
    record { e0 = t.0; e1 = t.1; e2 = t.2; e3 = t.3 }

-- ---- the sum
pub mix_textbook : (ks : List ℤ) (j : ℕ) → j ≤ 256
    → mix_of ks j ≡ cubic (whole_of Bspline) (knot_of ks 0 ∷ knot_of ks 1 ∷ knot_of ks 2 ∷ knot_of ks 3 ∷ []) j
unfolding mix_of cubic whole_sum
mix_textbook ks j h =
    mixed (knot_of ks 0) (knot_of ks 1) (knot_of ks 2) (knot_of ks 3) (256 * 256 * 256) (256 * 256 * j) (256 * j * j) (j * j * j)
    (weight_of j 0) (weight_of j 1) (weight_of j 2) (weight_of j 3) (of_step j h)

told : (v : Verdict) {z s : ℤ} → mixture v z ≡ Ok s → (v ≡ Ok tt) × (z ≡ s)
told (Ok _) e = (refl, cc)
told (Err r) e = never (cc)

-- the call: where it answers a sum, that is the B-spline of the four knots in their order at step/256, times 6 × 256³
pub mix_is_bspline : Keeps mix.Learnt (λ κs a z e. (s : ℤ) → z ≡ Ok s
    → s ≡ cubic (whole_of Bspline) (knot_of a.1.0.now 0 ∷ knot_of a.1.0.now 1 ∷ knot_of a.1.0.now 2 ∷ knot_of a.1.0.now 3 ∷ []) a.0)
unfolding mixture_of
mix_is_bspline κs a z e p s q =
    let t = told (first (mix_uses a.0 a.1.0.now)) (sym p ∙ q) in
    sym t.1 ∙ mix_textbook a.1.0.now a.0 (ltb-false 256 a.0 (clear (mix_uses a.0 a.1.0.now) t.0 16))
