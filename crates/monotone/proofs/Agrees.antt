-- Where neither slope of a segment was limited or rounded, its cubic is CatmullRom's. Assumes nothing.
use mathlib.Core.Path.{◌≡◌, sym, ap, ◌∙◌, subst}
use mathlib.Core.List.{List, []}
use Prim.Native.Nat.{ℕ, suc, min, ◌+◌, ◌-◌, ◌*◌, ◌/◌, ◌%◌, ◌≤◌, ◌<◌}
use native.Mathlib.Omega.{arith}
use lib.IntN.{ℤ, pos, negsuc, ◌+ℤ◌, ◌-ℤ◌, ◌*ℤ◌}
use lib.ListN.{length, drop, get_or}
use lib.Seq.{get_or-drop}
use Rattle.basis.specs.declared.Basis.TheVariants.{Hermite, CatmullRom}
use Rattle.basis.specs.Basis.{whole_of}
use Rattle.spline_exact.specs.Cubic.{at, whole_sum}
use Rattle.turns_back.specs.Curve.{value_at, coefficient, curve_at}
use Rattle.whole.proofs.Differences.{up, down, Is, itself, plus, times}
use Rattle.turns_back.proofs.Segment.{value_is}
use Rattle.turns_back.proofs.Seams.{added, taken, row_is}
use Rattle.monotone.specs.Slope.{step_at, limited, between, slope_at}
use Rattle.monotone.specs.Table.{table_of}
use Rattle.whole.proofs.Differences.{negated, less, alike}
use Rattle.monotone.proofs.Through.{four, four_0, four_1, four_2, four_3}

-- ---- half of two steps
pub record Unlimited (a b : ℕ) : Type 0 where
  pub even : (a + b) % 2 ≡ 0
  pub below : (a + b) / 2 ≤ 3 * min a b

-- two steps of one direction, with an even sum, whose half is not above three times the smaller
abbrev pub Free : ℤ → ℤ → Type 0
Free (pos a) (pos b) = Unlimited a b
Free (pos a) (negsuc b) = Prim.⊥
Free (negsuc a) (pos b) = Prim.⊥
Free (negsuc a) (negsuc b) = Unlimited (suc a) (suc b)

half : (a b : ℕ) → Unlimited a b → limited a b * 2 ≡ a + b
unfolding limited
half a b w = let e = w.even in let l = w.below in omega (arith, e, l)

pub free_half : (a b : ℤ) → Free a b → between a b *ℤ pos 2 ≡ a +ℤ b
unfolding between
free_half (pos a) (pos b) w = let e = half a b w in ap pos e
free_half (pos a) (negsuc b) w = absurd w
free_half (negsuc a) (pos b) w = absurd w
free_half (negsuc a) (negsuc b) w =
    let e = half (suc a) (suc b) w in
    alike (times 2 (negated (itself (pos (limited (suc a) (suc b)))))) (plus (itself (negsuc a)) (itself (negsuc b))) (omega (arith, e))

-- ---- the coefficients
parted : {x y : ℤ} {p n q m : ℕ} → Is x p n → Is y q m → x ≡ y → p + m ≡ q + n
parted {x} {y} {p} {n} {q} {m} u v e = let a = u.is in let b = (subst (λ (z : ℤ). Is z q m) (sym e) v).is in omega (arith, a, b)

-- m is half of what lies between x and y, by w
doubled : (m x w y : ℤ) → m *ℤ pos 2 ≡ (w -ℤ x) +ℤ (y -ℤ w) → up m * 2 + (down y + up x) ≡ up y + down x + down m * 2
doubled m x w y e =
    let p = parted (times 2 (itself m)) (plus (less (itself w) (itself x)) (less (itself y) (itself w))) e in
    omega (arith, p)

twice : (w0 w1 w2 w3 v0 v1 v2 v3 : ℤ) → w0 ≡ v0 *ℤ pos 2 → w1 ≡ v1 *ℤ pos 2 → w2 ≡ v2 *ℤ pos 2 → w3 ≡ v3 *ℤ pos 2 → (n j : ℕ)
    → value_at w0 w1 w2 w3 n j ≡ value_at v0 v1 v2 v3 n j *ℤ pos 2
unfolding value_at
twice w0 w1 w2 w3 v0 v1 v2 v3 e0 e1 e2 e3 n j =
    alike
    (plus (plus (plus (times (j * j * j) (moved w0 v0 e0)) (times (n * j * j) (moved w1 v1 e1))) (times (n * n * j) (moved w2 v2 e2)))
    (times (n * n * n) (moved w3 v3 e3)))
    (times 2 (value_is v0 v1 v2 v3 n j))
    (omega arith)
  where
    moved : (w v : ℤ) → w ≡ v *ℤ pos 2 → Is w (up v * 2) (down v * 2)
    moved w v e = subst (λ (z : ℤ). Is z (up v * 2) (down v * 2)) (sym e) (times 2 (itself v))

module _ (z : List ℤ) (s : ℕ) (h : s + 3 < length z) (f : Free (step_at z s) (step_at z (suc s))) (g : Free (step_at z (suc s)) (step_at z (suc (suc s)))) where
  abbrev p : ℕ → ℤ
  p i = get_or z (s + i) (pos 0)

  abbrev m1 : ℤ
  m1 = slope_at z (suc s)

  abbrev m2 : ℤ
  m2 = slope_at z (suc (suc s))

  slope_1 : slope_at z (suc s) ≡ between (step_at z s) (step_at z (suc s))
  unfolding slope_at
  slope_1 = ends (first s) (second s (length z) h)
    where
      first : (s : ℕ) → suc s - 1 ≡ s
      first s = omega arith

      second : (s n : ℕ) → s + 3 < n → min (suc s) (n - 2) ≡ suc s
      second s n h = omega arith

      ends : {i k : ℕ} → i ≡ s → k ≡ suc s → between (step_at z i) (step_at z k) ≡ between (step_at z s) (step_at z (suc s))
      ends p q = cc

  slope_2 : slope_at z (suc (suc s)) ≡ between (step_at z (suc s)) (step_at z (suc (suc s)))
  unfolding slope_at
  slope_2 = ends (first s) (second s (length z) h)
    where
      first : (s : ℕ) → suc (suc s) - 1 ≡ suc s
      first s = omega arith

      second : (s n : ℕ) → s + 3 < n → min (suc (suc s)) (n - 2) ≡ suc (suc s)
      second s n h = omega arith

      ends : {i k : ℕ} → i ≡ suc s → k ≡ suc (suc s) → between (step_at z i) (step_at z k) ≡ between (step_at z (suc s)) (step_at z (suc (suc s)))
      ends p q = cc

  there : (i : ℕ) {k : ℕ} → k ≡ s + i → get_or z k (pos 0) ≡ p i
  there i e = ap (λ (n : ℕ). get_or z n (pos 0)) e

  step_at_lem : (i : ℕ) {k : ℕ} → k ≡ s + i → step_at z k ≡ p (i + 1) -ℤ p i
  step_at_lem i {k} e = both (there (i + 1) (omega (arith, e))) (there i e)
    where
      both : {a b c d : ℤ} → a ≡ c → b ≡ d → a -ℤ b ≡ c -ℤ d
      both {a} {b} {c} {d} p q = ap (λ (v : ℤ). v -ℤ b) p ∙ ap (λ (v : ℤ). c -ℤ v) q

  sum : {a b c d : ℤ} → a ≡ c → b ≡ d → a +ℤ b ≡ c +ℤ d
  sum {a} {b} {c} {d} p q = ap (λ (v : ℤ). v +ℤ b) p ∙ ap (λ (v : ℤ). c +ℤ v) q

  half_1 : up m1 * 2 + (down (p 2) + up (p 0)) ≡ up (p 2) + down (p 0) + down m1 * 2
  half_1 =
      doubled m1 (p 0) (p 1) (p 2)
      (ap (λ (v : ℤ). v *ℤ pos 2) slope_1 ∙ free_half (step_at z s) (step_at z (suc s)) f ∙ sum (step_at_lem 0 (omega arith)) (step_at_lem 1 (omega arith)))

  half_2 : up m2 * 2 + (down (p 3) + up (p 1)) ≡ up (p 3) + down (p 1) + down m2 * 2
  half_2 =
      doubled m2 (p 1) (p 2) (p 3)
      (ap (λ (v : ℤ). v *ℤ pos 2) slope_2 ∙ free_half (step_at z (suc s)) (step_at z (suc (suc s))) g
      ∙ sum (step_at_lem 1 (omega arith)) (step_at_lem 2 (omega arith)))

  moved : {w c : ℤ} → w ≡ c → Is w (up c) (down c)
  moved {w} {c} q = subst (λ (v : ℤ). Is v (up c) (down c)) (sym q) (itself c)

  catmull : (i : ℕ) → at (drop (s * 1) z) i ≡ p i
  catmull i = get_or-drop (s * 1) z i (pos 0) ∙ ap (λ (n : ℕ). get_or z n (pos 0)) (one s i)
    where
      one : (s i : ℕ) → s * 1 + i ≡ s + i
      one s i = omega arith

  abbrev l : suc (suc s) < length z
  l = omega arith

  abbrev hermite : List ℤ
  hermite = four z (suc s) l

  hermite_0 : at hermite 0 ≡ p 1
  hermite_0 = four_0 z (suc s) l ∙ there 1 (omega arith)

  hermite_2 : at hermite 2 ≡ p 2
  hermite_2 = four_2 z (suc s) l ∙ there 2 (omega arith)

  abbrev rc : ℕ → List ℤ
  rc i = get_or (whole_of CatmullRom) i []

  abbrev rh : ℕ → List ℤ
  rh i = get_or (whole_of Hermite) i []

  of_catmull : (r : List ℤ)
      → Is (whole_sum (drop (s * 1) z) r) (added (up (p 0)) (down (p 0)) (up (p 1)) (down (p 1)) (up (p 2)) (down (p 2)) (up (p 3)) (down (p 3)) r)
      (taken (up (p 0)) (down (p 0)) (up (p 1)) (down (p 1)) (up (p 2)) (down (p 2)) (up (p 3)) (down (p 3)) r)
  of_catmull r =
      row_is (up (p 0)) (down (p 0)) (up (p 1)) (down (p 1)) (up (p 2)) (down (p 2)) (up (p 3)) (down (p 3)) (drop (s * 1) z)
      (moved (catmull 0)) (moved (catmull 1)) (moved (catmull 2)) (moved (catmull 3)) r

  of_hermite : (r : List ℤ)
      → Is (whole_sum hermite r) (added (up (p 1)) (down (p 1)) (up m1) (down m1) (up (p 2)) (down (p 2)) (up m2) (down m2) r)
      (taken (up (p 1)) (down (p 1)) (up m1) (down m1) (up (p 2)) (down (p 2)) (up m2) (down m2) r)
  of_hermite r =
      row_is (up (p 1)) (down (p 1)) (up m1) (down m1) (up (p 2)) (down (p 2)) (up m2) (down m2) hermite
      (moved hermite_0) (moved (four_1 z (suc s) l)) (moved hermite_2) (moved (four_3 z (suc s) l)) r

  -- CatmullRom's numbers are for twice the curve
  pub agrees : (n j : ℕ) → curve_at CatmullRom z s n j ≡ curve_at Hermite (table_of z) (suc s) n j *ℤ pos 2
  unfolding curve_at coefficient
  agrees n j =
      let a = half_1 in
      let b = half_2 in
      let c = drop (s * 1) z in
      twice (whole_sum c (rc 0)) (whole_sum c (rc 1)) (whole_sum c (rc 2)) (whole_sum c (rc 3))
      (whole_sum hermite (rh 0)) (whole_sum hermite (rh 1)) (whole_sum hermite (rh 2)) (whole_sum hermite (rh 3))
      (alike (of_catmull (rc 0)) (times 2 (of_hermite (rh 0))) (omega (arith, a, b)))
      (alike (of_catmull (rc 1)) (times 2 (of_hermite (rh 1))) (omega (arith, a, b)))
      (alike (of_catmull (rc 2)) (times 2 (of_hermite (rh 2))) (omega (arith, a, b)))
      (alike (of_catmull (rc 3)) (times 2 (of_hermite (rh 3))) (omega (arith, a, b)))
      n j
