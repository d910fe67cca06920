-- The curve's own ends: the segments that hold them, and how two numbers that are raised alike compare. Assumes nothing.
use Rattle.turns_back.specs.declared.Turning.{Turning}
use Rattle.error.specs.declared.Refusal.{Refusal}
use Rattle.turns_back.specs.declared.Turning.TheVariants.{Flat}
use Rattle.std.specs.Prelude.{Ok, Result}
use mathlib.Core.Path.{◌≡◌, refl, sym, ap, ◌∙◌, subst}
use mathlib.Core.Bool.{Bool, true, false, cond}
use mathlib.Core.List.{List, []}
use Prim.Native.Nat.{ℕ, ◌+◌, ◌-◌, ◌*◌, ◌≤◌, ◌<◌}
use native.Mathlib.Omega.{arith}
use lib.IntN.{ℤ, pos, sub_ℕ}
use lib.ListN.{length, drop, get_or}
use lib.Signed.{lt_z, lt_z_yes}
use Rattle.basis.specs.declared.Basis.{Basis}
use Rattle.basis.specs.Basis.{step_of, segments_of, whole_of}
use Rattle.spline_exact.specs.Cubic.{whole_sum}
use Rattle.whole.specs.Held.{turned_all}
use Rattle.whole.proofs.Held.{same_all}
use Rattle.whole.proofs.Differences.{Is, sub_is, lt, of_lt}
use Rattle.turns_back.specs.Curve.{value_at, coefficient, curve_at}
use Rattle.turns_back.specs.Call.{turning_of, start_of, end_of, way_of, by_way, by_ends}
use Rattle.turns_back.specs.Four.{four_at, FourFrom}
use Rattle.turns_back.specs.declared.Way.{Way}
use Rattle.turns_back.specs.declared.Way.TheVariants.{Rising, Falling, Level}
use Rattle.turns_back.proofs.Slopes.{four}
use Rattle.turns_back.proofs.Seams.{true_of, not_so}
use Rattle.turns_back.proofs.Verdicts.{four_there, starts}

-- ---- the last segment's place
module _ (b : Basis) (n k t : ℕ) where
  pub is_last : k ≡ segments_of b n → t ≡ step_of b → (k - 1) * t ≡ (segments_of b n - 1) * step_of b
  is_last e f = ap (λ (m : ℕ). (m - 1) * t) e ∙ ap (λ (m : ℕ). (segments_of b n - 1) * m) f

  pub inside_last : 4 ≤ n → k ≡ segments_of b n → t ≡ step_of b → (k - 1) * t + 4 ≤ n
  inside_last h e f = subst (λ (m : ℕ). m + 4 ≤ n) (sym (is_last e f)) (starts b n (segments_of b n - 1) h (omega arith))

-- ---- the values there
module _ (b : Basis) (z : List ℤ) (m k0 k1 k2 k3 n j : ℕ) (f : FourFrom true z m k0 k1 k2 k3) where
  pub from_four : four_at b (four k0 k1 k2 k3) n j ≡ four_at b (drop m z) n j
  unfolding four_at
  from_four =
      let same : (r : List ℤ) → whole_sum (four k0 k1 k2 k3) r ≡ whole_sum (drop m z) r =
      λ r. four_there z m k0 k1 k2 k3 (f.is0 ∙ plain m) (f.is1 ∙ plain (m + 1)) (f.is2 ∙ plain (m + 2)) (f.is3 ∙ plain (m + 3)) r in
      alike (same (get_or (whole_of b) 0 [])) (same (get_or (whole_of b) 1 [])) (same (get_or (whole_of b) 2 [])) (same (get_or (whole_of b) 3 []))
    where
      plain : (i : ℕ) → get_or (turned_all true z) i (pos 0) ≡ get_or z i (pos 0)
      plain i = ap (λ (l : List ℤ). get_or l i (pos 0)) (same_all z)

      alike : {x y w v x' y' w' v' : ℤ} → x ≡ x' → y ≡ y' → w ≡ w' → v ≡ v' → value_at x y w v n j ≡ value_at x' y' w' v' n j
      alike p q r s = cc

module _ (b : Basis) (z : List ℤ) where
  first_is : (m : ℕ) → m ≡ 0 → four_at b (drop m z) 1 0 ≡ start_of b z
  unfolding four_at start_of curve_at coefficient
  first_is m e = ap (λ (n : ℕ). four_at b (drop n z) 1 0) (e ∙ none (step_of b))
    where
      none : (t : ℕ) → 0 ≡ 0 * t
      none t = omega arith

  last_is : (m : ℕ) → m ≡ (segments_of b (length z) - 1) * step_of b → four_at b (drop m z) 1 1 ≡ end_of b z
  unfolding four_at end_of curve_at coefficient
  last_is m e = ap (λ (n : ℕ). four_at b (drop n z) 1 1) e

  pub starts_so : (s k0 k1 k2 k3 : ℕ) → FourFrom true z 0 k0 k1 k2 k3 → sub_ℕ s 6000000000000 ≡ four_at b (four k0 k1 k2 k3) 1 0
      → sub_ℕ s 6000000000000 ≡ start_of b z
  starts_so s k0 k1 k2 k3 f e = e ∙ from_four b z 0 k0 k1 k2 k3 1 0 f ∙ first_is 0 refl

  pub ends_so : (e m k0 k1 k2 k3 : ℕ) → m ≡ (segments_of b (length z) - 1) * step_of b → FourFrom true z m k0 k1 k2 k3
      → sub_ℕ e 6000000000000 ≡ four_at b (four k0 k1 k2 k3) 1 1 → sub_ℕ e 6000000000000 ≡ end_of b z
  ends_so e m k0 k1 k2 k3 p f q = q ∙ from_four b z m k0 k1 k2 k3 1 1 f ∙ last_is m p

-- ---- how they compare
module _ (s e : ℕ) {x y : ℤ} (p : sub_ℕ s 6000000000000 ≡ x) (q : sub_ℕ e 6000000000000 ≡ y) where
  is_s : Is x s 6000000000000
  is_s = subst (λ (z : ℤ). Is z s 6000000000000) p (sub_is s 6000000000000)

  is_e : Is y e 6000000000000
  is_e = subst (λ (z : ℤ). Is z e 6000000000000) q (sub_is e 6000000000000)

  lower : s < e → lt_z x y ≡ true
  lower h = true_of (lt_z x y) (lt is_s is_e (omega (arith, h))).lt

  not_lower : e ≤ s → lt_z x y ≡ false
  not_lower h = not_so (lt_z x y) (λ t. let l = of_lt is_s is_e (lt_z_yes t) in absurd (omega (arith, h, l)))

module _ (s e : ℕ) {x y : ℤ} (p : sub_ℕ s 6000000000000 ≡ x) (q : sub_ℕ e 6000000000000 ≡ y) where
  pub upwards : s < e → Rising ≡ way_of x y
  upwards h = rw (lower s e p q h) refl

  pub downwards : e < s → Falling ≡ way_of x y
  downwards h = rw (not_lower s e p q (omega (arith, h)), lower e s q p h) refl

  pub level : e ≤ s → s ≤ e → Level ≡ way_of x y
  level h k = rw (not_lower s e p q h, not_lower e s q p k) refl

-- ---- and what the curve does by that
pub by_way_lem : (x y : ℤ) (b : Basis) (z : List ℤ) {w : Way} {t : Turning} → w ≡ way_of x y → t ≡ by_way w b z → t ≡ by_ends x y b z
by_way_lem x y b z {w} {t} e f = f ∙ ap (λ (v : Way). by_way v b z) e ∙ go (lt_z x y) (lt_z y x)
  where
    go : (c d : Bool) → by_way (cond c Rising (cond d Falling Level)) b z ≡ cond c (turning_of b true z) (cond d (turning_of b false z) Flat)
    go true d = refl
    go false true = refl
    go false false = refl
