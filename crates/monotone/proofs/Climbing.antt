-- A segment between two rows that do not fall never falls. Assumes nothing.
use mathlib.Core.Path.{◌≡◌, refl, sym, ◌∙◌, subst}
use mathlib.Core.Logic.{⊎_elim}
use mathlib.Core.Bool.{Bool, true}
use mathlib.Core.List.{List, []}
use Prim.Native.Nat.{ℕ, suc, min, ◌+◌, ◌-◌, ◌*◌, ◌≤◌, ◌<◌}
use native.Mathlib.Nat.{mul-le-mul}
use native.Mathlib.Omega.{arith}
use lib.IntN.{ℤ, pos, negsuc, sub_ℕ, ◌-ℤ◌}
use lib.Dec.{T, le→leb}
use lib.ListN.{length, get_or}
use lib.Signed.{non_neg, ◌≤ℤ◌}
use lib.Ieee.Fits.{and_i}
use Rattle.basis.specs.declared.Basis.TheVariants.{Hermite}
use Rattle.basis.specs.Basis.{whole_of}
use Rattle.spline_exact.specs.Cubic.{at, whole_sum}
use Rattle.turns_back.specs.Curve.{never_falls, cubic_never_falls, coefficient, starts_no_lower, segment_never_falls}
use Rattle.whole.proofs.Differences.{up, down, Is, itself, is_sub, other, plus, times, of_le}
use Rattle.turns_back.proofs.Simpson.{either}
use Rattle.turns_back.proofs.Slopes.{none_falls, middle_falls}
use Rattle.turns_back.proofs.Seams.{row_is, hermite_starts}
use Rattle.monotone.specs.Slope.{step_at, limited, between, slope_at}
use Rattle.monotone.specs.Table.{table_of}
use Rattle.monotone.proofs.Limits.{limited_first, limited_second}
use Rattle.whole.proofs.Differences.{less}
use Rattle.monotone.proofs.Through.{four, four_0, four_1, four_2, four_3}

-- ---- the heart: two slopes from 0 to three times the step between them
square : (a b d : ℕ) → a ≤ 3 * d → b ≤ 3 * d → 3 * d < a + b → (a + b - 3 * d) * (a + b - 3 * d) ≤ (a - 0) * (b - 0)
square a b d h k l =
    let p : a + b - 3 * d ≤ a - 0 = omega arith in
    let q : a + b - 3 * d ≤ b - 0 = omega arith in
    mul-le-mul p q

holds : {t : Bool} → true ≡ t → T t
holds e = subst (λ (t : Bool). T t) e tt

pub limited_never_falls : (a b d : ℕ) → a ≤ 3 * d → b ≤ 3 * d → T (never_falls (sub_ℕ a 0) (sub_ℕ (3 * d) (a + b)) (sub_ℕ b 0))
limited_never_falls a b d h k =
    ⊎_elim (λ (l : a + b ≤ 3 * d). holds (none_falls a 0 (3 * d) (a + b) b 0 (omega arith) (omega arith) l))
    (λ (l : 3 * d < a + b).
    subst (λ (t : Bool). T t) (middle_falls a 0 (3 * d) (a + b) b 0 (omega arith) (omega arith) l)
    (le→leb ((a + b - 3 * d) * (a + b - 3 * d)) ((a - 0) * (b - 0)) (square a b d h k l)))
    (either (a + b) (3 * d))

-- ---- Hermite's three slopes over x, a, y, b
module _ (v : List ℤ) (x y : ℤ) (a b d : ℕ) (u0 : at v 0 ≡ x) (u1 : at v 1 ≡ pos a) (u2 : at v 2 ≡ y) (u3 : at v 3 ≡ pos b)
    (e : up y + down x ≡ d + down y + up x) where
  moved : {w c : ℤ} → w ≡ c → Is w (up c) (down c)
  moved {w} {c} q = subst (λ (z : ℤ). Is z (up c) (down c)) (sym q) (itself c)

  abbrev r : ℕ → List ℤ
  r i = get_or (whole_of Hermite) i []

  pub hermite_slopes : never_falls (sub_ℕ a 0) (sub_ℕ (3 * d) (a + b)) (sub_ℕ b 0) ≡ cubic_never_falls (whole_sum v (r 0)) (whole_sum v (r 1))
      (whole_sum v (r 2))
  unfolding cubic_never_falls
  hermite_slopes =
      let r0 = row_is (up x) (down x) a 0 (up y) (down y) b 0 v (moved u0) (moved u1) (moved u2) (moved u3) (r 0) in
      let r1 = row_is (up x) (down x) a 0 (up y) (down y) b 0 v (moved u0) (moved u1) (moved u2) (moved u3) (r 1) in
      let r2 = row_is (up x) (down x) a 0 (up y) (down y) b 0 v (moved u0) (moved u1) (moved u2) (moved u3) (r 2) in
      let s0 = is_sub (other a 0 r2 (omega arith)) in
      let s1 = is_sub (other (3 * d) (a + b) (plus r1 r2) (omega (arith, e))) in
      let s2 = is_sub (other b 0 (plus (plus (times 3 r0) (times 2 r1)) r2) (omega arith)) in
      same s0 s1 s2
    where
      same : {x y z x' y' z' : ℤ} → x ≡ x' → y ≡ y' → z ≡ z' → never_falls x y z ≡ never_falls x' y' z'
      same p q r = cc

-- ---- steps that are not negative
pub step_up : (x y : ℤ) → x ≤ℤ y → T (non_neg (y -ℤ x))
step_up x y h = not_negative (less (itself y) (itself x)) (omega (arith, of_le (itself x) (itself y) h))
  where
    not_negative : {z : ℤ} {p n : ℕ} → Is z p n → n ≤ p → T (non_neg z)
    not_negative {z = pos a} u h = tt
    not_negative {z = negsuc a} {p} {n} u h = absurd (let e = u.is in omega (arith, e))

-- a slope from 0 to three times a step
pub record UpTo (m : ℤ) (d : ℕ) : Type 0 where
  pub size : ℕ
  pub is : m ≡ pos size
  pub limit : size ≤ 3 * d

pub between_second : (a b : ℤ) → T (non_neg b) → UpTo (between a b) (up b)
unfolding between
between_second (pos a) (pos b) t = record { size = limited a b; is = refl; limit = limited_second a b }
between_second (negsuc a) (pos b) t = record { size = 0; is = refl; limit = omega arith }
between_second a (negsuc b) t = absurd t

pub between_first : (a b : ℤ) → T (non_neg a) → UpTo (between a b) (up a)
unfolding between
between_first (pos a) (pos b) t = record { size = limited a b; is = refl; limit = limited_first a b }
between_first (pos a) (negsuc b) t = record { size = 0; is = refl; limit = omega arith }
between_first (negsuc a) b t = absurd t

-- ---- a segment between two rows that do not fall, whatever the others do
module _ (z : List ℤ) (s : ℕ) (h : suc s < length z) (o : get_or z s (pos 0) ≤ℤ get_or z (suc s) (pos 0)) where
  rising : T (non_neg (step_at z s))
  rising = step_up (get_or z s (pos 0)) (get_or z (suc s) (pos 0)) o

  abbrev size : ℕ
  size = up (step_at z s)

  -- the slopes at its ends, the one limited by its step as the second, the other as the first
  pub first_end : UpTo (slope_at z s) size
  unfolding slope_at
  first_end =
      subst (λ (m : ℕ). UpTo (between (step_at z (s - 1)) (step_at z m)) size) (inside s (length z) h) (between_second (step_at z (s - 1)) (step_at z s) rising)
    where
      inside : (s n : ℕ) → suc s < n → s ≡ min s (n - 2)
      inside s n h = omega arith

  pub second_end : UpTo (slope_at z (suc s)) size
  unfolding slope_at
  second_end =
      subst (λ (m : ℕ). UpTo (between (step_at z m) (step_at z (min (suc s) (length z - 2)))) size) (back s)
      (between_first (step_at z s) (step_at z (min (suc s) (length z - 2))) rising)
    where
      back : (s : ℕ) → s ≡ suc s - 1
      back s = omega arith

  step_parts : up (get_or z (suc s) (pos 0)) + down (get_or z s (pos 0)) ≡ size + down (get_or z (suc s) (pos 0)) + up (get_or z s (pos 0))
  step_parts =
      let l = (less (itself (get_or z (suc s) (pos 0))) (itself (get_or z s (pos 0)))).is in
      let q = flat (step_at z s) rising in
      omega (arith, l, q)
    where
      flat : (z : ℤ) → T (non_neg z) → down z ≡ 0
      flat (pos n) t = refl
      flat (negsuc n) t = absurd t

  pub climbs : T (segment_never_falls Hermite (table_of z) s)
  unfolding segment_never_falls coefficient
  climbs =
      let v = four z s h in
      let a = first_end in
      let b = second_end in
      and_i (starts_no_lower Hermite (table_of z) s)
      (cubic_never_falls (whole_sum v (get_or (whole_of Hermite) 0 [])) (whole_sum v (get_or (whole_of Hermite) 1 [])) (whole_sum v (get_or (whole_of
      Hermite) 2 [])))
      (holds (hermite_starts (table_of z) s))
      (subst (λ (t : Bool). T t)
      (hermite_slopes v (get_or z s (pos 0)) (get_or z (suc s) (pos 0)) a.size b.size size (four_0 z s h) (four_1 z s h ∙ a.is) (four_2 z s h)
      (four_3 z s h ∙ b.is)
      step_parts)
      (limited_never_falls a.size b.size size a.limit b.limit))
