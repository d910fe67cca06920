-- The whole curve: where every segment passes the test, of two places the later one is never lower. Assumes nothing.
use mathlib.Core.Path.{◌≡◌, sym, subst}
use mathlib.Core.Logic.{◌⊎◌, ⊎_elim}
use mathlib.Core.List.{List}
use Prim.Native.Nat.{ℕ, zero, suc, ◌+◌, ◌*◌, ◌≤◌, ◌<◌}
use native.Mathlib.Nat.{mul-le-mul_right, eq-or-lt_of_le}
use native.Mathlib.Omega.{arith}
use lib.IntN.{ℤ, pos, ◌*ℤ◌}
use lib.Dec.{T}
use lib.Signed.{◌≤ℤ◌, le_z_yes}
use lib.Ieee.Fits.{and_l, and_r}
use Rattle.basis.specs.declared.Basis.{Basis}
use Rattle.turns_back.specs.Curve.{value_at, cubic_never_falls, coefficient, curve_at, starts_no_lower, segment_never_falls}
use Rattle.whole.proofs.Differences.{up, down, Is, itself, times, le, of_le}
use Rattle.turns_back.proofs.Segment.{value_is, rises}

-- ---- order of whole numbers, times numbers that are not negative
pub trans : {x y z : ℤ} → x ≤ℤ y → y ≤ℤ z → x ≤ℤ z
trans {x} {y} {z} h k =
    let a = of_le (itself x) (itself y) h in
    let b = of_le (itself y) (itself z) k in
    le (itself x) (itself z) (omega (arith, a, b))

-- ---- finer parts
abbrev weigh : ℕ → ℕ → ℕ → ℕ → ℕ → ℕ → ℕ
weigh a b c d n j = a * (j * j * j) + b * (n * j * j) + c * (n * n * j) + d * (n * n * n)

weigh_finer : (a b c d n j t : ℕ) → weigh a b c d (n * t) (j * t) ≡ weigh a b c d n j * (t * t * t)
weigh_finer a b c d n j t = omega arith

module _ (w0 w1 w2 w3 : ℤ) where
  finer : (n j t : ℕ)
      → Is (value_at w0 w1 w2 w3 (n * t) (j * t)) (weigh (up w0) (up w1) (up w2) (up w3) n j * (t * t * t))
      (weigh (down w0) (down w1) (down w2) (down w3) n j * (t * t * t))
  finer n j t =
      let v = value_is w0 w1 w2 w3 (n * t) (j * t) in
      subst (λ (q : ℕ). Is (value_at w0 w1 w2 w3 (n * t) (j * t)) (weigh (up w0) (up w1) (up w2) (up w3) n j * (t * t * t)) q)
      (weigh_finer (down w0) (down w1) (down w2) (down w3) n j t)
      (subst (λ (q : ℕ). Is (value_at w0 w1 w2 w3 (n * t) (j * t)) q (weigh (down w0) (down w1) (down w2) (down w3) (n * t) (j * t)))
      (weigh_finer (up w0) (up w1) (up w2) (up w3) n j t) v)

  -- two places of one cubic, in whatever parts
  within : T (cubic_never_falls w0 w1 w2) → (n j n' j' : ℕ) → j' ≤ n' → j * n' ≤ j' * n
      → (value_at w0 w1 w2 w3 n j *ℤ pos (n' * n' * n')) ≤ℤ (value_at w0 w1 w2 w3 n' j' *ℤ pos (n * n * n))
  within t n j n' j' h l =
      let e : n' * n ≡ n * n' = omega arith in
      let m : j' * n ≤ n * n' = omega (arith, mul-le-mul_right n h) in
      let r = rises w0 w1 w2 w3 t (n * n') (j * n') (j' * n) l m in
      let f : Is (value_at w0 w1 w2 w3 (n * n') (j' * n)) (weigh (up w0) (up w1) (up w2) (up w3) n' j' * (n * n * n))
      (weigh (down w0) (down w1) (down w2) (down w3) n' j' * (n * n * n)) =
      subst (λ (q : ℕ). Is (value_at w0 w1 w2 w3 q (j' * n)) (weigh (up w0) (up w1) (up w2) (up w3) n' j' * (n * n * n))
      (weigh (down w0) (down w1) (down w2) (down w3) n' j' * (n * n * n))) e (finer n' j' n) in
      le (times (n' * n' * n') (value_is w0 w1 w2 w3 n j)) (times (n * n * n) (value_is w0 w1 w2 w3 n' j')) (of_le (finer n j n') f r)

-- ---- from one segment to a later one
across : (x y y' z : ℤ) (s t : ℕ) → (x *ℤ pos 1) ≤ℤ (y *ℤ pos s) → y ≤ℤ y' → (y' *ℤ pos t) ≤ℤ (z *ℤ pos 1) → (x *ℤ pos t) ≤ℤ (z *ℤ pos s)
across x y y' z s t h k l =
    le (times t (itself x)) (times s (itself z))
    (sum (up x) (down x) (up y) (down y) (up y') (down y') (up z) (down z)
    (mul-le-mul_right t (of_le (times 1 (itself x)) (times s (itself y)) h))
    (mul-le-mul_right (s * t) (of_le (itself y) (itself y') k))
    (mul-le-mul_right s (of_le (times t (itself y')) (times 1 (itself z)) l)))
  where
    sum : (a b c d c' d' e f : ℕ) → (a * 1 + d * s) * t ≤ (c * s + b * 1) * t → (c + d') * (s * t) ≤ (c' + d) * (s * t)
        → (c' * t + f * 1) * s ≤ (e * 1 + d' * t) * s
        → a * t + f * s ≤ e * s + b * t
    sum a b c d c' d' e f h k l = omega arith

-- of two places the first is before the second, or where it is: segment, and how far in it, j of n parts
pub record NotAfter (s n j s' n' j' : ℕ) : Type 0 where
  pub first : j ≤ n
  pub second : j' ≤ n'
  pub order : (s < s') ⊎ ((s ≡ s') × (j * n' ≤ j' * n))

module _ (b : Basis) (z : List ℤ) (k : ℕ) (each : (s : ℕ) → s < k → T (segment_never_falls b z s)) where
  slope_of : (s : ℕ) → s < k → T (cubic_never_falls (coefficient b z s 0) (coefficient b z s 1) (coefficient b z s 2))
  unfolding segment_never_falls
  slope_of s h = and_r (starts_no_lower b z s) (cubic_never_falls (coefficient b z s 0) (coefficient b z s 1) (coefficient b z s 2)) (each s h)

  seam : (s : ℕ) → suc s < k → curve_at b z s 1 1 ≤ℤ curve_at b z (suc s) 1 0
  unfolding segment_never_falls starts_no_lower
  seam s h =
      le_z_yes (and_l (starts_no_lower b z (suc s)) (cubic_never_falls (coefficient b z (suc s) 0) (coefficient b z (suc s) 1) (coefficient b z (suc s) 2))
      (each (suc s) h))

  one : (s : ℕ) → s < k → (n j n' j' : ℕ) → j' ≤ n' → j * n' ≤ j' * n
      → (curve_at b z s n j *ℤ pos (n' * n' * n')) ≤ℤ (curve_at b z s n' j' *ℤ pos (n * n * n))
  unfolding curve_at
  one s h = within (coefficient b z s 0) (coefficient b z s 1) (coefficient b z s 2) (coefficient b z s 3) (slope_of s h)

  -- from the start to the end
  through : (s : ℕ) → s < k → curve_at b z s 1 0 ≤ℤ curve_at b z s 1 1
  unfolding curve_at
  through s h =
      rises (coefficient b z s 0) (coefficient b z s 1) (coefficient b z s 2) (coefficient b z s 3) (slope_of s h) 1 0 1 (omega arith) (omega arith)

  later : (s s' : ℕ) → s < s' → s' < k → curve_at b z s 1 1 ≤ℤ curve_at b z s' 1 0
  later s zero h l = absurd (omega arith)
  later s (suc r) h l =
      ⊎_elim (λ (e : suc s ≡ suc r). let q : s ≡ r = omega arith in subst (λ (v : ℕ). curve_at b z v 1 1 ≤ℤ curve_at b z (suc r) 1 0) (sym q) (seam r l))
      (λ (p : suc s < suc r). trans (later s r (omega arith) (omega arith)) (trans (through r (omega arith)) (seam r l))) (eq-or-lt_of_le h)

  -- of two places the later one is never lower: the values, each multiplied by both numbers of parts, cubed
  pub never_lower : (s n j s' n' j' : ℕ) → s' < k → NotAfter s n j s' n' j'
      → (curve_at b z s n j *ℤ pos (n' * n' * n')) ≤ℤ (curve_at b z s' n' j' *ℤ pos (n * n * n))
  never_lower s n j s' n' j' l p =
      ⊎_elim
      (λ (h : s < s').
      across (curve_at b z s n j) (curve_at b z s 1 1) (curve_at b z s' 1 0) (curve_at b z s' n' j') (n * n * n) (n' * n' * n')
      (one s (omega arith) n j 1 1 (omega arith) (omega (arith, p.first))) (later s s' h l)
      (one s' l 1 0 n' j' p.second (omega arith)))
      (λ (h : (s ≡ s') × (j * n' ≤ j' * n)).
      subst (λ (v : ℕ). (curve_at b z v n j *ℤ pos (n' * n' * n')) ≤ℤ (curve_at b z s' n' j' *ℤ pos (n * n * n))) (sym h.0)
      (one s' l n j n' j' p.second h.1))
      p.order
