-- The call, by the tests as the code makes them: refusals, the knots of a segment, the first segment that falls. Assumes nothing.
use Rattle.turns_back.specs.declared.Turning.{Turning}
use Rattle.turns_back.specs.declared.Turning.TheVariants.{Never, At}
use Rattle.std.specs.Prelude.{Ok, Err, Result}
use mathlib.Core.Path.{◌≡◌, refl, sym, ap, ◌∙◌}
use mathlib.Core.Bool.{Bool, true, false, cond, ◌&&◌}
use mathlib.Core.List.{List, []}
use Prim.Native.Nat.{ℕ, suc, ◌+◌, ◌-◌, ◌*◌, ◌≤◌, ◌<◌}
use native.Mathlib.Omega.{arith}
use native.Mathlib.Numerals.{add-one}
use lib.IntN.{ℤ, pos, sub_ℕ}
use lib.ListN.{length, drop, get_or}
use lib.Seq.{get_or-drop}
use borrow.Author.Tests.{ltb-false, lt-ltb, le-ltb}
use Rattle.error.specs.declared.Refusal.{Refusal}
use Rattle.error.specs.declared.Refusal.TheVariants.{BadKnot}
use Rattle.error.specs.Refusals.{first, Verdict}
use Rattle.error.proofs.First.{stops, goes_on, clear}
use Rattle.basis.specs.declared.Basis.{Basis}
use Rattle.basis.specs.Basis.{step_of, segments_of, whole_of}
use Rattle.checks.specs.Checks.{curve_length}
use Rattle.spline.proofs.Parts.{inside}
use Rattle.spline_exact.specs.Cubic.{at, whole_sum}
use Rattle.turns_back.specs.Curve.{coefficient, cubic_never_falls, starts_no_lower, segment_never_falls, falls_from, first_fall}
use Rattle.whole.specs.Held.{turned_all, first_large, Small}
use Rattle.turns_back.specs.Call.{most, turning_uses, turning, turning_of, answered}
use Rattle.turns_back.specs.Four.{four_never_fall}
use Rattle.turns_back.proofs.Slopes.{four}
use Rattle.whole.proofs.Held.{all_small}

-- ---- refusals
module _ (b : Basis) (z : List ℤ) {l : Verdict} (e : l ≡ first (curve_length b (length z))) where
  pub short : {r : Refusal} → l ≡ Err r → l ≡ first (turning_uses b z)
  short k = stops (turning_uses b z) e k

  pub too_large : l ≡ Ok tt → (i : ℕ) → i ≡ first_large most z → i < length z → Err (BadKnot i) ≡ first (turning_uses b z)
  too_large k i p h =
      goes_on (turning_uses b z) e k (simp (lt-ltb (first_large most z) (length z) (omega (arith, p, h))) (ap (λ (n : ℕ). Err (BadKnot n)) p))

  pub passes : l ≡ Ok tt → length z ≤ first_large most z → Ok tt ≡ first (turning_uses b z)
  passes k h = goes_on (turning_uses b z) e k (simp (le-ltb (first_large most z) (length z) h))

pub record Passing (z : List ℤ) : Type 0 where
  pub many : 4 ≤ length z
  pub few : length z ≤ 4096
  pub small : Small most z

pub passed : (b : Basis) (z : List ℤ) → first (turning_uses b z) ≡ Ok tt → Passing z
passed b z e =
    let c = clear (turning_uses b z) e in
    record {
      many = ltb-false (length z) 4 (c 1);
      few = ltb-false 4096 (length z) (c 3);
      small = all_small most z
          (ltb-false (first_large most z) (length z) (c 4));
    }

-- ---- a segment's own four knots
pub whole_alike : (z y r : List ℤ) → at z 0 ≡ at y 0 → at z 1 ≡ at y 1 → at z 2 ≡ at y 2 → at z 3 ≡ at y 3 → whole_sum z r ≡ whole_sum y r
unfolding whole_sum
whole_alike z y r e0 e1 e2 e3 = rw (e0, e1, e2, e3)

module _ (z : List ℤ) (m k0 k1 k2 k3 : ℕ) (i0 : sub_ℕ k0 most ≡ get_or z m (pos 0)) (i1 : sub_ℕ k1 most ≡ get_or z (m + 1) (pos 0))
    (i2 : sub_ℕ k2 most ≡ get_or z (m + 2) (pos 0)) (i3 : sub_ℕ k3 most ≡ get_or z (m + 3) (pos 0)) where
  pub four_there : (r : List ℤ) → whole_sum (four k0 k1 k2 k3) r ≡ whole_sum (drop m z) r
  four_there r =
      whole_alike (four k0 k1 k2 k3) (drop m z) r (i0 ∙ there 0 (omega arith)) (i1 ∙ there 1 refl) (i2 ∙ there 2 refl) (i3 ∙ there 3 refl)
    where
      there : (i : ℕ) {n : ℕ} → n ≡ m + i → get_or z n (pos 0) ≡ at (drop m z) i
      there i p = ap (λ (n : ℕ). get_or z n (pos 0)) p ∙ sym (get_or-drop m z i (pos 0))

  pub four_at_lem : (b : Basis) {t : Bool} → t ≡ four_never_fall b (four k0 k1 k2 k3) → t ≡ four_never_fall b (drop m z)
  unfolding four_never_fall
  four_at_lem b h = h ∙ alike (four_there (get_or (whole_of b) 0 [])) (four_there (get_or (whole_of b) 1 [])) (four_there (get_or (whole_of b) 2 []))
    where
      alike : {x y w x' y' w' : ℤ} → x ≡ x' → y ≡ y' → w ≡ w' → cubic_never_falls x y w ≡ cubic_never_falls x' y' w'
      alike p q r = cc

module _ (b : Basis) (z : List ℤ) (s : ℕ) where
  pub starts_below : {t : Bool} → t ≡ starts_no_lower b z s → t ≡ false → false ≡ segment_never_falls b z s
  unfolding segment_never_falls
  starts_below e f = simp (sym e ∙ f)

  pub segment_is : {t u : Bool} (m : ℕ) → t ≡ starts_no_lower b z s → t ≡ true → m ≡ s * step_of b → u ≡ four_never_fall b (drop m z)
      → u ≡ segment_never_falls b z s
  unfolding segment_never_falls coefficient four_never_fall
  segment_is m e f g h = h ∙ ap (λ (n : ℕ). four_never_fall b (drop n z)) g
      ∙ sym (ap (λ (t : Bool). t && four_never_fall b (drop (s * step_of b) z)) (sym e ∙ f))

-- ---- the segments, one after the other
-- a segment up to the last has four knots
pub starts : (b : Basis) (n s : ℕ) → 4 ≤ n → s < segments_of b n → s * step_of b + 4 ≤ n
starts b n s h l = let i : s * step_of b ≤ n - 4 = inside s (step_of b) (n - 4) (omega arith) in omega (arith, i)

module _ (b : Basis) (z : List ℤ) (n s : ℕ) where
  pub rising_on : s < n → falls_from b z s (n - s) ≡ first_fall b z → true ≡ segment_never_falls b z s → falls_from b z (s + 1) (n - (s + 1)) ≡ first_fall b z
  unfolding falls_from
  rising_on h v e =
      let k : n - s ≡ suc (n - (s + 1)) = omega arith in
      let d : falls_from b z s (n - s) ≡ falls_from b z (s + 1) (n - (s + 1)) = rw (k, add-one) (simp (sym e)) in
      sym d ∙ v

  pub falls_here : s < n → falls_from b z s (n - s) ≡ first_fall b z → false ≡ segment_never_falls b z s → s ≡ first_fall b z
  unfolding falls_from
  falls_here h v e =
      let k : n - s ≡ suc (n - (s + 1)) = omega arith in
      let d : falls_from b z s (n - s) ≡ s = rw k (simp (sym e)) in
      sym d ∙ v

  pub none_falls : s ≤ n → n ≤ s → falls_from b z s (n - s) ≡ first_fall b z → s ≡ first_fall b z
  unfolding falls_from
  none_falls h l v =
      let k : n - s ≡ 0 = omega arith in
      let d : falls_from b z s (n - s) ≡ s = rw k refl in
      sym d ∙ v

pub from_none : (b : Basis) (z : List ℤ) (n : ℕ) → n ≡ segments_of b (length z) → falls_from b z 0 (n - 0) ≡ first_fall b z
unfolding first_fall
from_none b z n e = let k : n - 0 ≡ segments_of b (length z) = omega (arith, e) in ap (λ (v : ℕ). falls_from b z 0 v) k

-- ---- the answer
module _ (b : Basis) (t : Bool) (z : List ℤ) (s : ℕ) (p : s ≡ first_fall b (turned_all t z)) where
  abbrev k : ℕ
  k = segments_of b (length z)

  pub falls : s < k → At s ≡ turning_of b t z
  unfolding turning_of
  falls l = sym (ap (λ (n : ℕ). turning n k) (sym p) ∙ ap (λ (c : Bool). cond c (At s) Never) (lt-ltb s k l))

  pub climbs : k ≤ s → Never ≡ turning_of b t z
  unfolding turning_of
  climbs l = sym (ap (λ (n : ℕ). turning n k) (sym p) ∙ ap (λ (c : Bool). cond c (At s) Never) (le-ltb s k l))

-- after the verdict
pub refused : {v w : Verdict} {r : Refusal} (t : Turning) → v ≡ w → v ≡ Err r → Err r ≡ answered w t
refused t e h = sym (ap (λ (w : Verdict). answered w t) (sym e ∙ h))

pub given : {v w : Verdict} {r : Turning} (t : Turning) → v ≡ w → v ≡ Ok tt → r ≡ t → Ok r ≡ answered w t
given t e h q = ap Ok q ∙ sym (ap (λ (w : Verdict). answered w t) (sym e ∙ h))
