-- The refusals of a mix, by the tests as the code makes them, and what a passed verdict says. Assumes nothing.
use Rattle.std.specs.Prelude.{Ok, Err}
use mathlib.Core.Path.{◌≡◌, refl, sym, ap, ◌∙◌, subst}
use mathlib.Core.Bool.{Bool, true, false, cond}
use mathlib.Core.List.{List, [], ◌∷◌}
use Prim.Native.Nat.{ℕ, zero, suc, ◌≤◌, ◌<◌}
use native.Mathlib.Omega.{arith}
use borrow.Author.Tests.{ltb-false, leb-true, leb-false, lt-ltb, le-ltb, le-leb, lt-leb}
use lib.Dec.{ltb}
use lib.Signed.{le_z}
use lib.IntN.{ℤ, pos, negsuc, nat_abs}
use lib.ListN.{length}
use mir.Syntax.{w64}
use mir.Val.{SFits}
use mir.Facts.{to_z-of_z}
use Rattle.error.specs.declared.Refusal.TheVariants.{TooFew, BadPattern, BadStep, BadKnot}
use Rattle.error.specs.declared.Refusal.{Refusal}
use Rattle.error.specs.Refusals.{first, Verdict}
use Rattle.std.proofs.Common.{Option, MatchOption, HoldsAt, add-one}
use Rattle.std.specs.List.{AllWithin}
use Rattle.error.specs.Found.{Found}
use Rattle.error.proofs.Found.{found_first}
use Rattle.error.proofs.First.{never, clear}
use Rattle.valve.specs.Mix.{held, knot_of, small, first_large, mix_uses, mixture, mix_of, mixture_of}
use Rattle.valve.specs.Contract.{SmallKnots}

small_le : (z : ℤ) → small z ≡ true → nat_abs z ≤ 1000000
unfolding small
small_le z e = leb-true (nat_abs z) 1000000 e

-- by two comparisons of what a local holds
high : (k : ℤ) → le_z (negsuc 999999) k ≡ true → le_z k (pos 1000000) ≡ small k
unfolding small
high (pos n) h = refl
high (negsuc n) h = let l = leb-true n 999999 h in sym (le-leb (suc n) 1000000 (omega (arith, l)))

low : (k : ℤ) → le_z (negsuc 999999) k ≡ false → false ≡ small k
unfolding small
low (pos n) h = never (cc)
low (negsuc n) h = let l = leb-false n 999999 h in sym (lt-leb (suc n) 1000000 (omega (arith, l)))

module _ (k : ℤ) (f : SFits w64 k) where
  pub small_high : le_z (negsuc 999999) (held k) ≡ true → le_z (held k) (pos 1000000) ≡ small k
  small_high h = ap (λ (z : ℤ). le_z z (pos 1000000)) (to_z-of_z f) ∙ high k (ap (λ (z : ℤ). le_z (negsuc 999999) z) (sym (to_z-of_z f)) ∙ h)

  pub small_low : le_z (negsuc 999999) (held k) ≡ false → false ≡ small k
  small_low h = low k (ap (λ (z : ℤ). le_z (negsuc 999999) z) (sym (to_z-of_z f)) ∙ h)

-- the first that is too large, in a list of any length
count : List ℤ → ℕ
count [] = 0
count (z ∷ zs) = cond (small (held z)) (suc (count zs)) 0

count_is : (ks : List ℤ) → length ks ≡ 4 → count ks ≡ first_large ks
unfolding first_large count small
count_is (a ∷ (b ∷ (c ∷ (d ∷ [])))) h = go (small (held a)) (small (held b)) (small (held c)) (small (held d))
  where
    go : (p q r s : Bool) → cond p (suc (cond q (suc (cond r (suc (cond s 1 0)) 0)) 0)) 0 ≡ cond p (cond q (cond r (cond s 4 3) 2) 1) 0
    go true true true true = refl
    go true true true false = refl
    go true true false s = refl
    go true false r s = refl
    go false q r s = refl
count_is [] h = absurd (omega arith)
count_is (a ∷ []) h = absurd (omega arith)
count_is (a ∷ (b ∷ [])) h = absurd (omega arith)
count_is (a ∷ (b ∷ (c ∷ []))) h = absurd (omega arith)
count_is (a ∷ (b ∷ (c ∷ (d ∷ (e ∷ r))))) h = absurd (omega arith)

-- what `position` finds among four
pub large_found : (ks : List ℤ) (r : Option ℕ) → length ks ≡ 4
    → MatchOption r (AllWithin (λ z. small (held z) ≡ true) ks 0 (length ks))
    (λ i. (i < length ks) × HoldsAt (λ z. small (held z) ≡ false) ks i × AllWithin (λ z. small (held z) ≡ true) ks 0 i)
    → Found 4 (first_large ks) r
unfolding count
large_found ks r e h =
    let f : Found (length ks) (count ks) r =
    found_first count (λ z. small (held z) ≡ false) (λ z. small (held z) ≡ true) refl (λ z zs q. simp q) (λ z zs q. rw q (sym (add-one _))) ks r h in
    subst (λ n. Found n (first_large ks) r) e (subst (λ i. Found (length ks) i r) (count_is ks e) f)

-- the verdict, by the tests that were made
module _ (j : ℕ) (ks : List ℤ) where
  pub too_few : length ks < 4 → Err TooFew ≡ first (mix_uses j ks)
  too_few a = simp (lt-ltb (length ks) 4 a)

  pub too_many : 4 ≤ length ks → 4 < length ks → Err BadPattern ≡ first (mix_uses j ks)
  too_many a b = simp (le-ltb (length ks) 4 a, lt-ltb 4 (length ks) b)

  pub too_far : 4 ≤ length ks → length ks ≤ 4 → 256 < j → Err BadStep ≡ first (mix_uses j ks)
  too_far a b c = simp (le-ltb (length ks) 4 a, le-ltb 4 (length ks) b, lt-ltb 256 j c)

  pub too_large : 4 ≤ length ks → length ks ≤ 4 → j ≤ 256 → (i : ℕ) → i ≡ first_large ks → i < 4 → Err (BadKnot i) ≡ first (mix_uses j ks)
  too_large a b c i e d =
      let l : ltb (first_large ks) 4 ≡ true = ap (λ (n : ℕ). ltb n 4) (sym e) ∙ lt-ltb i 4 d in
      simp (le-ltb (length ks) 4 a, le-ltb 4 (length ks) b, le-ltb 256 j c, l) (ap (λ (n : ℕ). Err (BadKnot n)) e)

  pub passes : 4 ≤ length ks → length ks ≤ 4 → j ≤ 256 → (i : ℕ) → i ≡ first_large ks → 4 ≤ i → Ok tt ≡ first (mix_uses j ks)
  passes a b c i e d =
      let l : ltb (first_large ks) 4 ≡ false = ap (λ (n : ℕ). ltb n 4) (sym e) ∙ le-ltb i 4 d in
      simp (le-ltb (length ks) 4 a, le-ltb 4 (length ks) b, le-ltb 256 j c, l)

-- none of the four is too large
all_small : (ks : List ℤ) → 4 ≤ first_large ks → SmallKnots ks
unfolding first_large
all_small ks h = go (small (knot_of ks 0)) (small (knot_of ks 1)) (small (knot_of ks 2)) (small (knot_of ks 3)) refl refl refl refl h
  where
    at : nat_abs (knot_of ks 0) ≤ 1000000 → nat_abs (knot_of ks 1) ≤ 1000000 → nat_abs (knot_of ks 2) ≤ 1000000 → nat_abs (knot_of ks 3) ≤ 1000000
        → (i : ℕ) → i < 4
        → nat_abs (knot_of ks i) ≤ 1000000
    at p q r s zero l = p
    at p q r s (suc zero) l = q
    at p q r s (suc (suc zero)) l = r
    at p q r s (suc (suc (suc zero))) l = s
    at p q r s (suc (suc (suc (suc i)))) l = absurd (omega arith)

    go : (a b c d : Bool) → small (knot_of ks 0) ≡ a → small (knot_of ks 1) ≡ b → small (knot_of ks 2) ≡ c → small (knot_of ks 3) ≡ d
        → 4 ≤ cond a (cond b (cond c (cond d 4 3) 2) 1) 0 → SmallKnots ks
    go true true true true p q r s h =
        record { each = at (small_le (knot_of ks 0) p) (small_le (knot_of ks 1) q) (small_le (knot_of ks 2) r) (small_le (knot_of ks 3) s) }
    go true true true false p q r s h = absurd (omega arith)
    go true true false d p q r s h = absurd (omega arith)
    go true false c d p q r s h = absurd (omega arith)
    go false b c d p q r s h = absurd (omega arith)

-- what a passed verdict says
pub record Passing (j : ℕ) (ks : List ℤ) : Type 0 where
  pub many : 4 ≤ length ks
  pub step : j ≤ 256
  pub knots : SmallKnots ks

pub passed : (j : ℕ) (ks : List ℤ) → first (mix_uses j ks) ≡ Ok tt → Passing j ks
passed j ks e =
    let c = clear (mix_uses j ks) e in
    record {
      many = ltb-false (length ks) 4 (c 1);
      step = ltb-false 256 j (c 16);
      knots = all_small ks (ltb-false (first_large ks) 4 (c 4));
    }

-- a sum is answered only where the verdict is passed, and then it is the mix
pub told : (v : Verdict) {z s : ℤ} → mixture v z ≡ Ok s → (v ≡ Ok tt) × (z ≡ s)
told (Ok tt) e = (refl, cc)
told (Err r) e = never (cc)

-- the call's answer, by the verdict
module _ (j : ℕ) (ks : List ℤ) where
  pub is_mixed : first (mix_uses j ks) ≡ Ok tt → mixture_of j ks ≡ Ok (mix_of ks j)
  unfolding mixture_of
  is_mixed e = rw e

  pub is_refused : (r : Refusal) → first (mix_uses j ks) ≡ Err r → mixture_of j ks ≡ Err r
  unfolding mixture_of
  is_refused r e = rw e
