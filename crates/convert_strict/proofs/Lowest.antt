-- One of the first numbers, and the lowest one from a number on: what the two searches of the definitions say. Assumes nothing.
use mathlib.Core.Path.{◌≡◌, refl, sym, ap, ◌∙◌}
use mathlib.Core.Bool.{Bool, true, false, cond, ◌||◌}
use Prim.Native.Nat.{ℕ, zero, suc, ◌+◌, ◌≤◌, ◌<◌}
use native.Mathlib.Omega.{arith}
use lib.Dec.{ltb}
use borrow.Author.Tests.{ltb-true, ltb-false}
use Rattle.error.proofs.First.{never}
use Rattle.convert_strict.specs.Seams.{any, lowest}

module _ (f : ℕ → Bool) where
  pub any_found : (n : ℕ) → any n f ≡ true → (j : ℕ) × ((j < n) × (f j ≡ true))
  unfolding any
  any_found zero e = never (cc)
  any_found (suc n) e = go (any n f) refl (any_found n) (f n) refl e
    where
      go : (a : Bool) → any n f ≡ a → (any n f ≡ true → (j : ℕ) × ((j < n) × (f j ≡ true))) → (b : Bool) → f n ≡ b → (a || b) ≡ true → (j : ℕ) ×
          ((j < suc n) × (f j ≡ true))
      go true p k b q h = let r = k p in (r.0, (omega (arith, r.1.0), r.1.1))
      go false p k true q h = (n, (omega arith, q))
      go false p k false q h = never (cc)

  pub any_holds : (n j : ℕ) → j < n → f j ≡ true → any n f ≡ true
  unfolding any
  any_holds zero j l e = absurd (omega arith)
  any_holds (suc n) j l e = go (ltb j n) refl (λ m. any_holds n j m e)
    where
      last : (a : Bool) → (a || true) ≡ true
      last true = refl
      last false = refl

      go : (t : Bool) → ltb j n ≡ t → (j < n → any n f ≡ true) → (any n f || f n) ≡ true
      go true p k = ap (λ (b : Bool). b || f n) (k (ltb-true j n p))
      go false p k = let q : n ≡ j = omega (arith, ltb-false j n p) in ap (λ (b : Bool). any n f || b) (ap f q ∙ e) ∙ last (any n f)

  -- i is the lowest number from s on, and below s + n, that f holds of
  abbrev pub Lowest : ℕ → ℕ → ℕ → Type 0
  Lowest n s i = (s ≤ i) × ((i < s + n) × ((f i ≡ true) × ((k : ℕ) → s ≤ k → k < i → f k ≡ false)))

  pub lowest_found : (n s i : ℕ) → 0 < i → lowest n s f ≡ i → Lowest n s i
  unfolding lowest
  lowest_found zero s i b e = absurd (omega arith)
  lowest_found (suc n) s i b e = go (f s) refl e (lowest_found n (suc s) i b)
    where
      others : (k : ℕ) (t : Bool) → ltb s k ≡ t → s ≤ k → k < i → f s ≡ false → ((k : ℕ) → suc s ≤ k → k < i → f k ≡ false) → f k ≡ false
      others k true q l m p x = x k (omega (arith, ltb-true s k q)) m
      others k false q l m p x = let z : k ≡ s = omega (arith, ltb-false s k q) in ap f z ∙ p

      go : (t : Bool) → f s ≡ t → cond t s (lowest n (suc s) f) ≡ i → (lowest n (suc s) f ≡ i → Lowest n (suc s) i) → Lowest (suc n) s i
      go true p h r = (omega arith, (omega arith, (ap f (sym h) ∙ p, λ k l m. absurd (omega arith))))
      go false p h r =
          let x = r h in
          (omega (arith, x.0), (omega (arith, x.1.0), (x.1.1.0, λ k l m. others k (ltb s k) refl l m p x.1.1.1)))

  pub lowest_is : (n s i : ℕ) → Lowest n s i → lowest n s f ≡ i
  unfolding lowest
  lowest_is zero s i x = let a = x.0 in let b = x.1.0 in absurd (omega arith)
  lowest_is (suc n) s i x = go (ltb s i) refl (lowest_is n (suc s) i)
    where
      go : (t : Bool) → ltb s i ≡ t → (Lowest n (suc s) i → lowest n (suc s) f ≡ i) → cond (f s) s (lowest n (suc s) f) ≡ i
      go true p r =
          let l : s < i = ltb-true s i p in
          let b = x.1.0 in
          ap (λ (t : Bool). cond t s (lowest n (suc s) f)) (x.1.1.1 s (omega arith) l) ∙ r
          (omega arith, (omega arith, (x.1.1.0, λ k y z. x.1.1.1 k (omega arith) z)))
      go false p r = let a = x.0 in let q : s ≡ i = omega (arith, ltb-false s i p) in ap (λ (t : Bool). cond t s (lowest n (suc s) f))
          (ap f q ∙ x.1.1.0) ∙ q

  pub lowest_none : (n s : ℕ) → 0 < s → lowest n s f ≡ 0 → (k : ℕ) → s ≤ k → k < s + n → f k ≡ false
  unfolding lowest
  lowest_none zero s a e k l m = absurd (omega arith)
  lowest_none (suc n) s a e k l m = go (f s) refl e (ltb s k) refl (λ h x. lowest_none n (suc s) (omega arith) h k x (omega arith))
    where
      go : (t : Bool) → f s ≡ t → cond t s (lowest n (suc s) f) ≡ 0 → (u : Bool) → ltb s k ≡ u → (lowest n (suc s) f ≡ 0 → suc s ≤ k → f k ≡ false) →
          f k ≡ false
      go true p h u q r = absurd (omega arith)
      go false p h true q r = r h (omega (arith, ltb-true s k q))
      go false p h false q r = let z : k ≡ s = omega (arith, ltb-false s k q) in ap f z ∙ p
