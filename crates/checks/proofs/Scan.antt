-- The scan of all knots with a flag. Assumes nothing.
use mathlib.Core.Path.{◌≡◌, refl, sym, ap, ◌∙◌}
use mathlib.Core.Bool.{Bool, true, false, cond, ◌&&◌, and_assoc, and-true}
use mathlib.Core.List.{List, [], ◌∷◌}
use Prim.Native.Nat.{ℕ, zero, suc, ◌+◌, ◌≤◌, ◌<◌}
use native.Mathlib.Omega.{arith}
use native.Mathlib.Numerals.{add-one}
use lib.ListN.{length, drop, get_or, drop_of_length-le}
use lib.Seq.{drop-cons}
use lib.Ieee.{Float, nan}
use Rattle.std.proofs.Common.{Option, Some, None, MatchOption, HoldsAt}
use Rattle.std.proofs.lemmas.List.{get_or_default}
use Rattle.std.specs.List.{AllWithin}
use Rattle.error.specs.Found.{Found}
use Rattle.error.proofs.Found.{found_first}
use Rattle.error.proofs.First.{never}
use Rattle.checks.specs.Checks.{in_range, all_in_range, first_bad}

-- one more knot
pub scanned : (ks : List Float) (i : ℕ) (good t : Bool) → i < length ks → (good && all_in_range (drop i ks)) ≡ all_in_range ks → t ≡ in_range (get_or ks i nan)
    → ((good && t) && all_in_range (drop (i + 1) ks)) ≡ all_in_range ks
unfolding all_in_range
scanned ks i good t h v e =
    let d : all_in_range (drop i ks) ≡ (in_range (get_or ks i nan) && all_in_range (drop (i + 1) ks)) = rw (add-one, drop-cons ks i nan) in
    and_assoc good t (all_in_range (drop (i + 1) ks))
    ∙ (ap (λ (z : Bool). good && (z && all_in_range (drop (i + 1) ks))) e ∙ (ap (λ (z : Bool). good && z) (sym d) ∙ v))

-- no knot is left
pub scanned_all : (ks : List Float) (i : ℕ) (good : Bool) → length ks ≤ i → (good && all_in_range (drop i ks)) ≡ all_in_range ks → good ≡ all_in_range ks
unfolding all_in_range
scanned_all ks i good h v = sym (and-true good) ∙ (rw (drop_of_length-le ks) at v)

-- ---- the first that is out of range
pub bad_found : (ks : List Float) (r : Option ℕ)
    → MatchOption r (AllWithin (λ x. in_range x ≡ true) ks 0 (length ks))
    (λ i. (i < length ks) × HoldsAt (λ x. in_range x ≡ false) ks i × AllWithin (λ x. in_range x ≡ true) ks 0 i)
    → Found (length ks) (first_bad ks) r
unfolding first_bad
bad_found ks r h = found_first first_bad (λ x. in_range x ≡ false) (λ x. in_range x ≡ true) refl (λ x xs e. simp e)
    (λ x xs e. rw e (sym (add-one _))) ks r h

-- the same, where the places are told one by one
pub bad_among : (ks : List Float) (r : Option ℕ)
    → MatchOption r ((k : ℕ) → 0 ≤ k → k < length ks → in_range (get_or ks k nan) ≡ true)
    (λ i. (0 ≤ i) × (i < length ks) × (in_range (get_or ks i nan) ≡ false) × ((k : ℕ) → 0 ≤ k → k < i → in_range (get_or ks k nan) ≡ true))
    → Found (length ks) (first_bad ks) r
bad_among ks None h = bad_found ks None (λ k d l g. rw (get_or_default ks k d nan g) (h k l g))
bad_among ks (Some i) h =
    bad_found ks (Some i)
    (h.1, (λ d. rw (get_or_default ks i d nan h.1) h.2), (λ k d l g. rw (get_or_default ks k d nan (omega (arith, g, h.1))) (h.3 k l g)))

-- where some knot is out of range: the number is that of a knot that is, and each before it is in range
pub first_bad_is : (ks : List Float) → all_in_range ks ≡ false
    → (first_bad ks < length ks) × (in_range (get_or ks (first_bad ks) nan) ≡ false) × ((i : ℕ) → i < first_bad ks → in_range (get_or ks i nan) ≡ true)
unfolding first_bad all_in_range
first_bad_is [] e = never (cc)
first_bad_is (x ∷ xs) e = go (in_range x) refl e (first_bad_is xs)
  where
    go : (t : Bool) → in_range x ≡ t → (t && all_in_range xs) ≡ false
        → (all_in_range xs ≡ false
        → (first_bad xs < length xs) × (in_range (get_or xs (first_bad xs) nan) ≡ false) × ((i : ℕ) → i < first_bad xs → in_range (get_or xs i nan) ≡ true))
        → (cond t (suc (first_bad xs)) 0 < length (x ∷ xs)) × (in_range (get_or (x ∷ xs) (cond t (suc (first_bad xs)) 0) nan) ≡ false)
        × ((i : ℕ) → i < cond t (suc (first_bad xs)) 0 → in_range (get_or (x ∷ xs) i nan) ≡ true)
    go true p h k = let r = k h in (omega (arith, r.0), r.1, before p r.2)
      where
        before : in_range x ≡ true → ((i : ℕ) → i < first_bad xs → in_range (get_or xs i nan) ≡ true) → (i : ℕ) → i < suc (first_bad xs)
            → in_range (get_or (x ∷ xs) i nan) ≡ true
        before p f zero l = p
        before p f (suc i) l = f i (omega arith)
    go false p h k = (omega arith, p, λ i l. absurd (omega arith))
