-- The scan of all parameters for a NaN, with a flag, and for the first. Assumes nothing.
use Rattle.std.proofs.Common.{◌≡◌, ℕ, zero, suc, ◌+◌, ◌<◌, ◌≤◌, Bool, true, false, cond, ◌||◌, List, []}
use Rattle.std.proofs.Common.{◌∷◌, length, get_or, drop, sym, refl, ap, ◌∙◌, add-one, arith, drop_of_length-le, drop-cons}
use Rattle.std.proofs.Common.{Option, MatchOption, HoldsAt, unwrap_or}
use Rattle.std.specs.List.{AllWithin}
use Rattle.std.proofs.lemmas.Iterator.{index_from_first}
use lib.Ieee.{Float, nan, is_nan}
use Rattle.error.proofs.First.{never}
use Rattle.many.specs.Many.{some_nan, first_nan}

or_assoc : (a b c : Bool) → ((a || b) || c) ≡ (a || (b || c))
or_assoc true b c = refl
or_assoc false b c = refl

or_false : (a : Bool) → (a || false) ≡ a
or_false true = refl
or_false false = refl

-- one more parameter
pub scanned : (xs : List Float) (i : ℕ) (found t : Bool) → i < length xs → (found || some_nan (drop i xs)) ≡ some_nan xs → t ≡ is_nan (get_or xs i nan)
    → ((found || t) || some_nan (drop (i + 1) xs)) ≡ some_nan xs
unfolding some_nan
scanned xs i found t h v e =
    let d : some_nan (drop i xs) ≡ (is_nan (get_or xs i nan) || some_nan (drop (i + 1) xs)) = rw (add-one, drop-cons xs i nan) in
    or_assoc found t (some_nan (drop (i + 1) xs))
    ∙ (ap (λ (z : Bool). found || (z || some_nan (drop (i + 1) xs))) e ∙ (ap (λ (z : Bool). found || z) (sym d) ∙ v))

-- none is left
pub scanned_all : (xs : List Float) (i : ℕ) (found : Bool) → length xs ≤ i → (found || some_nan (drop i xs)) ≡ some_nan xs → found ≡ some_nan xs
unfolding some_nan
scanned_all xs i found h v = sym (or_false found) ∙ (rw (drop_of_length-le xs) at v)

-- ---- the first
pub nan_found : (xs : List Float) (r : Option ℕ)
    → MatchOption r (AllWithin (λ x. is_nan x ≡ false) xs 0 (length xs))
    (λ i. (i < length xs) × HoldsAt (λ x. is_nan x ≡ true) xs i × AllWithin (λ x. is_nan x ≡ false) xs 0 i)
    → unwrap_or r (length xs) ≡ first_nan xs
unfolding first_nan
nan_found xs r h = sym (index_from_first first_nan (λ x. is_nan x ≡ true) (λ x. is_nan x ≡ false) refl (λ x xs e. simp e)
    (λ x xs e. rw e (sym (add-one _))) xs r h)

-- ---- what the two say
-- where none is NaN, each is a number
pub each_number : (xs : List Float) (i : ℕ) → some_nan xs ≡ false → i < length xs → is_nan (get_or xs i nan) ≡ false
unfolding some_nan
each_number [] i e h = absurd (omega arith)
each_number (x ∷ xs) zero e h = go (is_nan x) e
  where
    go : (t : Bool) → (t || some_nan xs) ≡ false → t ≡ false
    go true p = never (cc)
    go false p = refl
each_number (x ∷ xs) (suc i) e h = each_number xs i (go (is_nan x) e) (omega arith)
  where
    go : (t : Bool) → (t || some_nan xs) ≡ false → some_nan xs ≡ false
    go true p = never (cc)
    go false p = p

-- where one is: the number is that of a NaN, and each before it is a number
pub first_nan_is : (xs : List Float) → some_nan xs ≡ true
    → (first_nan xs < length xs) × (is_nan (get_or xs (first_nan xs) nan) ≡ true) × ((i : ℕ) → i < first_nan xs → is_nan (get_or xs i nan) ≡ false)
unfolding first_nan some_nan
first_nan_is [] e = never (cc)
first_nan_is (x ∷ xs) e = go (is_nan x) refl e (first_nan_is xs)
  where
    go : (t : Bool) → is_nan x ≡ t → (t || some_nan xs) ≡ true
        → (some_nan xs ≡ true
        → (first_nan xs < length xs) × (is_nan (get_or xs (first_nan xs) nan) ≡ true) × ((i : ℕ) → i < first_nan xs → is_nan (get_or xs i nan) ≡ false))
        → (cond t 0 (suc (first_nan xs)) < length (x ∷ xs)) × (is_nan (get_or (x ∷ xs) (cond t 0 (suc (first_nan xs))) nan) ≡ true)
        × ((i : ℕ) → i < cond t 0 (suc (first_nan xs)) → is_nan (get_or (x ∷ xs) i nan) ≡ false)
    go true p h k = (omega arith, p, λ i l. absurd (omega arith))
    go false p h k = let r = k h in (omega (arith, r.0), r.1, before p r.2)
      where
        before : is_nan x ≡ false → ((i : ℕ) → i < first_nan xs → is_nan (get_or xs i nan) ≡ false) → (i : ℕ) → i < suc (first_nan xs)
            → is_nan (get_or (x ∷ xs) i nan) ≡ false
        before p f zero l = p
        before p f (suc i) l = f i (omega arith)
