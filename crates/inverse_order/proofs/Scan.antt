-- The one scan of the order check: it passes exactly where all knots are in range and in order. Assumes nothing.
use mathlib.Core.Path.{◌≡◌, refl, sym, ap, ◌∙◌}
use mathlib.Core.Bool.{Bool, true, false, not, ◌&&◌, and_assoc, and-true, not-not}
use mathlib.Core.List.{List, [], ◌∷◌}
use Prim.Native.Nat.{ℕ, suc, ◌+◌, ◌<◌, ◌≤◌}
use native.Mathlib.Omega.{arith}
use lib.Dec.{T, not_T}
use mathlib.Core.Logic.{◌⊎◌, inl, inr}
use lib.ListN.{length, get_or, drop, length-drop}
use lib.Seq.{drop-cons}
use lib.Ieee.{Float, nan, inf, fin, lt, le, eq, neg, is_nan}
use lib.Ieee.Fits.{and_l, and_r, and_i}
use Rattle.doubles.proofs.Order.{le_trans_float}
use Rattle.checks.specs.Checks.{bound, in_range, all_in_range}
use Rattle.inverse_order.specs.Order.{before, ordered}
use Rattle.inverse_order.specs.Contract.{follows, kept}
use Rattle.inverse_order.proofs.Along.{before_not, not_before}

-- ---- the loop
pub next : (ks : List Float) (i : ℕ) → i < length ks → drop i ks ≡ get_or ks i nan ∷ drop (i + 1) ks
next ks i h = let q : suc i ≡ i + 1 = omega arith in drop-cons ks i nan h ∙ ap (λ (n : ℕ). get_or ks i nan ∷ drop n ks) q

-- one more pair, where ys is what comes after the first of xs
pub pair_more : (rising : Bool) {xs ys xs' ys' : List Float} {x z : Float} (good t : Bool) {whole : Bool} → (good && kept rising xs) ≡ whole → ys ≡ drop 1 xs
    → xs ≡ x ∷ xs' → ys ≡ z ∷ ys' → t ≡ follows rising x z
    → (((good && t) && kept rising xs') ≡ whole) × (ys' ≡ drop 1 xs')
unfolding kept
pair_more rising {xs} {ys} {xs'} {ys'} {x} {z} good t v h e g i =
    let f : xs' ≡ z ∷ ys' = sym (ap (λ (l : List Float). drop 1 l) e) ∙ sym h ∙ g in
    let k : kept rising xs ≡ (follows rising x z && kept rising (z ∷ ys')) = ap (kept rising) (e ∙ ap (λ (l : List Float). x ∷ l) f) in
    let m : (t && kept rising xs') ≡ kept rising xs =
    ap (λ (b : Bool). b && kept rising xs') i ∙ ap (λ (l : List Float). follows rising x z && kept rising l) f ∙ sym k in
    (and_assoc good t (kept rising xs') ∙ ap (λ (b : Bool). good && b) m ∙ v, sym (ap (λ (l : List Float). drop 1 l) f))

short_kept : (rising : Bool) (xs : List Float) → length xs ≤ 1 → kept rising xs ≡ true
unfolding kept
short_kept rising [] h = refl
short_kept rising (x ∷ []) h = refl
short_kept rising (x ∷ (z ∷ r)) h = absurd (omega arith)

-- no pair is left
pub pairs_done : (rising : Bool) (xs : List Float) {ys : List Float} (good : Bool) {whole : Bool} → (good && kept rising xs) ≡ whole → ys ≡ drop 1 xs
    → (length xs ≡ 0) ⊎ (length ys ≡ 0) → good ≡ whole
pairs_done rising xs {ys} good v h e = sym (and-true good) ∙ ap (λ (b : Bool). good && b) (sym (short_kept rising xs (few e))) ∙ v
  where
    few : (length xs ≡ 0) ⊎ (length ys ≡ 0) → length xs ≤ 1
    few (inl a) = omega (arith, a)
    few (inr b) = omega (arith, b, ap length h, length-drop 1 xs)

-- ---- bounds along a kept list
abbrev All : (Float → Type 0) → List Float → Type 0
All P [] = Unit
All P (x ∷ xs) = P x × All P xs

module _ (rising : Bool) (P : Float → Type 0) where
  forward : ((x z : Float) → P x → T (follows rising x z) → P z) → (x : Float) (xs : List Float) → P x → T (kept rising (x ∷ xs)) → All P (x ∷ xs)
  unfolding kept
  forward f x [] p h = (p, tt)
  forward f x (z ∷ r) p h =
      (p, forward f z r (f x z p (and_l (follows rising x z) (kept rising (z ∷ r)) h)) (and_r (follows rising x z) (kept rising (z ∷ r)) h))

  backward : ((x z : Float) → P z → T (follows rising x z) → P x) → (x : Float) (xs : List Float) → P (get_or (x ∷ xs) (length xs) nan)
      → T (kept rising (x ∷ xs)) → All P (x ∷ xs)
  unfolding kept
  backward f x [] p h = (p, tt)
  backward f x (z ∷ r) p h =
      let a = backward f z r p (and_r (follows rising x z) (kept rising (z ∷ r)) h) in
      (f x z a.0 (and_l (follows rising x z) (kept rising (z ∷ r)) h), a)

abbrev Low : Float → Type 0
Low x = T (le (neg bound) x)

abbrev High : Float → Type 0
High x = T (le x bound)

all_in : (xs : List Float) → All Low xs → All High xs → T (all_in_range xs)
unfolding all_in_range in_range
all_in [] a b = tt
all_in (x ∷ xs) a b = and_i (in_range x) (all_in_range xs) (and_i (le (neg bound) x) (le x bound) a.0 b.0) (all_in xs a.1 b.1)

-- the first and the last in range, and each pair kept: so all are in range
kept_range : (rising : Bool) (x : Float) (xs : List Float) → T (in_range x) → T (in_range (get_or (x ∷ xs) (length xs) nan)) → T (kept rising (x ∷ xs))
    → T (all_in_range (x ∷ xs))
unfolding in_range
kept_range true x xs p q h =
    all_in (x ∷ xs) (forward true Low (λ x z p k. le_trans_float (neg bound) x z p k) x xs (and_l (le (neg bound) x) (le x bound) p) h)
    (backward true High (λ x z p k. le_trans_float x z bound k p) x xs
    (and_r (le (neg bound) (get_or (x ∷ xs) (length xs) nan)) (le (get_or (x ∷ xs) (length xs) nan) bound) q) h)
kept_range false x xs p q h =
    all_in (x
    ∷ xs) (backward false Low (λ x z p k. le_trans_float (neg bound) z x p k) x xs
    (and_l (le (neg bound) (get_or (x ∷ xs) (length xs) nan)) (le (get_or (x ∷ xs) (length xs) nan) bound) q) h)
    (forward false High (λ x z p k. le_trans_float z x bound k p) x xs (and_r (le (neg bound) x) (le x bound) p) h)

-- ---- kept and ordered
kept_ordered : (rising : Bool) (xs : List Float) → T (kept rising xs) → T (ordered rising xs)
unfolding kept ordered
kept_ordered rising [] h = tt
kept_ordered rising (x ∷ []) h = tt
kept_ordered rising (x ∷ (z ∷ r)) h =
    and_i (not (before rising z x)) (ordered rising (z ∷ r))
    (not_T (before rising z x) (λ l. before_not rising z x l (and_l (follows rising x z) (kept rising (z ∷ r)) h)))
    (kept_ordered rising (z ∷ r) (and_r (follows rising x z) (kept rising (z ∷ r)) h))

in_number : (x : Float) → T (in_range x) → T (not (is_nan x))
unfolding in_range le lt eq is_nan
in_number nan h = and_r (le (neg bound) nan) (le nan bound) h
in_number (inf s) h = tt
in_number (fin s m e) h = tt

ordered_kept : (rising : Bool) (xs : List Float) → T (all_in_range xs) → T (ordered rising xs) → T (kept rising xs)
unfolding kept ordered all_in_range
ordered_kept rising [] a h = tt
ordered_kept rising (x ∷ []) a h = tt
ordered_kept rising (x ∷ (z ∷ r)) a h =
    let b = and_r (in_range x) (in_range z && all_in_range r) a in
    and_i (follows rising x z) (kept rising (z ∷ r))
    (not_before rising z x (in_number z (and_l (in_range z) (all_in_range r) b)) (in_number x (and_l (in_range x) (in_range z && all_in_range r) a))
    (and_l (not (before rising z x)) (ordered rising (z ∷ r)) h))
    (ordered_kept rising (z ∷ r) b (and_r (not (before rising z x)) (ordered rising (z ∷ r)) h))

-- ---- the test
same_test : (a b : Bool) → (T a → T b) → (T b → T a) → a ≡ b
same_test true true f g = refl
same_test true false f g = absurd (f tt)
same_test false true f g = absurd (g tt)
same_test false false f g = refl

pub all_sound : (rising : Bool) (x z : Float) (r : List Float) → T (in_range x) → T (in_range z) → T (in_range (get_or (z ∷ r) (length r) nan))
    → kept rising (z ∷ r) ≡ (all_in_range (x ∷ (z ∷ r)) && not (not (ordered rising (z ∷ r))))
unfolding all_in_range
all_sound rising x z r p q l =
    let A = all_in_range (x ∷ (z ∷ r)) in
    let O = ordered rising (z ∷ r) in
    same_test (kept rising (z ∷ r)) (A && O)
    (λ h. and_i A O (and_i (in_range x) (all_in_range (z ∷ r)) p (kept_range rising z r q l h)) (kept_ordered rising (z ∷ r) h))
    (λ h. ordered_kept rising (z ∷ r) (and_r (in_range x) (all_in_range (z ∷ r)) (and_l A O h)) (and_r A O h))
    ∙ ap (λ (t : Bool). A && t) (sym (not-not O))
