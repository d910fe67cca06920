-- A number as 64 bits hold it: its size, raised by a bound, and the first of a list that is larger than one. Assumes nothing.
use mathlib.Core.Path.{◌≡◌, refl, sym, ap, ◌∙◌, subst}
use mathlib.Core.Bool.{Bool, true, false, cond}
use mathlib.Core.List.{List, [], ◌∷◌}
use Prim.Native.Nat.{ℕ, zero, suc, ◌^◌, ◌≤◌, ◌<◌}
use native.Mathlib.Nat.{le_of_eq, lt_of_le_of_lt}
use native.Mathlib.Omega.{arith}
use native.Mathlib.Numerals.{add-one}
use lib.Dec.{leb}
use lib.IntN.{ℤ, pos, negsuc, nat_abs}
use lib.Signed.{mag}
use lib.ListN.{length, get_or, length-map, get_or-map}
use mir.Syntax.{w64}
use mir.Val.{SFits}
use mir.Facts.{to_z-of_z}
use borrow.Author.Rules.{sfits_of}
use borrow.Author.Tests.{leb-true, le-leb}
use Rattle.error.proofs.First.{never}
use Rattle.std.proofs.Common.{Option, MatchOption, HoldsAt}
use Rattle.std.specs.List.{AllWithin}
use Rattle.error.specs.Found.{Found}
use Rattle.error.proofs.Found.{found_first}
use Rattle.whole.specs.Held.{held, held_all, turned, turned_all, small, first_large, Small}

-- ---- held
mag_le : (z : ℤ) → mag z ≤ nat_abs z
mag_le (pos n) = le_of_eq refl
mag_le (negsuc n) = omega arith

pub fits : (z : ℤ) (n : ℕ) → nat_abs z ≤ n → n < 2 ^ 63 → SFits w64 z
fits z n h k = sfits_of (lt_of_le_of_lt (mag_le z) (lt_of_le_of_lt h k))

pub back : (z : ℤ) (n : ℕ) → nat_abs z ≤ n → n < 2 ^ 63 → held z ≡ z
back z n h l = to_z-of_z (fits z n h l)

-- a lent slice's numbers are held as they are
pub held_all_lem : (ks : List ℤ) → ((i : ℕ) → i < length ks → SFits w64 (get_or ks i (pos 0))) → held_all ks ≡ ks
held_all_lem [] f = refl
held_all_lem (x ∷ ks) f = cons_alike (to_z-of_z (f 0 (omega arith))) (held_all_lem ks (λ i l. f (suc i) (omega arith)))
  where
    cons_alike : {x y : ℤ} {l m : List ℤ} → x ≡ y → l ≡ m → (x ∷ l) ≡ (y ∷ m)
    cons_alike p q = cc

pub knot : (ks : List ℤ) (i : ℕ) → get_or (held_all ks) i (pos 0) ≡ held (get_or ks i (pos 0))
knot ks i = get_or-map held ks i (pos 0)

pub long : (ks : List ℤ) → length (held_all ks) ≡ length ks
long ks = length-map ks held

-- and turned
turned_zero : (t : Bool) → turned t (pos 0) ≡ pos 0
turned_zero true = refl
turned_zero false = refl

pub turned_knot : (t : Bool) (ks : List ℤ) (i : ℕ) → get_or (turned_all t (held_all ks)) i (pos 0) ≡ turned t (held (get_or ks i (pos 0)))
turned_knot t ks i =
    ap (λ (d : ℤ). get_or (turned_all t (held_all ks)) i d) (sym (turned_zero t)) ∙ get_or-map (turned t) (held_all ks) i (pos 0) ∙ ap (turned t) (knot ks i)

pub turned_long : (t : Bool) (z : List ℤ) → length (turned_all t z) ≡ length z
turned_long t z = length-map z (turned t)

pub same_all : (z : List ℤ) → turned_all true z ≡ z
same_all [] = refl
same_all (x ∷ z) = ap (λ (l : List ℤ). x ∷ l) (same_all z)

-- what the code reads there is small
pub small_at : (most : ℕ) (ks : List ℤ) → Small most (held_all ks) → (i : ℕ) → i < length ks → nat_abs (held (get_or ks i (pos 0))) ≤ most
small_at most ks s i h = subst (λ (z : ℤ). nat_abs z ≤ most) (knot ks i) (s.each i (omega (arith, long ks)))

-- ---- the first that is not small
pub small_le : (most : ℕ) (z : ℤ) → small most z ≡ true → nat_abs z ≤ most
unfolding small
small_le most z e = leb-true (nat_abs z) most e

-- what `position` finds among the numbers as they are lent
pub first_found : (most : ℕ) (ks : List ℤ) (r : Option ℕ)
    → MatchOption r (AllWithin (λ z. small most (held z) ≡ true) ks 0 (length ks))
    (λ i. (i < length ks) × HoldsAt (λ z. small most (held z) ≡ false) ks i × AllWithin (λ z. small most (held z) ≡ true) ks 0 i)
    → Found (length ks) (first_large most (held_all ks)) r
unfolding first_large
first_found most ks r h = found_first (λ zs. first_large most (held_all zs)) (λ z. small most (held z) ≡ false) (λ z. small most (held z) ≡ true)
    refl (λ z zs e. simp e) (λ z zs e. rw e (sym (add-one _))) ks r h

-- where it is their count, all are small
pub all_small : (most : ℕ) (z : List ℤ) → length z ≤ first_large most z → Small most z
unfolding first_large
all_small most [] h = record { each = λ i l. absurd (omega arith) }
all_small most (x ∷ z) h = go (small most x) refl h (all_small most z)
  where
    go : (t : Bool) → small most x ≡ t → length (x ∷ z) ≤ cond t (suc (first_large most z)) 0 → (length z ≤ first_large most z → Small most z)
        → Small most (x ∷ z)
    go true e h f = let s = f (omega arith) in record { each = at s }
      where
        at : Small most z → (i : ℕ) → i < length (x ∷ z) → nat_abs (get_or (x ∷ z) i (pos 0)) ≤ most
        at s zero l = small_le most x e
        at s (suc i) l = s.each i (omega arith)
    go false e h f = absurd (omega arith)

pub small_all : (most : ℕ) (z : List ℤ) → ((i : ℕ) → i < length z → nat_abs (get_or z i (pos 0)) ≤ most) → length z ≤ first_large most z
unfolding first_large small
small_all most [] f = omega arith
small_all most (x ∷ z) f = go (leb (nat_abs x) most) (le-leb (nat_abs x) most (f 0 (omega arith))) (small_all most z (λ i l. f (suc i) (omega arith)))
  where
    go : (t : Bool) → t ≡ true → length z ≤ first_large most z → length (x ∷ z) ≤ cond t (suc (first_large most z)) 0
    go true p e = omega (arith, e)
    go false p e = never (cc)

-- ---- a size
module _ (k : ℤ) (f : SFits w64 k) where
  pub size_same : nat_abs (held k) ≡ nat_abs k
  size_same = ap nat_abs (to_z-of_z f)
