-- Every difference is listed once, in order, and nothing else is listed: the list is walked beside the two tables, and a place that is not
-- the first of them is one of the places behind it. Assumes nothing.
use mathlib.Core.Path.{◌≡◌, refl, sym, ap, subst, ◌∙◌}
use mathlib.Core.Logic.{◌⊎◌, inl, inr}
use mathlib.Core.Bool.{Bool, true, false, cond}
use mathlib.Core.List.Memᴰ
use mathlib.Core.List.{
  List,
  [],
  ◌∷◌,
  ◌++◌,
  Memᴰ,
}
use Prim.Native.Nat.{ℕ, zero, suc, ◌+◌, ◌-◌, ◌≤◌, ◌<◌}
use native.Mathlib.Omega.{arith}
use borrow.Author.Tests.{ne_eqb, eqb-false}
use lib.Dec.{eqb}
use lib.ListN.{length, get_or, drop, length-drop}
use lib.Seq.{get_or-drop}
use Rattle.basis.specs.declared.Basis.{Basis}
use Rattle.basis.specs.declared.Basis.TheVariants.{Bspline, Bezier, CatmullRom, Hermite, Linear, Power}
use Rattle.table_span.specs.declared.Table.{Table}
use Rattle.compare.specs.Differences.{Difference, basis, span, knot, only, rank_of, basis_difference, span_difference, knots_from, differences_of}

-- ---- the order
-- the basis first, then the span, then the places
abbrev pub order_of : Difference → ℕ
order_of (basis b c) = 0
order_of (span r s) = 1
order_of (knot i a b) = 2 + i
order_of (only i a) = 2 + i

-- each comes after the one before, the first of them at i or later
abbrev pub Ordered : ℕ → List Difference → Type 0
Ordered i [] = Unit
Ordered i (d ∷ ds) = (i ≤ order_of d) × Ordered (suc (order_of d)) ds

widen : (i j : ℕ) (ds : List Difference) → i ≤ j → Ordered j ds → Ordered i ds
widen i j [] h r = tt
widen i j (d ∷ ds) h r = (omega (arith, r.0), r.1)

pub knots_ordered : (i : ℕ) (ks ls : List ℕ) → Ordered (2 + i) (knots_from i ks ls)
unfolding knots_from
knots_ordered i [] [] = tt
knots_ordered i [] (b ∷ ls) = (omega arith, widen (suc (2 + i)) (2 + suc i) (knots_from (suc i) [] ls) (omega arith) (knots_ordered (suc i) [] ls))
knots_ordered i (a ∷ ks) [] = (omega arith, widen (suc (2 + i)) (2 + suc i) (knots_from (suc i) ks []) (omega arith) (knots_ordered (suc i) ks []))
knots_ordered i (a ∷ ks) (b ∷ ls) = go (eqb a b) (knots_ordered (suc i) ks ls)
  where
    rest : List Difference
    rest = knots_from (suc i) ks ls

    go : (t : Bool) → Ordered (2 + suc i) rest → Ordered (2 + i) (cond t rest (knot i a b ∷ rest))
    go true r = widen (2 + i) (2 + suc i) rest (omega arith) r
    go false r = (omega arith, widen (suc (2 + i)) (2 + suc i) rest (omega arith) r)

-- ---- what a difference is
abbrev pub Differs : Table → List ℕ → Table → List ℕ → Difference → Type 0
Differs t ks u ls (basis b c) = (b ≡ t.basis) × (c ≡ u.basis) × (b ≡ c → ⊥)
Differs t ks u ls (span r s) = (r ≡ t.span) × (s ≡ u.span) × (r ≡ s → ⊥)
Differs t ks u ls (knot i a b) = (i < length ks) × (i < length ls) × (a ≡ get_or ks i 0) × (b ≡ get_or ls i 0) × (a ≡ b → ⊥)
Differs t ks u ls (only i a) =
    ((length ls ≤ i) × (i < length ks) × (a ≡ get_or ks i 0)) ⊎ ((length ks ≤ i) × (i < length ls) × (a ≡ get_or ls i 0))

-- ---- bases by their numbers
basis_at : ℕ → Basis
basis_at n =
    cond (eqb n 0) Bspline (cond (eqb n 1) Bezier (cond (eqb n 2) CatmullRom (cond (eqb n 3) Hermite (cond (eqb n 4) Linear Power))))

back : (b : Basis) → basis_at (rank_of b) ≡ b
unfolding basis_at
back Bspline = refl
back Bezier = refl
back CatmullRom = refl
back Hermite = refl
back Linear = refl
back Power = refl

pub rank_one : (b c : Basis) → rank_of b ≡ rank_of c → b ≡ c
rank_one b c e = sym (back b) ∙ ap basis_at e ∙ back c

-- ---- every difference is listed
basis_in : (b c : Basis) → (b ≡ c → ⊥) → Memᴰ (basis b c) (basis_difference b c)
unfolding basis_difference
basis_in b c h = rw (ne_eqb (rank_of b) (rank_of c) (λ (e : rank_of b ≡ rank_of c). h (rank_one b c e))) (Memᴰ.head refl)

span_in : (r s : ℕ) → (r ≡ s → ⊥) → Memᴰ (span r s) (span_difference r s)
unfolding span_difference
span_in r s h = rw (ne_eqb r s h) (Memᴰ.head refl)

skip : (d e : Difference) (t : Bool) {ds : List Difference} → Memᴰ d ds → Memᴰ d (cond t ds (e ∷ ds))
skip d e true m = m
skip d e false m = Memᴰ.tail m

knot_in : (k i : ℕ) (ks ls : List ℕ) → i < length ks → i < length ls → (get_or ks i 0 ≡ get_or ls i 0 → ⊥)
    → Memᴰ (knot (k + i) (get_or ks i 0) (get_or ls i 0)) (knots_from k ks ls)
unfolding knots_from
knot_in k i [] ls h g n = absurd (omega arith)
knot_in k i (a ∷ ks) [] h g n = absurd (omega arith)
knot_in k zero (a ∷ ks) (b ∷ ls) h g n = let z : k + 0 ≡ k = omega arith in rw (z, ne_eqb a b n) (Memᴰ.head refl)
knot_in k (suc i) (a ∷ ks) (b ∷ ls) h g n =
    let z : k + suc i ≡ suc k + i = omega arith in
    rw z (skip _ (knot k a b) (eqb a b) (knot_in (suc k) i ks ls (omega arith) (omega arith) n))

old_in : (k i : ℕ) (ks ls : List ℕ) → length ls ≤ i → i < length ks → Memᴰ (only (k + i) (get_or ks i 0)) (knots_from k ks ls)
unfolding knots_from
old_in k i [] ls h g = absurd (omega arith)
old_in k zero (a ∷ ks) [] h g = let z : k + 0 ≡ k = omega arith in rw z (Memᴰ.head refl)
old_in k (suc i) (a ∷ ks) [] h g =
    let z : k + suc i ≡ suc k + i = omega arith in
    rw z (Memᴰ.tail (old_in (suc k) i ks [] (omega arith) (omega arith)))
old_in k zero (a ∷ ks) (b ∷ ls) h g = absurd (omega arith)
old_in k (suc i) (a ∷ ks) (b ∷ ls) h g =
    let z : k + suc i ≡ suc k + i = omega arith in
    rw z (skip _ (knot k a b) (eqb a b) (old_in (suc k) i ks ls (omega arith) (omega arith)))

new_in : (k i : ℕ) (ks ls : List ℕ) → length ks ≤ i → i < length ls → Memᴰ (only (k + i) (get_or ls i 0)) (knots_from k ks ls)
unfolding knots_from
new_in k i [] [] h g = absurd (omega arith)
new_in k zero [] (b ∷ ls) h g = let z : k + 0 ≡ k = omega arith in rw z (Memᴰ.head refl)
new_in k (suc i) [] (b ∷ ls) h g =
    let z : k + suc i ≡ suc k + i = omega arith in
    rw z (Memᴰ.tail (new_in (suc k) i [] ls (omega arith) (omega arith)))
new_in k i (a ∷ ks) [] h g = absurd (omega arith)
new_in k zero (a ∷ ks) (b ∷ ls) h g = absurd (omega arith)
new_in k (suc i) (a ∷ ks) (b ∷ ls) h g =
    let z : k + suc i ≡ suc k + i = omega arith in
    rw z (skip _ (knot k a b) (eqb a b) (new_in (suc k) i ks ls (omega arith) (omega arith)))

-- ---- nothing else is listed
-- what is listed from place k on, of the knots that stand there
abbrev From : ℕ → List ℕ → List ℕ → Difference → Type 0
From k ks ls (basis b c) = ⊥
From k ks ls (span r s) = ⊥
From k ks ls (knot j a b) = (k ≤ j) × (j - k < length ks) × (j - k < length ls) × (a ≡ get_or ks (j - k) 0) × (b ≡ get_or ls (j - k) 0) × (a ≡ b → ⊥)
From k ks ls (only j a) =
    (k ≤ j)
    × (((length ls ≤ j - k) × (j - k < length ks) × (a ≡ get_or ks (j - k) 0)) ⊎ ((length ks ≤ j - k) × (j - k < length ls) × (a ≡ get_or ls (j - k) 0)))

-- place j, counted from the next place on
next_at : (k j : ℕ) (ks : List ℕ) (a : ℕ) → suc k ≤ j → a ≡ get_or (drop 1 ks) (j - suc k) 0 → a ≡ get_or ks (j - k) 0
next_at k j ks a h e =
    let z : 1 + (j - suc k) ≡ j - k = omega arith in
    e ∙ get_or-drop 1 ks (j - suc k) 0 ∙ ap (λ (i : ℕ). get_or ks i 0) z

further : (k j : ℕ) (ks : List ℕ) → suc k ≤ j → j - suc k < length (drop 1 ks) → j - k < length ks
further k j ks h l = let z : length (drop 1 ks) ≡ length ks - 1 = length-drop 1 ks in omega arith

beyond : (k j : ℕ) (ks : List ℕ) → suc k ≤ j → length (drop 1 ks) ≤ j - suc k → length ks ≤ j - k
beyond k j ks h l = let z : length (drop 1 ks) ≡ length ks - 1 = length-drop 1 ks in omega arith

deeper : (k : ℕ) (ks ls : List ℕ) (d : Difference) → From (suc k) (drop 1 ks) (drop 1 ls) d → From k ks ls d
deeper k ks ls (basis b c) p = p
deeper k ks ls (span r s) p = p
deeper k ks ls (knot j a b) p = (
  omega (arith, p.0),
  further k j ks p.0 p.1,
  further k j ls p.0 p.2,
  next_at k j ks a p.0 p.3,
  next_at k j ls b p.0 p.4,
  p.5,
)
deeper k ks ls (only j a) p = (omega (arith, p.0), go p.1)
  where
    go : ((length (drop 1 ls) ≤ j - suc k) × (j - suc k < length (drop 1 ks)) × (a ≡ get_or (drop 1 ks) (j - suc k) 0)) ⊎
        ((length (drop 1 ks) ≤ j - suc k) × (j - suc k < length (drop 1 ls)) × (a ≡ get_or (drop 1 ls) (j - suc k) 0))
        → ((length ls ≤ j - k) × (j - k < length ks) × (a ≡ get_or ks (j - k) 0)) ⊎ ((length ks ≤ j - k) × (j - k < length ls) × (a ≡ get_or ls (j - k) 0))
    go (inl q) = inl (beyond k j ls p.0 q.0, further k j ks p.0 q.1, next_at k j ks a p.0 q.2)
    go (inr q) = inr (beyond k j ks p.0 q.0, further k j ls p.0 q.1, next_at k j ls a p.0 q.2)

here_new : (k b : ℕ) (ls : List ℕ) → From k [] (b ∷ ls) (only k b)
here_new k b ls = let z : k - k ≡ 0 = omega arith in (omega arith, inr (omega arith, omega arith, rw z refl))

here_old : (k a : ℕ) (ks : List ℕ) → From k (a ∷ ks) [] (only k a)
here_old k a ks = let z : k - k ≡ 0 = omega arith in (omega arith, inl (omega arith, omega arith, rw z refl))

here_both : (k a b : ℕ) (ks ls : List ℕ) → (a ≡ b → ⊥) → From k (a ∷ ks) (b ∷ ls) (knot k a b)
here_both k a b ks ls n = let z : k - k ≡ 0 = omega arith in (omega arith, omega arith, omega arith, rw z refl, rw z refl, n)

from_list : (k : ℕ) (ks ls : List ℕ) (d : Difference) → Memᴰ d (knots_from k ks ls) → From k ks ls d
unfolding knots_from
from_list k [] [] d m = absurd (Memᴰ.not-nil m)
from_list k [] (b ∷ ls) d m = go (from_list (suc k) [] ls d) (Memᴰ.cases_cons m)
  where
    go : (Memᴰ d (knots_from (suc k) [] ls) → From (suc k) [] ls d) → (d ≡ only k b) ⊎ Memᴰ d (knots_from (suc k) [] ls) → From k [] (b ∷ ls) d
    go ih (inl e) = subst (From k [] (b ∷ ls)) (sym e) (here_new k b ls)
    go ih (inr r) = deeper k [] (b ∷ ls) d (ih r)
from_list k (a ∷ ks) [] d m = go (from_list (suc k) ks [] d) (Memᴰ.cases_cons m)
  where
    go : (Memᴰ d (knots_from (suc k) ks []) → From (suc k) ks [] d) → (d ≡ only k a) ⊎ Memᴰ d (knots_from (suc k) ks []) → From k (a ∷ ks) [] d
    go ih (inl e) = subst (From k (a ∷ ks) []) (sym e) (here_old k a ks)
    go ih (inr r) = deeper k (a ∷ ks) [] d (ih r)
from_list k (a ∷ ks) (b ∷ ls) d m = go (from_list (suc k) ks ls d) (eqb a b) refl m
  where
    Rest : Type 0
    Rest = Memᴰ d (knots_from (suc k) ks ls)

    one : (Rest → From (suc k) ks ls d) → (a ≡ b → ⊥) → (d ≡ knot k a b) ⊎ Rest → From k (a ∷ ks) (b ∷ ls) d
    one ih n (inl e) = subst (From k (a ∷ ks) (b ∷ ls)) (sym e) (here_both k a b ks ls n)
    one ih n (inr r) = deeper k (a ∷ ks) (b ∷ ls) d (ih r)

    go : (Rest → From (suc k) ks ls d) → (t : Bool) → eqb a b ≡ t
        → Memᴰ d (cond t (knots_from (suc k) ks ls) (knot k a b ∷ knots_from (suc k) ks ls)) → From k (a ∷ ks) (b ∷ ls) d
    go ih true e r = deeper k (a ∷ ks) (b ∷ ls) d (ih r)
    go ih false e r = one ih (eqb-false a b e) (Memᴰ.cases_cons r)

-- ---- the whole list
module _ (t : Table) (ks : List ℕ) (u : Table) (ls : List ℕ) where
  placed : (d : Difference) → From 0 ks ls d → Differs t ks u ls d
  placed (basis b c) p = absurd p
  placed (span r s) p = absurd p
  placed (knot j a b) p = let z : j - 0 ≡ j = omega arith in (rw z at p.1, rw z at p.2, rw z at p.3, rw z at p.4, p.5)
  placed (only j a) p = let z : j - 0 ≡ j = omega arith in rw z at p.1

  basis_only : (d : Difference) → Memᴰ d (basis_difference t.basis u.basis) → Differs t ks u ls d
  unfolding basis_difference
  basis_only d m = go (eqb (rank_of t.basis) (rank_of u.basis)) refl m
    where
      go : (p : Bool) → eqb (rank_of t.basis) (rank_of u.basis) ≡ p → Memᴰ d (cond p [] (basis t.basis u.basis ∷ [])) → Differs t ks u ls d
      go true e r = absurd (Memᴰ.not-nil r)
      go false e r =
          subst (Differs t ks u ls) (sym (Memᴰ.eq_of_singleton r))
          (refl, refl, λ (q : t.basis ≡ u.basis). eqb-false (rank_of t.basis) (rank_of u.basis) e (ap (λ (b : Basis). rank_of b) q))

  span_only : (d : Difference) → Memᴰ d (span_difference t.span u.span) → Differs t ks u ls d
  unfolding span_difference
  span_only d m = go (eqb t.span u.span) refl m
    where
      go : (p : Bool) → eqb t.span u.span ≡ p → Memᴰ d (cond p [] (span t.span u.span ∷ [])) → Differs t ks u ls d
      go true e r = absurd (Memᴰ.not-nil r)
      go false e r = subst (Differs t ks u ls) (sym (Memᴰ.eq_of_singleton r)) (refl, refl, eqb-false t.span u.span e)

  -- what is listed is a difference
  pub nothing_else : (d : Difference) → Memᴰ d (differences_of t ks u ls) → Differs t ks u ls d
  unfolding differences_of
  nothing_else d m = go (Memᴰ.append_cases (basis_difference t.basis u.basis ++ span_difference t.span u.span) m)
    where
      head : Memᴰ d (basis_difference t.basis u.basis) ⊎ Memᴰ d (span_difference t.span u.span) → Differs t ks u ls d
      head (inl p) = basis_only d p
      head (inr p) = span_only d p

      go : Memᴰ d (basis_difference t.basis u.basis ++ span_difference t.span u.span) ⊎ Memᴰ d (knots_from 0 ks ls) → Differs t ks u ls d
      go (inl p) = head (Memᴰ.append_cases (basis_difference t.basis u.basis) p)
      go (inr p) = placed d (from_list 0 ks ls d p)

  at_the_end : (d : Difference) → Memᴰ d (knots_from 0 ks ls) → Memᴰ d (differences_of t ks u ls)
  unfolding differences_of
  at_the_end d m = Memᴰ.append_right (basis_difference t.basis u.basis ++ span_difference t.span u.span) m

  -- every difference is listed
  pub all_listed : (d : Difference) → Differs t ks u ls d → Memᴰ d (differences_of t ks u ls)
  unfolding differences_of
  all_listed (basis b c) p =
      rw (p.0, p.1)
      (Memᴰ.append_left (knots_from 0 ks ls)
      (Memᴰ.append_left (span_difference t.span u.span) (basis_in t.basis u.basis (λ e. p.2 (p.0 ∙ e ∙ sym p.1)))))
  all_listed (span r s) p =
      rw (p.0, p.1)
      (Memᴰ.append_left (knots_from 0 ks ls)
      (Memᴰ.append_right (basis_difference t.basis u.basis) (span_in t.span u.span (λ e. p.2 (p.0 ∙ e ∙ sym p.1)))))
  all_listed (knot i a b) p =
      let z : 0 + i ≡ i = omega arith in
      at_the_end (knot i a b) (rw (p.2, p.3) (rw z at (knot_in 0 i ks ls p.0 p.1 (λ e. p.4 (p.2 ∙ e ∙ sym p.3)))))
  all_listed (only i a) p = at_the_end (only i a) (go p)
    where
      z : 0 + i ≡ i
      z = omega arith

      go : ((length ls ≤ i) × (i < length ks) × (a ≡ get_or ks i 0)) ⊎ ((length ks ≤ i) × (i < length ls) × (a ≡ get_or ls i 0))
          → Memᴰ (only i a) (knots_from 0 ks ls)
      go (inl q) = rw q.2 (rw z at (old_in 0 i ks ls q.0 q.1))
      go (inr q) = rw q.2 (rw z at (new_in 0 i ks ls q.0 q.1))

  -- ---- each once, in order
  pub in_order : Ordered 0 (differences_of t ks u ls)
  unfolding differences_of basis_difference span_difference
  in_order = outer (eqb (rank_of t.basis) (rank_of u.basis)) (eqb t.span u.span)
    where
      places : List Difference
      places = knots_from 0 ks ls

      two : (q : Bool) → Ordered 1 (cond q [] (span t.span u.span ∷ []) ++ places)
      two true = widen 1 2 places (omega arith) (knots_ordered 0 ks ls)
      two false = (omega arith, knots_ordered 0 ks ls)

      outer : (p q : Bool) → Ordered 0 (cond p [] (basis t.basis u.basis ∷ []) ++ cond q [] (span t.span u.span ∷ []) ++ places)
      outer true q = widen 0 1 (cond q [] (span t.span u.span ∷ []) ++ places) (omega arith) (two q)
      outer false q = (omega arith, two q)

above : (i : ℕ) (ds : List Difference) (d : Difference) → Ordered i ds → Memᴰ d ds → i ≤ order_of d
above i [] d r m = absurd (Memᴰ.not-nil m)
above i (e ∷ ds) d r m = go (above (suc (order_of e)) ds d r.1) (Memᴰ.cases_cons m)
  where
    go : (Memᴰ d ds → suc (order_of e) ≤ order_of d) → (d ≡ e) ⊎ Memᴰ d ds → i ≤ order_of d
    go ih (inl q) = rw q r.0
    go ih (inr q) = omega (arith, ih q, r.0)

before : (i : ℕ) (xs ys : List Difference) (d e : Difference) → Ordered i (xs ++ (d ∷ ys)) → Memᴰ e xs → order_of e < order_of d
before i [] ys d e r m = absurd (Memᴰ.not-nil m)
before i (x ∷ xs) ys d e r m = go (before (suc (order_of x)) xs ys d e r.1) (Memᴰ.cases_cons m)
  where
    go : (Memᴰ e xs → order_of e < order_of d) → (e ≡ x) ⊎ Memᴰ e xs → order_of e < order_of d
    go ih (inl q) = let l : suc (order_of x) ≤ order_of d = above (suc (order_of x)) (xs ++ (d ∷ ys)) d r.1 (Memᴰ.append_right xs (Memᴰ.head refl))
        in rw q (omega arith)
    go ih (inr q) = ih q

behind : (i : ℕ) (xs ys : List Difference) (d : Difference) → Ordered i (xs ++ (d ∷ ys)) → Ordered (suc (order_of d)) ys
behind i [] ys d r = r.1
behind i (x ∷ xs) ys d r = behind (suc (order_of x)) xs ys d r.1

-- a difference that is listed stands neither before nor behind itself
pub once : (t : Table) (ks : List ℕ) (u : Table) (ls : List ℕ) (xs ys : List Difference) (d : Difference)
    → differences_of t ks u ls ≡ xs ++ (d ∷ ys) → Memᴰ d xs ⊎ Memᴰ d ys → ⊥
once t ks u ls xs ys d e m = go m
  where
    all : Ordered 0 (xs ++ (d ∷ ys))
    all = subst (Ordered 0) e (in_order t ks u ls)

    go : Memᴰ d xs ⊎ Memᴰ d ys → ⊥
    go (inl p) = let l : order_of d < order_of d = before 0 xs ys d d all p in omega arith
    go (inr p) = let l : suc (order_of d) ≤ order_of d = above (suc (order_of d)) ys d (behind 0 xs ys d all) p in omega arith
