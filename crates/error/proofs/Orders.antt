-- The order in which a call tests its rows comes out of the one table: the rows that it names, as the table lists them. A call that names
-- no row twice hears each of its tests. Assumes nothing.
use mathlib.Core.Path.{◌≡◌, refl, subst}
use mathlib.Core.Bool.{Bool, true, false, not, cond, ◌&&◌}
use mathlib.Core.List.{List, [], ◌∷◌}
use Prim.Native.Nat.{ℕ}
use lib.Dec.{eqb}
use borrow.Author.Tests.{eqb-true, eq-eqb}
use Rattle.error.specs.declared.Refusal.{Refusal}
use Rattle.error.specs.Refusals.{number_of, rows, Uses, applies, refusal_by, first_of, first}
use Rattle.error.proofs.First.{never, has}

-- ---- rows that are named, in the table's order
abbrev those : List ℕ → List ℕ → List ℕ
those named [] = []
those named (n ∷ ns) = cond (has n named) (n ∷ those named ns) (those named ns)

abbrev pub in_order : List ℕ → List ℕ
in_order named = those named rows

abbrev pub named : Uses → List ℕ
named [] = []
named (u ∷ us) = number_of u.0 ∷ named us

abbrev pub order_of : Uses → List ℕ
order_of us = in_order (named us)

-- a row that a call does not name never applies
unnamed : (us : Uses) (n : ℕ) → has n (named us) ≡ false → applies n us ≡ false
unnamed [] n e = refl
unnamed (u ∷ us) n e = go (eqb n (number_of u.0)) e (unnamed us n)
  where
    go : (t : Bool) → cond t true (has n (named us)) ≡ false → (has n (named us) ≡ false → applies n us ≡ false) → cond t u.1 (applies n us) ≡ false
    go true h k = never (cc)
    go false h k = k h

only_those : (ns : List ℕ) (us : Uses) → first_of ns us ≡ first_of (those (named us) ns) us
only_those [] us = refl
only_those (n ∷ ns) us = go (has n (named us)) refl (only_those ns us)
  where
    go : (t : Bool) → has n (named us) ≡ t → first_of ns us ≡ first_of (those (named us) ns) us
        → first_of (n ∷ ns) us ≡ first_of (cond t (n ∷ those (named us) ns) (those (named us) ns)) us
    go true p h = rw h
    go false p h = rw (unnamed us n p, h)

-- so a call's verdict is by its own rows in that order
pub by_order : (us : Uses) → first us ≡ first_of (order_of us) us
by_order us = only_those rows us

-- ---- each test is heard
-- no number twice
abbrev pub once : List ℕ → Bool
once [] = true
once (n ∷ ns) = not (has n ns) && once ns

-- a test that a call makes
pub data Among (u : Refusal × Bool) : Uses → Type 0 where
  here : {us : Uses} → Among u (u ∷ us)
  there : {v : Refusal × Bool} {us : Uses} → Among u us → Among u (v ∷ us)

names : (us : Uses) (u : Refusal × Bool) → Among u us → has (number_of u.0) (named us) ≡ true
names [] u i = elim i [ ]
names (v ∷ us) u here = rw (eq-eqb (number_of u.0) (number_of u.0) refl)
names (v ∷ us) u (there i) = go (eqb (number_of u.0) (number_of v.0)) (names us u i)
  where
    go : (t : Bool) → has (number_of u.0) (named us) ≡ true → cond t true (has (number_of u.0) (named us)) ≡ true
    go true h = refl
    go false h = h

both : (a b : Bool) → (not a && b) ≡ true → (a ≡ false) × (b ≡ true)
both true b e = never (cc)
both false b e = (refl, e)

-- its row applies just where the test says so, with the refusal that stands beside it
pub heard : (us : Uses) → once (named us) ≡ true → (u : Refusal × Bool) → Among u us
    → (applies (number_of u.0) us ≡ u.1) × (refusal_by (number_of u.0) us ≡ u.0)
heard [] e u i = elim i [ ]
heard (v ∷ us) e u here = rw (eq-eqb (number_of u.0) (number_of u.0) refl) (refl, refl)
heard (v ∷ us) e u (there i) = go (eqb (number_of u.0) (number_of v.0)) refl (heard us (both (has (number_of v.0) (named us)) (once (named us)) e).1 u i)
  where
    go : (t : Bool) → eqb (number_of u.0) (number_of v.0) ≡ t → (applies (number_of u.0) us ≡ u.1) × (refusal_by (number_of u.0) us ≡ u.0)
        → (cond t v.1 (applies (number_of u.0) us) ≡ u.1) × (cond t v.0 (refusal_by (number_of u.0) us) ≡ u.0)
    go true p h =
        let a : has (number_of v.0) (named us) ≡ true =
        subst (λ (n : ℕ). has n (named us) ≡ true) (eqb-true (number_of u.0) (number_of v.0) p) (names us u i) in
        let b : has (number_of v.0) (named us) ≡ false = (both (has (number_of v.0) (named us)) (once (named us)) e).0 in
        never (cc)
    go false p h = h

-- ---- the orders that the calls are asked for, out of the one table
pub evaluation : in_order (1 ∷ 2 ∷ 3 ∷ 4 ∷ 5 ∷ []) ≡ (1 ∷ 2 ∷ 3 ∷ 5 ∷ 4 ∷ [])
evaluation = refl

pub with_a_table : in_order (1 ∷ 2 ∷ 3 ∷ 4 ∷ 5 ∷ 14 ∷ []) ≡ (1 ∷ 2 ∷ 3 ∷ 14 ∷ 5 ∷ 4 ∷ [])
with_a_table = refl

pub inversion : in_order (1 ∷ 2 ∷ 3 ∷ 4 ∷ 5 ∷ 6 ∷ 7 ∷ 10 ∷ 11 ∷ []) ≡ (1 ∷ 2 ∷ 3 ∷ 5 ∷ 6 ∷ 7 ∷ 4 ∷ 10 ∷ 11 ∷ [])
inversion = refl

pub conversion : in_order (1 ∷ 2 ∷ 3 ∷ 4 ∷ 8 ∷ 9 ∷ []) ≡ (1 ∷ 2 ∷ 3 ∷ 8 ∷ 9 ∷ 4 ∷ [])
conversion = refl

pub strict_conversion : in_order (1 ∷ 2 ∷ 3 ∷ 4 ∷ 8 ∷ 9 ∷ 15 ∷ 17 ∷ []) ≡ (1 ∷ 2 ∷ 3 ∷ 8 ∷ 17 ∷ 9 ∷ 4 ∷ 15 ∷ [])
strict_conversion = refl

pub valve : in_order (1 ∷ 2 ∷ 4 ∷ 16 ∷ []) ≡ (1 ∷ 2 ∷ 16 ∷ 4 ∷ [])
valve = refl

pub claim : in_order (1 ∷ 2 ∷ 3 ∷ 4 ∷ 5 ∷ 6 ∷ 19 ∷ []) ≡ (1 ∷ 2 ∷ 3 ∷ 5 ∷ 6 ∷ 19 ∷ 4 ∷ [])
claim = refl
