-- The second table is rebuilt from the first, its own basis, span and length, and the list. Below a place that is listed nothing changes
-- (`below`), and at a listed place the list says what stands there (`at`). Assumes nothing.
use mathlib.Core.Path.{◌≡◌, refl, sym, ap, ◌∙◌}
use mathlib.Core.Bool.{Bool, true, false, cond}
use mathlib.Core.List.{List, [], ◌∷◌, ◌++◌}
use Prim.Native.Nat.{ℕ, zero, suc, ◌+◌, ◌≤◌, ◌<◌}
use native.Mathlib.Omega.{arith}
use borrow.Author.Tests.{eq-eqb, ne_eqb, eqb-true}
use lib.Dec.{eqb}
use lib.ListN.{length, get_or, drop, drop_of_length-le}
use lib.Seq.{drop-cons}
use Rattle.table_span.specs.declared.Table.{Table}
use Rattle.compare.specs.Differences.{
  Difference,
  basis,
  span,
  knot,
  only,
  rank_of,
  basis_difference,
  span_difference,
  knots_from,
  differences_of,
  new_at,
  rebuilt,
}
use Rattle.compare.proofs.Listed.{Ordered, knots_ordered}

-- a place below all that are listed is as it was
below : (i j : ℕ) (ds : List Difference) (a : ℕ) → 2 + j < i → Ordered i ds → new_at j ds a ≡ a
unfolding new_at
below i j [] a h r = refl
below i j (basis b c ∷ ds) a h r = let l : i ≤ 0 = r.0 in absurd (omega arith)
below i j (span p q ∷ ds) a h r = let l : i ≤ 1 = r.0 in absurd (omega arith)
below i j (knot p x y ∷ ds) a h r =
    let l : i ≤ 2 + p = r.0 in
    rw (ne_eqb j p (λ (e : j ≡ p). omega arith)) (below (suc (2 + p)) j ds a (omega arith) r.1)
below i j (only p x ∷ ds) a h r =
    let l : i ≤ 2 + p = r.0 in
    rw (ne_eqb j p (λ (e : j ≡ p). omega arith)) (below (suc (2 + p)) j ds a (omega arith) r.1)

shift : (k i : ℕ) → k + suc i ≡ suc k + i
shift k i = omega arith

-- place i of the second table, counted from k on
at : (k i : ℕ) (ks ls : List ℕ) → i < length ls → new_at (k + i) (knots_from k ks ls) (get_or ks i 0) ≡ get_or ls i 0
unfolding knots_from new_at
at k i [] [] h = absurd (omega arith)
at k zero [] (b ∷ ls) h = let e : k + 0 ≡ k = omega arith in rw (e, eq-eqb k k refl) refl
at k (suc i) [] (b ∷ ls) h =
    rw (ne_eqb (k + suc i) k (λ (e : k + suc i ≡ k). omega arith))
    (ap (λ (j : ℕ). new_at j (knots_from (suc k) [] ls) 0) (shift k i) ∙ at (suc k) i [] ls (omega arith))
at k i (a ∷ ks) [] h = absurd (omega arith)
at k zero (a ∷ ks) (b ∷ ls) h = go (eqb a b) refl
  where
    go : (t : Bool) → eqb a b ≡ t → new_at (k + 0) (cond t (knots_from (suc k) ks ls) (knot k a b ∷ knots_from (suc k) ks ls)) a ≡ b
    go true e = below (2 + suc k) (k + 0) (knots_from (suc k) ks ls) a (omega arith) (knots_ordered (suc k) ks ls) ∙ eqb-true a b e
    go false e = let z : k + 0 ≡ k = omega arith in rw (z, eq-eqb k k refl) refl
at k (suc i) (a ∷ ks) (b ∷ ls) h = go (eqb a b) (at (suc k) i ks ls (omega arith))
  where
    rest : List Difference
    rest = knots_from (suc k) ks ls

    go : (t : Bool) → new_at (suc k + i) rest (get_or ks i 0) ≡ get_or ls i 0
        → new_at (k + suc i) (cond t rest (knot k a b ∷ rest)) (get_or ks i 0) ≡ get_or ls i 0
    go true ih = ap (λ (j : ℕ). new_at j rest (get_or ks i 0)) (shift k i) ∙ ih
    go false ih =
        rw (ne_eqb (k + suc i) k (λ (e : k + suc i ≡ k). omega arith)) (ap (λ (j : ℕ). new_at j rest (get_or ks i 0)) (shift k i) ∙ ih)

-- what is listed before the places changes no knot
heads : (i : ℕ) (t u : Table) (ds : List Difference) (a : ℕ)
    → new_at i (basis_difference t.basis u.basis ++ span_difference t.span u.span ++ ds) a ≡ new_at i ds a
unfolding basis_difference span_difference new_at
heads i t u ds a = outer (eqb (rank_of t.basis) (rank_of u.basis))
  where
    inner : (p : Bool) → new_at i (cond p [] (span t.span u.span ∷ []) ++ ds) a ≡ new_at i ds a
    inner true = refl
    inner false = refl

    outer : (p : Bool)
        → new_at i (cond p [] (basis t.basis u.basis ∷ []) ++ (cond (eqb t.span u.span) [] (span t.span u.span ∷ [])) ++ ds) a ≡ new_at i ds
        a
    outer true = inner (eqb t.span u.span)
    outer false = inner (eqb t.span u.span)

module _ (t : Table) (ks : List ℕ) (u : Table) (ls : List ℕ) where
  place : (i : ℕ) → i < length ls → new_at i (differences_of t ks u ls) (get_or ks i 0) ≡ get_or ls i 0
  unfolding differences_of
  place i h =
      let z : 0 + i ≡ i = omega arith in
      heads i t u (knots_from 0 ks ls) (get_or ks i 0) ∙ ap (λ (j : ℕ). new_at j (knots_from 0 ks ls) (get_or ks i 0)) (sym z) ∙ at 0 i ks ls h

  from : (n i : ℕ) → i + n ≡ length ls → rebuilt i n ks (differences_of t ks u ls) ≡ drop i ls
  unfolding rebuilt
  from zero i e = sym (drop_of_length-le ls {i = i} (omega arith))
  from (suc n) i e =
      rw (place i (omega arith), from n (suc i) (omega arith)) (sym (drop-cons ls i 0 (omega arith)))

  -- the second table's knots, from the first's, their own number and the list
  pub rebuilds : rebuilt 0 (length ls) ks (differences_of t ks u ls) ≡ ls
  rebuilds = from (length ls) 0 (omega arith)
