-- Nothing is listed exactly where the two tables are the same: basis, span and each knot's bits. Assumes nothing.
use mathlib.Core.Path.{◌≡◌, refl, ap, ◌∙◌}
use mathlib.Core.Bool.{Bool, true, false, cond}
use mathlib.Core.List.{List, [], ◌∷◌, ◌++◌}
use Prim.Native.Nat.{ℕ, suc}
use native.Mathlib.Omega.{arith}
use borrow.Author.Tests.{eq-eqb, eqb-true}
use lib.Dec.{eqb}
use lib.ListN.{length}
use Rattle.table_span.specs.declared.Table.{Table}
use Rattle.compare.specs.Differences.{Difference, basis, span, knot, rank_of, basis_difference, span_difference, knots_from, differences_of, places_in}
use Rattle.compare.proofs.Listed.{rank_one}

never : {A : Type 0} {d : Difference} {ds : List Difference} → d ∷ ds ≡ [] → A
never e = let z : ◌≡◌ {A = ℕ} 0 1 = cc in absurd (omega arith)

knots_same : (k : ℕ) (ks ls : List ℕ) → knots_from k ks ls ≡ [] → ks ≡ ls
unfolding knots_from
knots_same k [] [] e = refl
knots_same k [] (b ∷ ls) e = never e
knots_same k (a ∷ ks) [] e = never e
knots_same k (a ∷ ks) (b ∷ ls) e = go (knots_same (suc k) ks ls) (eqb a b) refl e
  where
    rest : List Difference
    rest = knots_from (suc k) ks ls

    go : (rest ≡ [] → ks ≡ ls) → (t : Bool) → eqb a b ≡ t → cond t rest (knot k a b ∷ rest) ≡ [] → a ∷ ks ≡ b ∷ ls
    go ih true p q = let x : a ≡ b = eqb-true a b p in let y : ks ≡ ls = ih q in cc
    go ih false p q = never q

knots_none : (k : ℕ) (ks : List ℕ) → knots_from k ks ks ≡ []
unfolding knots_from
knots_none k [] = refl
knots_none k (a ∷ ks) = rw (eq-eqb a a refl) (knots_none (suc k) ks)

module _ (t : Table) (ks : List ℕ) (u : Table) (ls : List ℕ) where
  -- where nothing is listed
  pub same_tables : differences_of t ks u ls ≡ [] → (t.basis ≡ u.basis) × (t.span ≡ u.span) × (ks ≡ ls)
  unfolding differences_of basis_difference span_difference
  same_tables e = go (eqb (rank_of t.basis) (rank_of u.basis)) (eqb t.span u.span) refl refl e
    where
      go : (p q : Bool) → eqb (rank_of t.basis) (rank_of u.basis) ≡ p → eqb t.span u.span ≡ q
          → cond p [] (basis t.basis u.basis ∷ []) ++ cond q [] (span t.span u.span ∷ []) ++ knots_from 0 ks ls ≡ []
          → (t.basis ≡ u.basis) × (t.span ≡ u.span) × (ks ≡ ls)
      go true true f g h = (rank_one t.basis u.basis (eqb-true _ _ f), eqb-true _ _ g, knots_same 0 ks ls h)
      go true false f g h = never h
      go false q f g h = never h

  -- and of tables that are the same, nothing
  pub same_nothing : t.basis ≡ u.basis → t.span ≡ u.span → ks ≡ ls → differences_of t ks u ls ≡ []
  unfolding differences_of basis_difference span_difference
  same_nothing e f g =
      rw (eq-eqb (rank_of t.basis) (rank_of u.basis) (ap (λ b. rank_of b) e), eq-eqb t.span u.span f, ← g) (knots_none 0 ks)

  -- the number told is that of the places listed
  pub places_counted : places_in (differences_of t ks u ls) ≡ places_in (knots_from 0 ks ls)
  unfolding differences_of basis_difference span_difference places_in
  places_counted = go (eqb (rank_of t.basis) (rank_of u.basis)) (eqb t.span u.span)
    where
      go : (p q : Bool)
          → places_in (cond p [] (basis t.basis u.basis ∷ []) ++ cond q [] (span t.span u.span ∷ []) ++ knots_from 0 ks ls) ≡ places_in
          (knots_from 0 ks ls)
      go true true = refl
      go true false = refl
      go false true = refl
      go false false = refl

-- each place that is not the same in both is one `knot` or one `only`, and each of these is counted
knots_counted : (k : ℕ) (ks ls : List ℕ) → places_in (knots_from k ks ls) ≡ length (knots_from k ks ls)
unfolding knots_from places_in
knots_counted k [] [] = refl
knots_counted k [] (b ∷ ls) = ap suc (knots_counted (suc k) [] ls)
knots_counted k (a ∷ ks) [] = ap suc (knots_counted (suc k) ks [])
knots_counted k (a ∷ ks) (b ∷ ls) = go (eqb a b) (knots_counted (suc k) ks ls)
  where
    go : (t : Bool) → places_in (knots_from (suc k) ks ls) ≡ length (knots_from (suc k) ks ls)
        → places_in (cond t (knots_from (suc k) ks ls) (knot k a b ∷ knots_from (suc k) ks ls))
        ≡ length (cond t (knots_from (suc k) ks ls) (knot k a b ∷ knots_from (suc k) ks ls))
    go true e = e
    go false e = ap suc e

-- so the number told is how many lines begin with `knot` or `only`
pub lines_counted : (t : Table) (ks : List ℕ) (u : Table) (ls : List ℕ) → places_in (differences_of t ks u ls) ≡ length (knots_from 0 ks ls)
lines_counted t ks u ls = places_counted t ks u ls ∙ knots_counted 0 ks ls
