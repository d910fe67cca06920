-- What differs between two tables: the basis, the span, and the knots place by place, by their bits. Definitions only.
use Rattle.std.specs.Prelude.{cond, List, [], ◌∷◌, ◌++◌, ℕ, zero, suc, eqb, get_or}
use Rattle.basis.specs.declared.Basis.{Basis}
use Rattle.basis.specs.declared.Basis.TheVariants.{Bspline, Bezier, CatmullRom, Hermite, Linear, Power}
use Rattle.table_span.specs.declared.Table.{Table}

-- two bases, old and new; two spans, 0 for none; a knot place with what stood there and what stands there now;
-- or a place that one table alone has, with what stands there
pub data Difference : Type 0 where
  basis : Basis → Basis → Difference
  span : ℕ → ℕ → Difference
  knot : ℕ → ℕ → ℕ → Difference
  only : ℕ → ℕ → Difference

-- the number of a basis among the six
abbrev pub rank_of : Basis → ℕ
rank_of Bspline = 0
rank_of Bezier = 1
rank_of CatmullRom = 2
rank_of Hermite = 3
rank_of Linear = 4
rank_of Power = 5

unfoldable pub basis_difference : Basis → Basis → List Difference
basis_difference b c = cond (eqb (rank_of b) (rank_of c)) [] (basis b c ∷ [])

unfoldable pub span_difference : ℕ → ℕ → List Difference
span_difference r s = cond (eqb r s) [] (span r s ∷ [])

-- from place i on, lowest first; a knot is the number that its 64 bits make
unfoldable pub knots_from : ℕ → List ℕ → List ℕ → List Difference
knots_from i [] [] = []
knots_from i [] (b ∷ ls) = only i b ∷ knots_from (suc i) [] ls
knots_from i (a ∷ ks) [] = only i a ∷ knots_from (suc i) ks []
knots_from i (a ∷ ks) (b ∷ ls) = cond (eqb a b) (knots_from (suc i) ks ls) (knot i a b ∷ knots_from (suc i) ks ls)

-- all of them: a table with its knots, and another with its own
unfoldable pub differences_of : Table → List ℕ → Table → List ℕ → List Difference
differences_of t ks u ls = basis_difference t.basis u.basis ++ span_difference t.span u.span ++ knots_from 0 ks ls

-- how many of them are places
unfoldable pub places_in : List Difference → ℕ
places_in [] = zero
places_in (basis b c ∷ ds) = places_in ds
places_in (span r s ∷ ds) = places_in ds
places_in (knot i a b ∷ ds) = suc (places_in ds)
places_in (only i a ∷ ds) = suc (places_in ds)

-- ---- the way back
-- what stands at place i of the second table, where a stands there in the first
unfoldable pub new_at : ℕ → List Difference → ℕ → ℕ
new_at i [] a = a
new_at i (basis b c ∷ ds) a = new_at i ds a
new_at i (span r s ∷ ds) a = new_at i ds a
new_at i (knot j x y ∷ ds) a = cond (eqb i j) y (new_at i ds a)
new_at i (only j x ∷ ds) a = cond (eqb i j) x (new_at i ds a)

-- n knots of the second table, from place i on, by the first table's and the differences
unfoldable pub rebuilt : ℕ → ℕ → List ℕ → List Difference → List ℕ
rebuilt i zero ks ds = []
rebuilt i (suc n) ks ds = new_at i ds (get_or ks i 0) ∷ rebuilt (suc i) n ks ds
