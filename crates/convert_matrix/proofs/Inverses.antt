-- Which bases have an inverse, and what the inverses and the conversions hold: computed, over all bases and all pairs. Assumes nothing.
use mathlib.Core.Path.{◌≡◌, refl}
use mathlib.Core.List.{List, [], ◌∷◌}
use mathlib.Core.Bool.{Bool, true, false, not, ◌&&◌}
use lib.Dec.{T, eqb}
use lib.Ieee.{Float, nan, inf, fin}
use lib.Ieee.Fits.{and_l, and_r}
use Rattle.basis.specs.declared.Basis.{Basis}
use Rattle.basis.specs.declared.Basis.TheVariants.{Bspline, Bezier, CatmullRom, Hermite, Linear, Power}
use Rattle.basis.specs.Basis.{matrix_of, is_linear}
use Rattle.spline.proofs.Finite.{small_matrix, small_matrix_lem, Small}
use Rattle.convert_matrix.specs.Matrix.{Matrix}
use Rattle.convert_matrix.specs.Elimination.{inverse, exists, inverse_of, conversion_of}

-- the elimination finds an inverse for each basis but Linear
pub only_linear_has_none : (b : Basis) → exists (inverse (matrix_of b)) ≡ not (is_linear b)
unfolding inverse matrix_of
only_linear_has_none Bspline = refl
only_linear_has_none Bezier = refl
only_linear_has_none CatmullRom = refl
only_linear_has_none Hermite = refl
only_linear_has_none Linear = refl
only_linear_has_none Power = refl

-- ---- a test over all six bases, and what it says of each
abbrev on_all : (Basis → Bool) → Bool
on_all f = f Bspline && (f Bezier && (f CatmullRom && (f Hermite && (f Linear && f Power))))

each : (f : Basis → Bool) → T (on_all f) → (b : Basis) → T (f b)
each f h b =
    let t5 = f Linear && f Power in
    let t4 = f Hermite && t5 in
    let t3 = f CatmullRom && t4 in
    let t2 = f Bezier && t3 in
    let h2 = and_r (f Bspline) t2 h in
    let h3 = and_r (f Bezier) t3 h2 in
    let h4 = and_r (f CatmullRom) t4 h3 in
    let h5 = and_r (f Hermite) t5 h4 in
    go (and_l (f Bspline) t2 h) (and_l (f Bezier) t3 h2) (and_l (f CatmullRom) t4 h3) (and_l (f Hermite) t5 h4) (and_l (f Linear) (f Power) h5)
    (and_r (f Linear) (f Power) h5) b
  where
    go : T (f Bspline) → T (f Bezier) → T (f CatmullRom) → T (f Hermite) → T (f Linear) → T (f Power) → (b : Basis) → T (f b)
    go p q r s t u Bspline = p
    go p q r s t u Bezier = q
    go p q r s t u CatmullRom = r
    go p q r s t u Hermite = s
    go p q r s t u Linear = t
    go p q r s t u Power = u

-- ---- no entry is −0
abbrev minus_zero : Float → Bool
minus_zero nan = false
minus_zero (inf s) = false
minus_zero (fin s m e) = s && eqb m 0

abbrev clean_row : List Float → Bool
clean_row [] = true
clean_row (x ∷ xs) = not (minus_zero x) && clean_row xs

abbrev pub clean : Matrix → Bool
clean [] = true
clean (r ∷ rs) = clean_row r && clean rs

pub inverse_clean : (b : Basis) → T (clean (inverse_of b))
unfolding inverse_of
inverse_clean b = each (λ (b : Basis). clean (inverse_of b)) tt b

-- ---- a conversion's matrix: no −0, and nothing above 2^3 in magnitude
abbrev tame : Matrix → Bool
tame m = clean m && small_matrix 3 m

tested : T (on_all (λ (from : Basis). on_all (λ (to : Basis). tame (conversion_of from to))))
unfolding conversion_of
tested = tt

conversion_tame : (from to : Basis) → T (tame (conversion_of from to))
conversion_tame from to =
    each (λ (t : Basis). tame (conversion_of from t)) (each (λ (f : Basis). on_all (λ (t : Basis). tame (conversion_of f t))) tested from) to

pub conversion_clean : (from to : Basis) → T (clean (conversion_of from to))
conversion_clean from to = and_l (clean (conversion_of from to)) (small_matrix 3 (conversion_of from to)) (conversion_tame from to)

pub conversion_small : (from to : Basis) → Small 3 (conversion_of from to)
conversion_small from to =
    small_matrix_lem 3 (conversion_of from to) (and_r (clean (conversion_of from to)) (small_matrix 3 (conversion_of from to)) (conversion_tame from to))
