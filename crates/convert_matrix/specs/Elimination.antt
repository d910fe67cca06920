-- Gauss-Jordan elimination on four rows of eight doubles, columns in order. Definitions only.
use Rattle.std.specs.Prelude.{List, [], ◌∷◌, ◌++◌, Bool, true, false, cond, ◌||◌, ℕ, ◌+◌, eqb, drop, set, Float, Some, None, Option}
use Rattle.std.specs.Float.{binary64}
use Rattle.std.specs.Float.Ieee.{sub, mul, div, eq}
use Rattle.basis.specs.declared.Basis.{Basis}
use Rattle.basis.specs.Basis.{matrix_of}
use Rattle.doubles.specs.Numbers.{nought, one}
use Rattle.convert_matrix.specs.Matrix.{Matrix, at, row, entry, four, product}

-- a zero of either sign
abbrev pub is_zero : Float → Bool
is_zero x = eq x nought

abbrev pub eight : (ℕ → Float) → List Float
eight f = four f ++ four (λ j. f (4 + j))

-- the matrix with the identity beside it
abbrev pub widened : Matrix → Matrix
widened m = four (λ i. four (entry m i) ++ four (λ j. cond (eqb i j) one nought))

-- the first of the rows ks whose entry in column i is not zero
unfoldable pub first_nonzero : List ℕ → Matrix → ℕ → Option ℕ
unfolding eq
first_nonzero [] a i = None
first_nonzero (k ∷ ks) a i = cond (is_zero (entry a k i)) (first_nonzero ks a i) (Some k)

-- row i itself, and where its entry is zero the first row below whose entry is not
abbrev pub pivot_of : Matrix → ℕ → Option ℕ
pivot_of a i = first_nonzero (drop i (0 ∷ 1 ∷ 2 ∷ 3 ∷ [])) a i

-- rows i and k change places
abbrev pub swapped : Matrix → ℕ → ℕ → Matrix
swapped a i k = set (set a i (row a k)) k (row a i)

-- row i is divided by its entry in column i
abbrev pub divided : Matrix → ℕ → Matrix
divided a i = set a i (eight (λ j. div binary64 (entry a i j) (entry a i i)))

-- r less f times p
abbrev pub reduced : List Float → Float → List Float → List Float
reduced r f p = eight (λ j. sub binary64 (at r j) (mul binary64 f (at p j)))

-- every other row whose entry in column i is not zero loses that entry times row i
unfoldable pub cleared_row : Matrix → ℕ → ℕ → List Float
unfolding sub mul eq
cleared_row a i k = cond (eqb k i || is_zero (entry a k i)) (row a k) (reduced (row a k) (entry a k i) (row a i))

unfoldable pub cleared : Matrix → ℕ → Matrix
unfolding cleared_row
cleared a i = four (cleared_row a i)

-- the elimination goes on with these rows, or there is no inverse
pub data Elimination : Type 0 where
  goes : Matrix → Elimination
  no_inverse : Elimination

abbrev pub then : Elimination → (Matrix → Elimination) → Elimination
then (goes a) f = f a
then no_inverse f = no_inverse

abbrev pub with_pivot : Matrix → ℕ → Option ℕ → Elimination
with_pivot a i (Some k) = goes (cleared (divided (swapped a i k) i) i)
with_pivot a i None = no_inverse

abbrev pub eliminated : ℕ → Matrix → Elimination
eliminated i a = with_pivot a i (pivot_of a i)

unfoldable pub columns : List ℕ → Matrix → Elimination
unfolding first_nonzero cleared div
columns [] a = goes a
columns (i ∷ is) a = then (eliminated i a) (columns is)

-- what stands beside the identity in the end
abbrev pub right_half : Matrix → Matrix
right_half a = four (λ i. four (λ j. entry a i (4 + j)))

-- columns in order
unfoldable pub inverse : Matrix → Elimination
unfolding columns
inverse m = then (columns (0 ∷ 1 ∷ 2 ∷ 3 ∷ []) (widened m)) (λ a. goes (right_half a))

-- whether there is an inverse
abbrev pub exists : Elimination → Bool
exists (goes a) = true
exists no_inverse = false

-- the rows of an inverse; zeros where there is none
abbrev pub rows_of : Elimination → Matrix
rows_of (goes a) = a
rows_of no_inverse = four (λ i. four (λ j. nought))

-- the inverse of a basis's matrix: the one definition of it
unfoldable pub inverse_of : Basis → Matrix
unfolding inverse matrix_of
inverse_of b = rows_of (inverse (matrix_of b))

-- the inverse of the output's matrix, times the input's matrix
unfoldable pub conversion_of : Basis → Basis → Matrix
unfolding inverse_of matrix_of product
conversion_of from to = product (inverse_of to) (matrix_of from)
