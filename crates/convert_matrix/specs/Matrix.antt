-- Matrices as four rows of four doubles: the product, and a matrix applied to four values. Definitions only.
use Rattle.std.specs.Prelude.{List, [], ◌∷◌, ℕ, get_or, Float}
use Rattle.std.specs.Float.{nan}
use Rattle.std.specs.Float.Ieee.{add, mul}
use Rattle.spline.specs.Segment.{row_sum}

abbrev pub Matrix : Type 0
Matrix = List (List Float)

abbrev pub at : List Float → ℕ → Float
at r j = get_or r j nan

abbrev pub row : Matrix → ℕ → List Float
row m i = get_or m i []

abbrev pub entry : Matrix → ℕ → ℕ → Float
entry m i j = at (row m i) j

abbrev pub four : {A : Type 0} → (ℕ → A) → List A
four f = f 0 ∷ f 1 ∷ f 2 ∷ f 3 ∷ []

abbrev pub column : Matrix → ℕ → List Float
column m j = four (λ k. entry m k j)

-- a row times each column, added left to right
abbrev pub row_times : List Float → Matrix → List Float
row_times r b = four (λ j. row_sum r (column b j))

-- each row of a times b
unfoldable pub product : Matrix → Matrix → Matrix
unfolding add mul
product a b = four (λ i. row_times (row a i) b)

-- each row times the four values, added left to right
abbrev pub applied : Matrix → List Float → List Float
applied m cv = four (λ i. row_sum cv (row m i))
