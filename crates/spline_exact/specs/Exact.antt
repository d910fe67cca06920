-- Where a segment's evaluation rounds nothing, and the whole number that it comes to. Definitions only.
use Rattle.spline.specs.Evaluation.{Evaluation}
use Rattle.std.specs.Prelude.{◌≡◌, Bool, true, false, List, [], ◌∷◌, ℕ, ◌/◌, ◌^◌, ◌≤◌, ◌<◌, ℤ, pos, nat_abs, ◌*ℤ◌, length, get_or, Float, Ok}
use Rattle.std.specs.Float.{nan}
use Rattle.basis.specs.declared.Basis.{Basis}
use Rattle.basis.specs.declared.Basis.TheVariants.{Bspline, Bezier, CatmullRom, Hermite, Linear, Power}
use Rattle.basis.specs.Basis.{whole_of, divisor_of}
use Rattle.doubles.specs.Number.{Number}
use Rattle.spline_exact.specs.Cubic.{at, cubic}

-- the five; a B-spline's matrix has sixths, which are no doubles
abbrev pub is_exact : Basis → Bool
is_exact Bspline = false
is_exact Bezier = true
is_exact CatmullRom = true
is_exact Hermite = true
is_exact Linear = true
is_exact Power = true

-- every number of a row, every row of a matrix, times n
abbrev pub scaled_row : ℕ → List ℤ → List ℤ
scaled_row n [] = []
scaled_row n (z ∷ zs) = (z *ℤ pos n) ∷ scaled_row n zs

abbrev pub scaled_rows : ℕ → List (List ℤ) → List (List ℤ)
scaled_rows n [] = []
scaled_rows n (r ∷ rs) = scaled_row n r ∷ scaled_rows n rs

-- twice a basis's matrix, where it is made of whole numbers and halves
abbrev pub twice : Basis → List (List ℤ)
twice b = scaled_rows (2 / divisor_of b) (whole_of b)

-- what the cubic over four whole knots comes to at j/256, multiplied by 2^25
abbrev pub exact_of : Basis → List ℤ → ℕ → ℤ
exact_of b z j = cubic (twice b) z j

abbrev pub parts : ℕ
parts = 25

-- each knot is the whole number that stands in its place, at most 2^20 in magnitude
pub record WholeKnots (ks : List Float) (z : List ℤ) : Type 0 where
  pub whole : (i : ℕ) → i < length ks → Number (get_or ks i nan) (at z i) 0
  pub small : (i : ℕ) → i < length ks → nat_abs (at z i) ≤ 2 ^ 20

-- a value is answered, and 2^25 times it is the whole number z
pub record Answers (r : Evaluation) (z : ℤ) : Type 0 where
  pub value : Float
  pub told : r ≡ Ok value
  pub exact : Number value z parts
