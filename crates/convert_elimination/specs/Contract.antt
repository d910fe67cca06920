-- The elimination's answer as the code hands it on. Definitions only.
use Rattle.convert_matrix.specs.Matrix.{Matrix}
use Rattle.convert_matrix.specs.Elimination.{Elimination, goes, no_inverse}
use Rattle.std.specs.Prelude.{◌<◌, Option, Some, None, ℕ}

-- the four rows of the inverse, if there is one
abbrev pub shown : Elimination → Option Matrix
shown (goes a) = Some a
shown no_inverse = None

-- a row that was found is one of the four
abbrev pub Found : Option ℕ → Type 0
Found (Some k) = k < 4
Found None = Unit
