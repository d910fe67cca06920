-- Every rounded step of a conversion's window. Definitions only.
use Rattle.std.specs.Prelude.{List, ◌++◌, ℕ, ◌*◌, drop, Float}
use Rattle.basis.specs.declared.Basis.{Basis}
use Rattle.basis.specs.Basis.{step_of}
use Rattle.spline.specs.Segment.{row_steps}
use Rattle.convert_matrix.specs.Matrix.{Matrix, row}
use Rattle.convert_matrix.specs.Elimination.{conversion_of}

-- every product and every sum, as rounded, of a matrix applied to four knots
abbrev pub applied_steps : Matrix → List Float → List Float
applied_steps m cv = row_steps cv (row m 0) ++ row_steps cv (row m 1) ++ row_steps cv (row m 2) ++ row_steps cv (row m 3)

-- of window s of a knot vector
abbrev pub window_steps : Basis → Basis → List Float → ℕ → List Float
window_steps from to ks s = applied_steps (conversion_of from to) (drop (s * step_of from) ks)
