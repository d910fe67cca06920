-- The invariant: the columns still to come make of the matrix at hand what all columns make of the first one. A missing pivot ends both
-- sides alike.
use mathlib.Core.Path.{◌≡◌}
use Rattle.convert_matrix.specs.Elimination.{columns}
use Rattle.convert_elimination.proofs.Steps.{from}
use Rattle.convert_elimination.proofs.invert_4x4.Given as goal

abbrev pub invariant-loop-i : goal.invariant-loop-i
invariant-loop-i l = columns (from l.i) l.a ≡ columns (from 0) l.initial.a
