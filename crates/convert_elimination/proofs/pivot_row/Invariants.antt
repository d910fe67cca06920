-- The invariant: the rows passed have a zero in the column, so the first other one is looked for from k on.
use mathlib.Core.Path.{◌≡◌}
use Rattle.convert_matrix.specs.Elimination.{first_nonzero}
use Rattle.convert_elimination.proofs.Steps.{from}
use Rattle.convert_elimination.proofs.pivot_row.Given as goal

abbrev pub invariant-loop-k : goal.invariant-loop-k
invariant-loop-k l = first_nonzero (from l.k) l.a l.i ≡ first_nonzero (from l.i) l.a l.i
