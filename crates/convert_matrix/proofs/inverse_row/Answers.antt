-- The row of the inverse that the callee's contract gives.
use mathlib.Core.Path.{ap}
use Rattle.convert_matrix.specs.Matrix.{Matrix, row}
use Rattle.convert_matrix.proofs.inverse_row.Goals as goal

pub returns : goal.returns
returns c = ap (λ (m : Matrix). row m c.args.i) c.inverse_of-m.ensures
