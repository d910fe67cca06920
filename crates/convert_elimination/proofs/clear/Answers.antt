-- The four rows one after another; each is the callee's contract, and `listed` makes a matrix of them.
use Rattle.convert_matrix.proofs.Steps.{listed}
use Rattle.convert_matrix.specs.Elimination.{cleared}
use Rattle.convert_elimination.proofs.clear.Goals as goal

pub returns : goal.returns
unfolding cleared
returns c = listed c.clear_row-r0.ensures c.clear_row-r1.ensures c.clear_row-r2.ensures
    c.clear_row-r3.ensures
