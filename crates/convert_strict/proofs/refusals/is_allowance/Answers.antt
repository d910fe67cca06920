-- By the two comparisons. Assumes nothing.
use lib.Ieee.{of_bits, div}
use Rattle.convert_strict.specs.Strict.{allowable}
use Rattle.convert_strict.proofs.refusals.is_allowance.Goals as goal

pub returns-then-x : goal.returns-then-x
unfolding allowable of_bits div
returns-then-x c = simp c.if-x.true

pub returns-else-x : goal.returns-else-x
unfolding allowable of_bits div
returns-else-x c = simp c.if-x.false
