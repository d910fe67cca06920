-- The rows passed have a zero in the column: the row that is found is the first other one, and where the rows end there is none.
use lib.Ieee.{of_bits, ne}
use mathlib.Core.Path.{◌∙◌}
use borrow.Author.Tests.{not-true, not-false}
use Rattle.convert_elimination.proofs.Steps.{passed_by, found, none_left}
use Rattle.convert_elimination.proofs.pivot_row.Goals as goal

pub returns-then-a-k-clause-answer : goal.returns-then-a-k-clause-answer
unfolding of_bits ne
returns-then-a-k-clause-answer c = found _ _ _ c.loop-k-test.true (not-true _ c.if-a-k.true) ∙ c.loop-k.invariant

pub loop-k-preserved : goal.loop-k-preserved
unfolding of_bits ne
loop-k-preserved c = passed_by _ _ _ c.loop-k-test.true (not-false _ c.if-a-k.false) ∙ c.loop-k.invariant

pub returns-clause-answer : goal.returns-clause-answer
returns-clause-answer c = none_left _ _ _ c.loop-k-test.false ∙ c.loop-k.invariant
