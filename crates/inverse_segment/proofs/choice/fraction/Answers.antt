-- A case for each way through the tests; every way but one gives a half, as in the definition.
use lib.Ieee.{of_bits}
use Rattle.inverse_segment.specs.Round.{fraction, kept}
use Rattle.inverse_segment.proofs.choice.fraction.Goals as goal

pub returns-then-t-2 : goal.returns-then-t-2
unfolding fraction kept of_bits
returns-then-t-2 c = simp (c.if-regula_falsi.true, c.if-t.true, c.if-t-2.true)

pub returns-else-t-2 : goal.returns-else-t-2
unfolding fraction kept of_bits
returns-else-t-2 c = simp (c.if-regula_falsi.true, c.if-t.true, c.if-t-2.false)

pub returns-else-t : goal.returns-else-t
unfolding fraction kept of_bits
returns-else-t c = simp (c.if-regula_falsi.true, c.if-t.false)

pub returns-else-regula_falsi : goal.returns-else-regula_falsi
unfolding fraction kept of_bits
returns-else-regula_falsi c = simp c.if-regula_falsi.false
