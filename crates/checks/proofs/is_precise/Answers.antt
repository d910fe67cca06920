-- A case for each side of the first comparison; the second is with infinity, which the code makes by a division.
use lib.Ieee.{of_bits, div}
use Rattle.checks.specs.Checks.{precise}
use Rattle.checks.proofs.is_precise.Goals as goal

pub returns-then-precision : goal.returns-then-precision
unfolding precise of_bits div
returns-then-precision c = simp c.if-precision.true

pub returns-else-precision : goal.returns-else-precision
unfolding precise of_bits div
returns-else-precision c = simp c.if-precision.false
