-- The invariant: the flag, together with the test of the knots still to come, is the test of all knots.
use Rattle.std.proofs.Common.{refl, arith}
use Rattle.checks.proofs.Scan.{scanned, scanned_all}
use Rattle.checks.proofs.all_in_range.Goals as goal

pub loop-x-init : goal.loop-x-init
loop-x-init c = refl

pub loop-x-preserved : goal.loop-x-preserved
loop-x-preserved c = let l = c.loop-x in scanned _ l.x-index l.good _ (omega arith) l.invariant c.in_range-good.ensures

pub returns : goal.returns
returns c = scanned_all _ c.loop-x.x-index _ (omega arith) c.loop-x.invariant
