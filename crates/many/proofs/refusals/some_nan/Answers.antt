-- The invariant: the flag, together with the test of the parameters still to come, is the test of all.
use Rattle.std.proofs.Common.{refl, arith}
use Rattle.many.proofs.Scan.{scanned, scanned_all}
use Rattle.many.proofs.refusals.some_nan.Goals as goal

pub loop-x-init : goal.loop-x-init
loop-x-init c = refl

pub loop-x-preserved : goal.loop-x-preserved
loop-x-preserved c = let l = c.loop-x in scanned _ l.x-index l.found _ (omega arith) l.invariant c.is_nan-found.ensures.value

pub returns : goal.returns
returns c = scanned_all _ c.loop-x.x-index _ (omega arith) c.loop-x.invariant
