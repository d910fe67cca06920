-- The invariant says that the answer lies from `low` to `high`; each comparison keeps it, and the distance between the two falls.
use Rattle.std.proofs.Common.{◌+◌, ◌/◌, arith}
use Rattle.doubles.proofs.WholePart.{begun, raised, lowered, met, answered}
use Rattle.doubles.proofs.whole.by_halving.Goals as goal

pub loop-low-init : goal.loop-low-init
loop-low-init c = begun _ _

pub int_to_float-mid : goal.int_to_float-mid
int_to_float-mid c = tt

pub loop-low-preserved-then-mid-y : goal.loop-low-preserved-then-mid-y
loop-low-preserved-then-mid-y c = raised ((c.loop-low.low + c.loop-low.high + 1) / 2) (omega arith) c.loop-low.invariant c.if-mid-y.true

pub loop-low-preserved : goal.loop-low-preserved
loop-low-preserved c = lowered ((c.loop-low.low + c.loop-low.high + 1) / 2) (omega arith) (omega arith) c.loop-low.invariant c.if-mid-y.false

pub returns : goal.returns
returns c = let pair = answered _ _ (met c.loop-low.invariant (omega arith)) in record { answer = pair.0; most = pair.1 }
