-- Before each round `held` is the part of the output from segment s on, and none of the segments up to s loses a double. Assumes nothing.
use mathlib.Core.Path.{sym}
use native.Mathlib.Omega.{arith}
use Rattle.convert_strict.proofs.Scan.{first_held, begun, next_held, seam_lost, seam_kept, none_lost}
use Rattle.convert_strict.proofs.seams.lost_seam.Goals as goal

pub loop-s-init : goal.loop-s-init
loop-s-init c = let a = c.args in (
  first_held a.m a.step a.stride a.allowance a.knots.now 0 _ c.sums-held.ensures,
  begun a.m a.step a.stride a.allowance a.knots.now _,
)

pub returns-then-loses-clause-lowest : goal.returns-then-loses-clause-lowest
returns-then-loses-clause-lowest c = let a = c.args in
    seam_lost a.m a.step a.stride a.allowance a.knots.now _ c.loop-s.s c.loop-s.held
    c.sums-w.result c.requires.few c.loop-s-test.true c.loop-s.invariant.0
    c.sums-w.ensures c.loop-s.invariant.1 c.loses.result c.loses.ensures c.if-loses.true

pub loop-s-preserved : goal.loop-s-preserved
loop-s-preserved c = let a = c.args in
    let u = next_held a.m a.step a.stride a.allowance a.knots.now _ c.loop-s.s c.loop-s.held c.sums-w.result
    c.requires.few c.loop-s-test.true c.loop-s.invariant.0 c.sums-w.ensures _ c.shifted-next.ensures in (
      u,
      seam_kept a.m a.step a.stride a.allowance a.knots.now _ c.loop-s.s c.loop-s.held c.sums-w.result
          c.requires.few c.loop-s-test.true c.loop-s.invariant.0 c.sums-w.ensures c.loop-s.invariant.1
          c.loses.result c.loses.ensures c.if-loses.false,
    )

pub returns-clause-lowest : goal.returns-clause-lowest
returns-clause-lowest c = let a = c.args in
    sym (none_lost a.m a.step a.stride a.allowance a.knots.now _ c.loop-s.s (omega arith) c.loop-s.invariant.1)
