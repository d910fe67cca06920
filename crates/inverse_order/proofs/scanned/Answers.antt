-- The invariant: the flag, together with the pairs still to come, is the test of all pairs; the second of each pair comes right after the first.
use Rattle.std.proofs.Common.{inl, inr}
use Rattle.inverse_order.proofs.Scan.{pair_more, pairs_done}
use Rattle.inverse_order.proofs.scanned.Goals as goal

pub loop-a-preserved : goal.loop-a-preserved
loop-a-preserved c = pair_more c.args.rising c.loop-a.good _ c.loop-a.invariant.0 c.loop-a.invariant.1 c.in-Some.ensures.steps.0
    c.in-Some.ensures.steps.1 c.follows_in-good.ensures

pub returns : goal.returns
returns c = pairs_done c.args.rising _ c.loop-a.good c.loop-a.invariant.0 c.loop-a.invariant.1
    (elim c.in-None.ensures.steps [ inl p ↦ inl p.1.0 | inr p ↦ inr p.1.0 ])
