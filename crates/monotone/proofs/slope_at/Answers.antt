-- The rows that are read are small, and make the definition's two steps. Assumes nothing.
use mathlib.Core.Path.{◌∙◌}
use Prim.Native.Nat.{◌+◌}
use native.Mathlib.Omega.{arith}
use Rattle.whole.proofs.Held.{small_at}
use Rattle.monotone.specs.Table.{most}
use Rattle.monotone.proofs.Sizes.{slope_held, slope_of}
use Rattle.monotone.proofs.slope_at.Goals as goal

pub raised-x-requires : goal.raised-x-requires
raised-x-requires c = small_at most c.args.rows.now c.requires.small c.saturating_sub-l.result (omega arith)

pub raised-x1-requires : goal.raised-x1-requires
raised-x1-requires c = small_at most c.args.rows.now c.requires.small (c.saturating_sub-l.result + 1) (omega arith)

pub raised-y-requires : goal.raised-y-requires
raised-y-requires c = small_at most c.args.rows.now c.requires.small c.min-h.result (omega arith)

pub raised-y1-requires : goal.raised-y1-requires
raised-y1-requires c = small_at most c.args.rows.now c.requires.small (c.min-h.result + 1) (omega arith)

pub returns : goal.returns
returns c = slope_held c.raised-x.result c.raised-x1.result c.raised-y.result c.raised-y1.result c.raised-x.ensures.most c.raised-x1.ensures.most
    c.raised-y.ensures.most c.raised-y1.ensures.most c.slope.result
    c.slope.ensures ∙ slope_of c.args.rows.now c.args.i c.saturating_sub-l.result c.min-h.result c.raised-x.result c.raised-x1.result
    c.raised-y.result c.raised-y1.result c.saturating_sub-l.ensures c.min-h.ensures c.raised-x.ensures.is c.raised-x1.ensures.is c.raised-y.ensures.is
    c.raised-y1.ensures.is
