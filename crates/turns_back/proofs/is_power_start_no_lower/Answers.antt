-- The knots of the segment before, and the fourth of this one, as the code reads them. Assumes nothing.
use Prim.Native.Nat.{◌+◌, ◌-◌, ◌*◌}
use native.Mathlib.Omega.{arith}
use Rattle.whole.specs.Held.{held_all, turned_all}
use Rattle.turns_back.specs.Call.{most}
use Rattle.whole.proofs.Held.{small_at}
use Rattle.turns_back.proofs.Seams.{power_first, power_later}
use Rattle.turns_back.proofs.is_power_start_no_lower.Goals as goal

pub returns-then-s-eq0 : goal.returns-then-s-eq0
returns-then-s-eq0 c = power_first (turned_all c.args.up (held_all c.args.knots.now)) c.args.s c.if-s-eq0.true

pub raised-a-requires : goal.raised-a-requires
raised-a-requires c = small_at most c.args.knots.now c.requires.small (4 * c.args.s - 4) (omega arith)

pub raised-b-requires : goal.raised-b-requires
raised-b-requires c = small_at most c.args.knots.now c.requires.small (4 * c.args.s - 3) (omega arith)

pub raised-c-requires : goal.raised-c-requires
raised-c-requires c = small_at most c.args.knots.now c.requires.small (4 * c.args.s - 2) (omega arith)

pub raised-d-requires : goal.raised-d-requires
raised-d-requires c = small_at most c.args.knots.now c.requires.small (4 * c.args.s - 1) (omega arith)

pub raised-e-requires : goal.raised-e-requires
raised-e-requires c = small_at most c.args.knots.now c.requires.small (4 * c.args.s + 3) (omega arith)

pub returns : goal.returns
returns c = power_later c.args.up c.args.knots.now c.args.s c.raised-a.result
    c.raised-b.result c.raised-c.result
    c.raised-d.result c.raised-e.result c.if-s-eq0.false
    c.raised-a.ensures.is
    c.raised-b.ensures.is
    c.raised-c.ensures.is c.raised-d.ensures.is c.raised-e.ensures.is
