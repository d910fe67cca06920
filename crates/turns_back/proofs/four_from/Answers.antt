-- The four knots that the code reads are those from the place on. Assumes nothing.
use mathlib.Core.Path.{sym, ◌∙◌}
use Prim.Native.Nat.{◌+◌}
use native.Mathlib.Omega.{arith}
use Rattle.turns_back.specs.Call.{most}
use Rattle.whole.proofs.Held.{turned_knot, small_at}
use Rattle.turns_back.proofs.four_from.Goals as goal

pub raised-k0-requires : goal.raised-k0-requires
raised-k0-requires c = small_at most c.args.knots.now c.requires.small c.args.at (omega arith)

pub raised-k1-requires : goal.raised-k1-requires
raised-k1-requires c = small_at most c.args.knots.now c.requires.small (c.args.at + 1) (omega arith)

pub raised-k2-requires : goal.raised-k2-requires
raised-k2-requires c = small_at most c.args.knots.now c.requires.small (c.args.at + 2) (omega arith)

pub raised-k3-requires : goal.raised-k3-requires
raised-k3-requires c = small_at most c.args.knots.now c.requires.small (c.args.at + 3) (omega arith)

pub returns : goal.returns
returns c = let ks = c.args.knots.now in
    let u = c.args.up in
    let m = c.args.at in
    record {
      is0 = c.raised-k0.ensures.is ∙ sym (turned_knot u ks m);
      is1 = c.raised-k1.ensures.is ∙ sym (turned_knot u ks (m + 1));
      is2 = c.raised-k2.ensures.is ∙ sym (turned_knot u ks (m + 2));
      is3 = c.raised-k3.ensures.is ∙ sym (turned_knot u ks (m + 3));
      few0 = c.raised-k0.ensures.most;
      few1 = c.raised-k1.ensures.most;
      few2 = c.raised-k2.ensures.most;
      few3 = c.raised-k3.ensures.most;
    }
