-- The four knots that are handed over are the segment's. Assumes nothing.
use Rattle.whole.specs.Held.{held_all, turned_all}
use Rattle.turns_back.proofs.Verdicts.{four_at_lem}
use Rattle.turns_back.proofs.is_never_falling_at.Goals as goal

pub is_never_falling-requires : goal.is_never_falling-requires
is_never_falling-requires c = record {
  k0 = c.four_from-f.ensures.few0;
  k1 = c.four_from-f.ensures.few1;
  k2 = c.four_from-f.ensures.few2;
  k3 = c.four_from-f.ensures.few3;
}

pub returns : goal.returns
returns c = let a = c.args in
    let r = c.four_from-f.result in
    four_at_lem (turned_all a.up (held_all a.knots.now)) a.at r.k0 r.k1 r.k2 r.k3 c.four_from-f.ensures.is0 c.four_from-f.ensures.is1
    c.four_from-f.ensures.is2 c.four_from-f.ensures.is3 a.b
    c.is_never_falling.ensures
