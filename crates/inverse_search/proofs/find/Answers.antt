-- Up to 12 segments the tries are the definition's. Above, it halves as often as k has bits: the stop that was told is that of the segment
-- that was entered, or else the last tries are where the halving ended.
use native.Mathlib.Omega.{arith}
use Rattle.inverse_search.proofs.Glue.{found_few, found_last, found_in}
use Rattle.inverse_search.proofs.find.Goals as goal

pub returns-then-k-le-IN_ORDER : goal.returns-then-k-le-IN_ORDER
returns-then-k-le-IN_ORDER c = let a = c.args in
    found_few a.how a.b a.knots.now a.y a.precision a.limit a.rising a.k c.if-k-le-IN_ORDER.true c.tries.ensures

pub last_tries-requires : goal.last_tries-requires
last_tries-requires c = let few = c.halve-s.ensures.count_after c.if-ground-eq0.true in
    record {
      inside = c.requires.inside;
      most = c.requires.most;
      some = c.requires.some;
      segments = c.requires.segments;
      left = omega (arith, c.halve-s.ensures.left);
      count = omega (arith, few, c.bits.ensures.most);
    }

pub returns-then-ground-eq0 : goal.returns-then-ground-eq0
returns-then-ground-eq0 c = let a = c.args in
    found_last a.how a.b a.knots.now a.y a.precision a.limit a.rising a.k c.if-k-le-IN_ORDER.false c.bits.ensures.answer
    c.halve-s.ensures.answer c.if-ground-eq0.true c.last_tries.ensures

pub returns : goal.returns
returns c = let a = c.args in let g = c.if-ground-eq0.false in found_in a.how a.b a.knots.now a.y a.precision a.limit a.rising a.k
    c.if-k-le-IN_ORDER.false c.bits.ensures.answer c.halve-s.ensures.answer (omega (arith, g)) c.ground_of.ensures
