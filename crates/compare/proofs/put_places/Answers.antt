-- The invariant is stepped by `upto_more`; at the end all places are told (`upto_all`).
use Rattle.std.proofs.Common.{arith}
use Rattle.text.proofs.Pens.{within}
use Rattle.compare.proofs.Writing.{upto_none, upto_more, upto_all}
use Rattle.compare.proofs.put_places.Goals as goal

pub loop-i-init : goal.loop-i-init
loop-i-init c = upto_none _ _ _

pub loop-i-preserved : goal.loop-i-preserved
loop-i-preserved c =
    let told = c.put_place-told.ensures in
    upto_more _ _ c.loop-i.i (λ h. omega (arith, c.max-end.ensures)) c.loop-i.invariant told.wrote told.count told.most

pub returns : goal.returns
returns c =
    let r = upto_all _ _ c.loop-i.i (omega (arith, c.max-end.ensures)) (omega (arith, c.max-end.ensures)) c.loop-i.invariant in
    record { wrote = within 180224 r.0 (omega (arith, c.max-end.ensures)); count = r.1; places = omega (arith, c.max-end.ensures, c.loop-i.invariant.most) }
