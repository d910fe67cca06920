-- The invariant: the flag, together with the pairs still to come, is the test of all pairs; the second of each pair comes right after the first.
use Rattle.std.proofs.Common.{◌≡◌, ◌&&◌, drop}
use Rattle.inverse_order.specs.Contract.{kept}
use Rattle.inverse_order.proofs.scanned.Given as goal

abbrev pub invariant-loop-a : goal.invariant-loop-a
invariant-loop-a l = ((l.good && kept l.rising l.a-iterator.a.rest.now) ≡ kept l.rising (drop 1 l.knots))
    × (l.a-iterator.b.rest.now ≡ drop 1 l.a-iterator.a.rest.now)
