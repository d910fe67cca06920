-- A guess that passes both comparisons is the whole part (`met`); any other is dropped.
use Rattle.many.proofs.Places.{met}
use Rattle.many.proofs.values.spot.Goals as goal

pub returns-then-p-double_of : goal.returns-then-p-double_of
returns-then-p-double_of c = let a = c.args in
    met a.k _ a.p c.if-w-k.true c.double_of-d.ensures
    c.if-d-p.true c.double_of.ensures c.if-p-double_of.true
