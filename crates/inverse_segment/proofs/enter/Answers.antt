-- The row sums and end values are the definition's; where they enclose the target, the stop is the method's.
use Rattle.inverse_segment.proofs.Trying.{tried_inside, tried_outside}
use Rattle.inverse_segment.proofs.enter.Goals as goal

pub returns-then-encloses : goal.returns-then-encloses
returns-then-encloses c = let a = c.args in
    tried_inside a.how a.b a.cv.now a.y a.precision a.limit a.n c.ends_in-ends.ensures
    c.encloses.ensures c.if-encloses.true c.entered.ensures

pub returns : goal.returns
returns c = let a = c.args in tried_outside a.how a.b a.cv.now a.y a.precision a.limit a.n c.ends_in-ends.ensures
    c.encloses.ensures c.if-encloses.false
