-- Where the number is 5 the first NaN is looked for; any other refusal stays as it is.
use Rattle.many.proofs.Many.{told_which, told_same}
use Rattle.many.proofs.told.Goals as goal

pub returns-then-number-eq5 : goal.returns-then-number-eq5
returns-then-number-eq5 c = let a = c.args in
    told_which a.r a.xs.now c.number.ensures c.if-number-eq5.true c.first_nan.ensures

pub returns : goal.returns
returns c = told_same c.args.r c.args.xs.now c.number.ensures c.if-number-eq5.false
