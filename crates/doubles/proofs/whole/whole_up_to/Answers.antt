-- A guess that passes both comparisons is the answer (`confirmed`); any other is dropped, and halving gives it (`answered`).
use Rattle.doubles.proofs.WholePart.{confirmed}
use Rattle.doubles.proofs.whole.whole_up_to.Goals as goal

pub returns-then-y-double_of : goal.returns-then-y-double_of
returns-then-y-double_of c = let pair = confirmed _ _ _ c.double_of.ensures c.if-double_of-y.true c.double_of-then-double_of-y.ensures
    c.if-y-double_of.true c.min.ensures in record { answer = pair.0; most = pair.1 }

pub returns : goal.returns
returns c = record { answer = c.by_halving.ensures.answer; most = c.by_halving.ensures.most }
