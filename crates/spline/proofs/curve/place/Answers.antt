-- The clamp and the product are the callees' contracts. `spotted` joins the whole part to the definition's segment and local
-- place, and `spotted_by` does where the guess passes both comparisons.
use native.Mathlib.Omega.{arith}
use Rattle.spline.proofs.Parts.{spotted, spotted_by}
use Rattle.spline.proofs.curve.place.Goals as goal

pub returns-then-p-double_of : goal.returns-then-p-double_of
returns-then-p-double_of c = spotted_by _ _ _ (omega (arith, c.if-n-k.true)) c.clamped.ensures c.double_of.ensures c.double_of-d.ensures
    c.if-d-p.true c.double_of-then-d-p.ensures c.if-p-double_of.true

pub returns : goal.returns
returns c = spotted _ _ (omega arith) c.clamped.ensures c.double_of.ensures
    c.whole_up_to-s.ensures.answer c.whole_up_to-s.ensures.most c.double_of-2.ensures
