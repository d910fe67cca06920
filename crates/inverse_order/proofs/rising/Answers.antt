-- The code compares the definition's two knots; both lie in the slice, since there are four or more.
use mathlib.Core.Path.{refl}
use Rattle.inverse_order.proofs.rising.Goals as goal

pub returns : goal.returns
returns c = refl
