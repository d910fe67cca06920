-- As the line program answers it.
use mathlib.Core.Path.{refl}
use Rattle.picture.proofs.Steps.{answered}
use Rattle.picture.proofs.spanned.Goals as goal

pub returns : goal.returns
returns c = answered c.spanned.ensures refl
