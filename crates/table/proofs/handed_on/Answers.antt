-- A case for a conversion that was made and for one that was refused.
use mathlib.Core.Path.{refl}
use Rattle.table.proofs.handed_on.Goals as goal

pub returns-in-Err : goal.returns-in-Err
returns-in-Err c = rw c.in-Err.is refl

pub returns-in-Ok : goal.returns-in-Ok
returns-in-Ok c = rw c.in-Ok.is refl
