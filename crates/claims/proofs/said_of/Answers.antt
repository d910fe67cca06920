-- What the line says, or nothing where it is too long.
use Rattle.std.proofs.Common.{refl}
use Rattle.claims.specs.Claims.{says}
use Rattle.claims.proofs.said_of.Goals as goal

pub returns-in-Some : goal.returns-in-Some
unfolding says
returns-in-Some c = rw c.in-Some.is c.said_in.ensures

pub returns-in-None : goal.returns-in-None
unfolding says
returns-in-None c = rw c.in-None.is refl
