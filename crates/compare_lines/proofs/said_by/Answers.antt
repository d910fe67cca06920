-- What the line says, or nothing where it is too long.
use Rattle.std.proofs.Common.{refl}
use Rattle.compare_lines.specs.Listings.{says}
use Rattle.compare_lines.proofs.said_by.Goals as goal

pub returns-in-Some : goal.returns-in-Some
unfolding says
returns-in-Some c = rw c.in-Some.is c.said_of.ensures

pub returns-in-None : goal.returns-in-None
unfolding says
returns-in-None c = rw c.in-None.is refl
