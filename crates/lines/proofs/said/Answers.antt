-- What the line says: its record, or none where it is too long.
use Rattle.std.proofs.Common.{refl, ◌∙◌}
use Rattle.lines.specs.Lines.{says}
use Rattle.lines.proofs.said.Goals as goal

pub returns-in-Some : goal.returns-in-Some
unfolding says
returns-in-Some c = rw c.in-Some.is c.record_of.ensures

pub returns-in-None : goal.returns-in-None
unfolding says
returns-in-None c = rw c.in-None.is refl
