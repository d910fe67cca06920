-- The bytes of the line, or too many.
use Rattle.std.proofs.Common.{refl}
use Rattle.ask.proofs.is_line.Goals as goal

pub returns-in-Some : goal.returns-in-Some
returns-in-Some c = rw c.in-Some.is c.is_word.ensures

pub returns-in-None : goal.returns-in-None
returns-in-None c = rw c.in-None.is refl
