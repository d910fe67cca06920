-- The bytes of the line, or too many.
use Rattle.ask_answers.proofs.Questions.{too_long}
use Rattle.ask_answers.proofs.asked.Goals as goal

pub returns-in-Some : goal.returns-in-Some
returns-in-Some c = rw c.in-Some.is c.by_line.ensures

pub returns-in-None : goal.returns-in-None
returns-in-None c = rw c.in-None.is too_long
