-- By the direction.
use Rattle.ask_verdict.proofs.Texts.{as_told, still, no_text}
use Rattle.ask_verdict.proofs.put_bent.Goals as goal

pub returns-in-Rising : goal.returns-in-Rising
returns-in-Rising c = rw c.in-Rising.is c.put_bend.ensures

pub returns-in-Falling : goal.returns-in-Falling
returns-in-Falling c = rw c.in-Falling.is c.put_bend-in-Falling.ensures

pub returns-in-Level : goal.returns-in-Level
returns-in-Level c = rw c.in-Level.is (as_told no_text (still 12 _))
